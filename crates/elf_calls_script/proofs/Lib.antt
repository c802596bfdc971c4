mod Pieces
mod Values
mod Narrowed
mod Said
mod Tables
mod TextWords
mod FieldTables
mod LinesRead

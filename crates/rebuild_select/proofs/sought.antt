pub mod NameLaws
mod RowLaws

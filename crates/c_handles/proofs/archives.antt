mod AnyArchive
mod Boxes
mod Openings

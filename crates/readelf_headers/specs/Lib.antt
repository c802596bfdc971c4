pub mod Header
pub mod Segments
pub mod Sections
pub mod SectionBlocks

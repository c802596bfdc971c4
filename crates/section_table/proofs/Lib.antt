pub use Rattle.section_data.proofs.elf_object
pub use Rattle.section_data.proofs.elf_outside
pub use Rattle.section_data.proofs.elf_xlate
pub use Rattle.section_data.proofs as section_data
pub mod Present
pub mod Views
pub mod CellsMade
pub mod Beginnings
pub mod Growing
pub mod AsOpened

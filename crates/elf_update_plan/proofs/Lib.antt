pub use Rattle.elf_descriptor.proofs as elf_descriptor
pub use Rattle.elf_descriptor.proofs.elf_object
pub use Rattle.elf_descriptor.proofs.elf_outside
pub use Rattle.elf_descriptor.proofs.elf_xlate
pub use Rattle.elf_descriptor.proofs.law_object
pub mod RowLaws
mod SegmentLaws
pub mod PartLaws
pub mod PlacingLaws
mod ContentLaws
pub mod InFileLaws

pub use Rattle.elf_object.proofs as elf_object
pub use Rattle.elf_object.proofs.elf_outside
pub use Rattle.elf_xlate.proofs as elf_xlate
pub mod Holdings
pub mod Items
pub mod Loading
pub mod Preparing
pub mod Owning
pub mod Edits
pub mod Rules
pub mod Sizes
pub mod Rounding
pub mod Runs
pub mod LeadingPieces
pub mod LastNuls
pub mod Keeping
pub mod Reserving

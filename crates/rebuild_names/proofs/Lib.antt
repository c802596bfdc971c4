pub use Rattle.strtab_shared.proofs.elf_xlate
pub use Rattle.rebuild_numbers.proofs as rebuild_numbers
pub mod CopyLaws
pub mod AddLaws
pub mod KnownLaws
mod BelowLaws
mod BuildLaws

pub use Rattle.elf_ident.proofs as elf_ident
pub use Rattle.elf_layout.proofs as elf_layout
pub use Rattle.elf_ident.proofs.elf_outside
pub use Rattle.elf_ident.proofs.elf_xlate
pub use Rattle.strtab_build.proofs as strtab_build
pub mod PassedLaws
pub mod StepLaws
pub mod AnswerLaws
pub mod ChangedLaws
pub mod HomeLaws
pub mod PieceLaws
pub mod Sizes
pub mod Computing
pub mod DueLaws
pub mod ItemCounts
pub mod RefusalLaws
pub mod RunningEnds
pub mod SettledSections

pub use Rattle.elf_descriptor.proofs as elf_descriptor
pub use Rattle.elf_descriptor.proofs.elf_object
pub use Rattle.elf_descriptor.proofs.elf_xlate
pub use Rattle.elf_descriptor.proofs.law_object
pub use Rattle.elf_descriptor.proofs.section_data
mod NulLemmas
pub mod EndedStrings
mod NumberLemmas
mod NoteLemmas
mod Rules
pub mod PieceBytes
mod FetchLemmas
pub mod LendLemmas
mod FoundLemmas
mod NoteAnswers
mod StackLemmas
mod HomeLemmas
mod StringLemmas
mod StringCalls
mod TableStrings
mod NameCalls
mod IndexTables
mod SymbolLemmas
mod SymbolCalls
pub mod ChainLemmas
mod ChainCalls
mod CountLemmas
pub mod Passed

pub use Rattle.gelf_view.proofs.elf_descriptor
pub use Rattle.gelf_view.proofs.elf_object
pub use Rattle.gelf_view.proofs.elf_xlate
pub use Rattle.gelf_view.proofs as gelf_view
pub use Rattle.gelf_view.proofs.law_object
pub use Rattle.gelf_view.proofs.section_data
pub use Rattle.tool_output.proofs as tool_output
pub mod AnswerLemmas
pub mod ElfSteps
mod FileLemmas
pub mod ImageLemmas
pub mod LearnLemmas
mod LetGo
pub mod ListCounts
mod MemberAsked
mod MemberLemmas
mod NameLemmas
mod ObtainLemmas
mod PassSteps
pub mod OnceReads
pub mod OnceSums
pub mod QueryLemmas
pub mod Rules
pub mod SectionLemmas
pub mod ShowLemmas
pub mod SourceSteps
pub mod Passed

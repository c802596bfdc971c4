pub use Rattle.elf_ident.specs as elf_ident
pub use Rattle.elf_layout.specs as elf_layout
pub use Rattle.elf_ident.specs.elf_outside
pub use Rattle.elf_ident.specs.elf_xlate
pub use Rattle.strtab_build.specs as strtab_build
pub mod Words
pub mod Blocks
pub mod Object
pub mod Open
pub mod Sections
pub mod Answers
pub mod Joined
pub mod Derived
pub mod Layout
pub mod Image
pub mod Refusal
pub mod Settled
pub mod Changed
pub mod Due
pub mod Steps
pub mod Calls
pub mod Runs
pub mod SymbolSections
pub mod Strings
pub mod Valid
pub mod Samples
pub mod Passed

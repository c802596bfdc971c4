pub use Rattle.strtab_shared.specs.elf_xlate
pub use Rattle.rebuild_numbers.specs as rebuild_numbers
pub mod Known
pub mod Names
pub mod Calls

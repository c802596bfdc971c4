pub use Rattle.elf_calls_apply.specs as elf_calls_apply
pub use Rattle.elf_calls_generate.specs as elf_calls_generate
pub use Rattle.elf_calls_script.specs as elf_calls_script

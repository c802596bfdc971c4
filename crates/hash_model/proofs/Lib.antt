pub use Rattle.elf_object.proofs.elf_ident
pub use Rattle.elf_object.proofs.elf_layout
pub use Rattle.elf_object.proofs as elf_object
pub use Rattle.elf_object.proofs.elf_outside
pub use Rattle.elf_object.proofs.elf_xlate
pub use Rattle.elf_object.proofs.strtab_build

pub use Rattle.elf_update_in_place.specs as elf_update_in_place
pub use Rattle.elf_update_to.specs as elf_update_to
pub use Rattle.elf_update_to.specs.elf_object

pub use Rattle.elf_update_plan.specs.elf_descriptor
pub use Rattle.elf_update_plan.specs.elf_object
pub use Rattle.elf_update_plan.specs as elf_update_plan
pub use Rattle.elf_update_plan.specs.law_object
pub mod Texts
pub mod Origins
pub mod Pieces
pub mod Emits
pub mod Descriptors
pub mod Updates
pub mod Passed

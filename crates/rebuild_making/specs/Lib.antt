pub use Rattle.elf_update_plan.specs.elf_descriptor
pub use Rattle.rebuild_model.specs.elf_object
pub use Rattle.rebuild_model.specs.elf_outside
pub use Rattle.rebuild_model.specs as rebuild_model
pub mod Refused
pub mod Made
pub mod Based
pub mod Making
pub mod Placing
pub mod Passed

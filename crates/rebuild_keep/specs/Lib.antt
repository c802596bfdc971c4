pub use Rattle.elf_update_plan.specs.elf_descriptor
pub use Rattle.elf_update_plan.specs.elf_object
pub use Rattle.elf_update_plan.specs as elf_update_plan
pub use Rattle.rebuild_making.specs as rebuild_making
pub use Rattle.rebuild_numbers.specs.rebuild_model
pub use Rattle.rebuild_numbers.specs.rebuild_select
pub mod Makes
pub mod Homes
pub mod Keepers
pub mod Answers
pub mod Numbers
pub mod Ends
pub mod Passed

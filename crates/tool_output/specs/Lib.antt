pub use Rattle.elf_outside.specs as elf_outside
pub mod Files
pub mod Lines
pub mod Made
pub mod Marks
pub mod Messages
pub mod Names
pub mod Outcomes
pub mod Reports
pub mod Sources
pub mod Statuses
pub mod Steps
pub mod Stops
pub mod Columns

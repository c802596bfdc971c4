pub use Rattle.law_object.specs.elf_ident
pub use Rattle.law_object.specs.elf_object
pub use Rattle.law_object.specs as law_object
pub use Rattle.rebuild_model.specs as rebuild_model
pub mod Strip
pub mod Copy

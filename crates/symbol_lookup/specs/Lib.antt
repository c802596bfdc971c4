pub use Rattle.gelf_view.specs.elf_descriptor
pub use Rattle.hash_model.specs.elf_ident
pub use Rattle.hash_model.specs.elf_object
pub use Rattle.gelf_view.specs as gelf_view
pub use Rattle.hash_model.specs as hash_model
pub mod Walks
pub mod Lookups
pub mod Searches
pub mod Laws
pub mod Passed

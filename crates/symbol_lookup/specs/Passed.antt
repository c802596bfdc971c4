-- What the crates above may unfold of the crates below.
unfoldable pub use Rattle.hash_model.specs.elf_object.Object.{header_of}
unfoldable pub use Rattle.hash_model.specs.HashSections.{sysv_words}

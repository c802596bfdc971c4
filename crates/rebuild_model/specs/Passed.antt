-- What the crates above may unfold of the crates below.
unfoldable pub use Rattle.hash_model.specs.elf_layout.Layout.{limit_of}
unfoldable pub use Rattle.hash_model.specs.elf_object.Sections.{is_allocated, is_relocations}

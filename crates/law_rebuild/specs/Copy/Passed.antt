-- What the crates above may unfold of the crates below.
unfoldable pub use Rattle.law_object.specs.elf_ident.Front.{zero_shdr}

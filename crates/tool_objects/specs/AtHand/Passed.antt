-- What the crates above may unfold of the crates below.
unfoldable pub use Rattle.gelf_view.specs.elf_object.Calls.{home_answer, shdr_answer}
unfoldable pub use Rattle.gelf_view.specs.elf_object.Object.{header_of}

-- What the crates above may unfold of the crates below.
unfoldable pub use Rattle.gelf_view.specs.elf_descriptor.Homes.{out_answer}
pub use Rattle.gelf_view.specs.elf_object.Answers.{kind_code}
unfoldable pub use Rattle.gelf_view.specs.elf_object.Calls.{piece_kind_answer, pieces_answer, shdr_answer}
unfoldable pub use Rattle.gelf_view.specs.elf_object.Object.{header_of}
unfoldable pub use Rattle.gelf_view.specs.elf_object.Open.{home_len}
unfoldable pub use Rattle.gelf_view.specs.elf_object.Sections.{info_is_section, is_allocated, is_of, is_relocations}

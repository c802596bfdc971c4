-- What the crates above may unfold of the crates below.
pub use Rattle.elf_object.specs.Answers.{kind_code}
unfoldable pub use Rattle.elf_object.specs.Calls.{shdr_answer}
unfoldable pub use Rattle.elf_object.specs.Object.{header_of}
unfoldable pub use Rattle.elf_object.specs.Sections.{is_of}
unfoldable pub use Rattle.elf_object.specs.Strings.{symbol_name}

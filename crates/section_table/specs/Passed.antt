-- What the crates above may unfold of the crates below.
unfoldable pub use Rattle.section_data.specs.elf_object.Blocks.{same_extent}
unfoldable pub use Rattle.section_data.specs.elf_object.Calls.{phdr_answer, shdr_answer}
unfoldable pub use Rattle.section_data.specs.elf_object.Open.{standing_header}
unfoldable pub use Rattle.section_data.specs.Held.{ready}

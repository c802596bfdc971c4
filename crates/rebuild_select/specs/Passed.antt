-- What the crates above may unfold of the crates below.
unfoldable pub use Rattle.rebuild_model.specs.Followed.{followed_header, is_section_number}
unfoldable pub use Rattle.gelf_view.specs.elf_descriptor.Homes.{out_answer}
pub use Rattle.rebuild_model.specs.elf_object.Answers.{kind_code}
unfoldable pub use Rattle.rebuild_model.specs.elf_object.Sections.{info_is_section, is_loose, is_of}

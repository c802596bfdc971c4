-- What the crates above may unfold of the crates below.
unfoldable pub use Rattle.section_table.specs.elf_layout.Capping.{capped}
unfoldable pub use Rattle.section_table.specs.elf_object.Answers.{flags_of, part_refusal, piece_count, piece_refusal}
unfoldable pub use Rattle.section_table.specs.elf_object.Calls.{addr_answer, dyn_answer, flags_answer, half_answer, home_answer, piece_align_answer, piece_kind_answer, pieces_answer, rel_answer, rela_answer, shdr_answer, sym_answer, word_answer}
unfoldable pub use Rattle.section_table.specs.elf_object.Layout.{parts_of, section_part}
unfoldable pub use Rattle.section_table.specs.elf_object.Object.{has_file_bytes, header_of, home_is_clean, piece_at}
unfoldable pub use Rattle.section_table.specs.elf_object.Refusal.{content_refusal, missing_in_section, too_many, unfit_in_piece}

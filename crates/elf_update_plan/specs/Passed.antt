-- What the crates above may unfold of the crates below.
unfoldable pub use Rattle.elf_descriptor.specs.elf_object.Answers.{piece_count, piece_refusal}
unfoldable pub use Rattle.elf_descriptor.specs.elf_object.Calls.{piece_align_answer}
unfoldable pub use Rattle.elf_descriptor.specs.elf_object.Image.{kept_base}

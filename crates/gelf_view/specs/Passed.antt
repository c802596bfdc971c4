-- What the crates above may unfold of the crates below.
unfoldable pub use Rattle.elf_descriptor.specs.Homes.{out_answer}
unfoldable pub use Rattle.elf_descriptor.specs.elf_object.Calls.{home_answer, phdr_answer, shdr_answer}

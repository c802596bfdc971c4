-- What the crates above may unfold of the crates below.
unfoldable pub use Rattle.elf_update_plan.specs.elf_descriptor.Homes.{out_answer}
unfoldable pub use Rattle.elf_update_plan.specs.elf_object.Blocks.{same_extent}
unfoldable pub use Rattle.elf_update_plan.specs.elf_object.Calls.{flags_answer}
unfoldable pub use Rattle.elf_update_plan.specs.elf_object.Changed.{is_moved, section_changed}

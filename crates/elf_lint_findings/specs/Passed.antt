-- What the crates above may unfold of the crates below.
unfoldable pub use Rattle.tool_objects.specs.elf_object.Object.{header_of}

-- What the crates above may unfold of the crates below.
unfoldable pub use Rattle.elf_ident.specs.elf_xlate.Items.{dyn_fits, rel_fits, rela_fits, sym_fits}

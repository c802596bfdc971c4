-- What the crates above may unfold of the crates below.
unfoldable pub use Rattle.rebuild_making.specs.rebuild_model.Split.{matches, same_header, same_loaded, same_phdr}

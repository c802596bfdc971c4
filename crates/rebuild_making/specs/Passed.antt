-- What the crates above may unfold of the crates below.
unfoldable pub use Rattle.rebuild_model.specs.Followed.{members_follow, symbols_follow}

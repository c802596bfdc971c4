-- Bytes that are held behind others, and their range.
use Rattle.std.specs.Prelude.{◌≡◌, ℕ, true, List, ◌++◌, length}
use Rattle.rebuild_image.specs.declared.ranges.ranges.ByteRange.{ByteRange}
use Rattle.rebuild_image.specs.Ranges.Ranges.{range_bytes}

-- bytes were appended to those that are held, and this is their range
pub record HoldsAppended (bytes old new : List ℕ) (range : ByteRange) : Type 0 where
  pub all : new ≡ old ++ bytes
  pub held : range.held ≡ true
  pub at : range.at ≡ length old
  pub len : range.len ≡ length bytes

-- it stays their range, whatever is held behind them
abbrev pub HeldBytesStay : Type 0
HeldBytesStay =
    (bytes old new more base : List ℕ) (range : ByteRange) → HoldsAppended bytes old new range
    → range_bytes (new ++ more) base range ≡ bytes

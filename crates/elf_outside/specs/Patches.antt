-- What a call that is generic over a device does to it, as Asks says of one over a source.
use Rattle.std.specs.Prelude.{◌≡◌, ◌≤◌, ℕ, List, Result, OnOk, OnErr}
use Rattle.elf_types.specs.declared.errors.ElfError.{ElfError}
use Rattle.elf_outside.specs.Counts.{RaisedAtMost}
use Rattle.elf_outside.specs.Asks.{DeviceReadRose}
use Rattle.elf_outside.specs.Writes.{WritesOver, TearsOver}
use Rattle.elf_outside.specs.Puts.{WriteRose}
use Rattle.elf_outside.specs.declared.sources.Source.{Ghosts as SourceGhosts}
use Rattle.elf_outside.specs.declared.devices.Device.{Ghosts as DeviceGhosts}

-- a call that reads and writes a device, whatever it writes: what it leaves, how its faults show,
-- and that it asks for at most `asked` bytes and gives at most `handed`
pub record UsesDevice {D T : Type 0} (s : SourceGhosts D) (d : DeviceGhosts D)
    (result : Result T ElfError) (old new : D) (asked handed : ℕ) : Type 0 where
  pub rest_after : d.rest_after new ≡ d.rest_after old
  pub later : s.faults old ≤ s.faults new
  pub read : DeviceReadRose result (s.faults old) (s.faults new)
  pub write_later : d.write_faults old ≤ d.write_faults new
  pub write : WriteRose result (d.write_faults old) (d.write_faults new)
  pub taken : RaisedAtMost (s.taken old) (s.taken new) asked
  pub given : RaisedAtMost (d.given old) (d.given new) handed

-- a call that writes a piece over the bytes from a place on, and reads nothing: besides, it keeps
-- the length; an Ok left the piece there and each other byte as it was, and a refusal each byte of
-- the range old or new
pub record Patches {D T : Type 0} (s : SourceGhosts D) (d : DeviceGhosts D)
    (result : Result T ElfError) (old new : D) (at : ℕ) (piece : List ℕ) (handed : ℕ) : Type 0 where
  pub uses : UsesDevice s d result old new 0 handed
  pub faults : s.faults new ≡ s.faults old
  pub len : s.size new ≡ s.size old
  pub ok : OnOk result (WritesOver (s.holds old) (s.holds new) at piece)
  pub err : OnErr result (TearsOver (s.holds old) (s.holds new) at piece)

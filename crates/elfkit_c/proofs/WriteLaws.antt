-- What the handle of writes holds once the writes that were taken from it are put back.
use Rattle.std.proofs.Common.{◌≡◌, true, ◌∙◌}
use Rattle.c_handles.specs.declared.writes.handle.WritesHandle.{WritesHandle}
use Rattle.c_handles.specs.declared.writes.planned.PlannedWrites.{PlannedWrites}
use Rattle.elfkit_c.specs.Writes.{KeepsWrites}

pub keeps_writes : (old new : WritesHandle) (writes : PlannedWrites) → writes ≡ old.held
    → (new.full ≡ true) × (new.held ≡ writes) → KeepsWrites old new
keeps_writes old new writes taken put = (put.0, put.1 ∙ taken)

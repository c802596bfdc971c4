use Rattle.std.proofs.Common.{List, ℕ, subst}
use Rattle.rebuild_copy.specs.Edits.{HasOtherBytes}
use Rattle.rebuild_copy.proofs.FindLaws.{memory_alters}
use Rattle.rebuild_copy.proofs.UpdateLaws.{bytes_alter}
use Rattle.rebuild_copy.proofs.updating.put_update.Goals as goal

pub returns-in-Ok : goal.returns-in-Ok
returns-in-Ok c =
    bytes_alter c.args.s c.args.bytes.now c.args.x.now c.put_bytes.new.x
    (subst (λ (l : List ℕ). HasOtherBytes c.args.s l c.args.x.now c.put_bytes.new.x)
    c.as_slice.ensures c.in-Ok.ensures.ok)

pub returns-in-Err : goal.returns-in-Err
returns-in-Err c =
    memory_alters _ _ c.in-Err.e c.args.x.now c.put_bytes.new.x c.in-Err.ensures.err

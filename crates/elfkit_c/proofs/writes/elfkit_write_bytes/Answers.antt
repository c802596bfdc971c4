use Rattle.std.proofs.Common.{◌≡◌, length, slice_get, IfSome, sym, subst, ◌∙◌}
use Rattle.c_handles.specs.declared.writes.planned.PlannedWrites.{PlannedWrites}
use Rattle.elfkit_c.proofs.WriteLaws.{keeps_writes}
use Rattle.elfkit_c.proofs.writes.elfkit_write_bytes.Goals as goal

pub give_write_bytes-requires : goal.give_write_bytes-requires
give_write_bytes-requires c =
    subst (λ (x : PlannedWrites). IfSome (slice_get x.list c.args.i)
    (λ w. length c.args.out.now ≡ length w.bytes))
    (sym (c.as_ref.ensures ∙ c.take-writes.ensures.writes)) c.requires.room

pub returns-clause-bytes : goal.returns-clause-bytes
returns-clause-bytes c =
    subst (λ (x : PlannedWrites). IfSome (slice_get x.list c.args.i)
    (λ w. c.give_write_bytes.new.out ≡ w.bytes))
    (c.as_ref.ensures ∙ c.take-writes.ensures.writes) c.give_write_bytes.ensures

pub returns-clause-keeps : goal.returns-clause-keeps
returns-clause-keeps c =
    keeps_writes c.args.w.now c.put.new.self c.take-writes.result.value
    c.take-writes.ensures.writes c.put.ensures

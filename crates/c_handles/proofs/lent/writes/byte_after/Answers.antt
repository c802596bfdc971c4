use Rattle.std.proofs.Common.{sym, ap, ◌∙◌, ℕ, List, take, slice_index_or}
use Rattle.std.proofs.lemmas.List.{take_all}
use Rattle.c_handles.specs.declared.lent.writes.KeptWrite.{KeptWrite}
use Rattle.c_handles.specs.Lent.Writes.{with_write, with_writes}
use Rattle.c_handles.proofs.lent.WriteLaws.{with_no_writes, with_one_more}
use Rattle.c_handles.proofs.lent.writes.byte_after.Goals as goal

pub loop-write-init : goal.loop-write-init
loop-write-init c =
    c.byte_or_zero-byte.ensures
    ∙ sym (ap (λ (l : List ℕ). slice_index_or l c.args.place 0) (with_no_writes c.args.bytes.now))

pub loop-write-preserved : goal.loop-write-preserved
loop-write-preserved c =
    let before : List ℕ =
    with_writes (take c.loop-write.write-index c.args.writes.now) c.args.bytes.now in
    c.byte_at-byte.ensures before c.loop-write.invariant
    ∙ ap (λ (w : KeptWrite). slice_index_or (with_write before w) c.args.place 0) c.write-item.is
    ∙ sym (ap (λ (l : List ℕ). slice_index_or l c.args.place 0)
    (with_one_more c.args.writes.now c.loop-write.write-index c.write-item.result
    c.args.bytes.now c.loop-write-test.true))

pub returns : goal.returns
returns c =
    c.loop-write.invariant
    ∙ ap (λ (ws : List KeptWrite). slice_index_or (with_writes ws c.args.bytes.now) c.args.place 0)
    (take_all c.loop-write.write-index c.args.writes.now c.loop-write-test.false)

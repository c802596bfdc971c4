use Rattle.std.proofs.Common.{sym, ◌∙◌, arith}
use Rattle.rebuild_plan.proofs.elf_update_plan.RowLaws.{ok_is}
use Rattle.rebuild_object.proofs.FitLaws.{none_fit, more_fit, all_fit}
use Rattle.rebuild_object.proofs.headers.segments_fit.Goals as goal

pub loop-i-init : goal.loop-i-init
loop-i-init g c = none_fit c.args.elf.now.o

pub segment_fits-requires : goal.segment_fits-requires
segment_fits-requires g c =
    let count = ok_is _ _ c.phnum-i-end.ensures in omega (arith, count, c.loop-i-test.true)

pub loop-i-preserved : goal.loop-i-preserved
loop-i-preserved g c =
    more_fit c.args.elf.now.o c.loop-i.i c.loop-i.invariant
    (sym c.segment_fits.ensures ∙ c.if-not-segment_fits.false)

pub returns : goal.returns
returns g c = λ t.
    let count = ok_is _ _ c.phnum-i-end.ensures in
    all_fit c.args.elf.now.o c.loop-i.i (omega (arith, count, c.loop-i-test.false))
    c.loop-i.invariant

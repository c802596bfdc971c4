use Rattle.std.proofs.Common.{◌≡◌, ℕ, ◌<◌, ◌≤◌, length, sym, subst, arith}
use Rattle.std.proofs.lemmas.List.{get_or_read}
use Rattle.elf_object.specs.Object.{home_piece}
use Rattle.section_data.specs.Spans.{IsRun}
use Rattle.section_data.proofs.Runs.{run_piece}
use Rattle.section_data.proofs.blocks.run_of_pieces.Goals as goal

pub loop-i-init : goal.loop-i-init
loop-i-init c = (c.requires.within, λ before run. run)

pub loop-i-preserved : goal.loop-i-preserved
loop-i-preserved c =
    let pieces = c.args.pieces.now in
    let i = c.loop-i.i in
    let read = c.index-pieces-i in
    let there : i < length pieces = omega (arith, c.loop-i-test.true) in (
      subst (λ (n : ℕ). n ≤ c.args.limit) (sym c.in-Some-end_within.ensures.1)
          c.in-Some-end_within.ensures.0,
      λ before run.
          run_piece before pieces i c.loop-i.end c.in-Some-end_within.next c.in-Some.span
          read.result (c.loop-i.invariant.1 before run) there
          (get_or_read pieces i read.result there read.is home_piece) c.in-Some.ensures
          c.in-Some-end_within.ensures.1,
    )

pub returns-clause-longer : goal.returns-clause-longer
returns-clause-longer c = λ before run.
    let low = c.loop-i.auto.i-end c.requires.there in
    let last : c.loop-i.i ≡ length c.args.pieces.now =
    omega (arith, low, c.loop-i-test.false) in
    subst (λ (n : ℕ). IsRun before c.args.pieces.now n c.loop-i.end) last
    (c.loop-i.invariant.1 before run)

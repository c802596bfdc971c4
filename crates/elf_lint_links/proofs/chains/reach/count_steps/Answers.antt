use Rattle.std.proofs.Common.{ℕ, List, length, ap, ◌∙◌, arith}
use Rattle.std.proofs.lemmas.List.{length-set}
use Rattle.elf_lint_links.proofs.chains.ReachLaws.{reach_more}
use Rattle.elf_lint_links.proofs.chains.reach.count_steps.Goals as goal

pub loop-done-init : goal.loop-done-init
loop-done-init g c = record { long = c.requires.long; are = c.requires.begun }

pub set_half-requires : goal.set_half-requires
set_half-requires g c = omega (arith, c.loop-done-test.true, c.loop-done.invariant.long)

pub loop-done-preserved : goal.loop-done-preserved
loop-done-preserved g c =
    let next_at = g.R.CheckedVersionEntry.next_in c.args.order c.args.bytes.now in
    let reach = c.loop-done.reach in
    let are = c.loop-done.invariant.are in record {
      long = ap (λ (l : List ℕ). length l) c.set_half.ensures ∙ length-set reach _ _
          ∙ c.loop-done.invariant.long;
      are = reach_more next_at reach are _ c.steps_at-steps.result c.set_half.new.reach
          (omega (arith, c.loop-done-test.true, c.loop-done.invariant.long)) c.set_half.ensures
          (c.steps_at-steps.ensures next_at are c.next_name_in-next.ensures);
    }

pub returns : goal.returns
returns g c = c.loop-done.invariant.are

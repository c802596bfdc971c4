use Rattle.std.proofs.Common.{◌∙◌, sym, inr}
use Rattle.std.proofs.lemmas.Bool.{cond-true, cond-false}
use Rattle.elf_layout.proofs.Successive.{placed_next, placed_past, placed_end}
use Rattle.elf_layout.proofs.order.place_in_order.Goals as goal
use Rattle.elf_layout.proofs.order.place_in_order.Goals.{then-has_bytes, else-has_bytes}

pub returns-in_default-clause-err : goal.returns-in_default-clause-err
returns-in_default-clause-err c =
    inr (placed_past _ _ _ _ _ _ _ c.loop-part-test.true c.loop-part.invariant c.in_default.ensures)

pub loop-part-preserved : goal.loop-part-preserved
loop-part-preserved c =
    placed_next _ _ _ _ _ _ _ _ _ _ _ c.loop-part-test.true c.loop-part.invariant c.in-Some.ensures c.in_ok-push.ensures.ok
    (elim c.if-has_bytes.branch [
      | then-has_bytes w ↦ w.length-is ∙ sym (cond-true _ _ _ (sym c.has_bytes.ensures ∙ w.if-has_bytes.true))
      | else-has_bytes w ↦ w.length-is ∙ sym (cond-false _ _ _ (sym c.has_bytes.ensures ∙ w.if-has_bytes.false))
    ])

pub returns-clause-ok : goal.returns-clause-ok
returns-clause-ok c = placed_end _ _ _ _ _ _ c.loop-part-test.false c.loop-part.invariant

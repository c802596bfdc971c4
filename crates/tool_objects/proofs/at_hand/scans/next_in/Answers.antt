use Rattle.std.proofs.Common.{◌≡◌, ℕ, ◌≤◌, false, Option, IfSome, inl, inr, refl, sym, ◌∙◌, subst, arith}
use Rattle.gelf_view.specs.section_data.Held.{items_of_bytes}
use Rattle.tool_objects.proofs.at_hand.HeldItems.{all_before}
use Rattle.tool_objects.proofs.at_hand.Passing.{one_passes, one_fails, none_passes, none_late}
use Rattle.tool_objects.proofs.at_hand.scans.next_in.Goals as goal

pub loop-i-init : goal.loop-i-init
loop-i-init g c = record { begun = omega arith; left = refl }

pub loop-i-preserved : goal.loop-i-preserved
loop-i-preserved g c =
    let i = c.loop-i.invariant in record {
      begun = omega (arith, i.begun);
      left = i.left ∙ one_fails (g.C.ItemTest.holds c.args.test.now) _ c.loop-i.i c.in-Some.item
          (sym c.in-Some.ensures) (sym c.holds.ensures ∙ c.if-holds.false);
    }

pub returns-then-holds-clause-next : goal.returns-then-holds-clause-next
returns-then-holds-clause-next g c =
    c.loop-i.invariant.left
    ∙ one_passes (g.C.ItemTest.holds c.args.test.now) _ c.loop-i.i c.in-Some.item
    (sym c.in-Some.ensures) (sym c.holds.ensures ∙ c.if-holds.true)

pub returns-then-holds-clause-within : goal.returns-then-holds-clause-within
returns-then-holds-clause-within g c = (
  c.loop-i.invariant.begun,
  omega (arith, c.loop-i-test.true, c.most_items.ensures.small, c.lesser-count.ensures.most),
)

pub returns-in-None-clause-next : goal.returns-in-None-clause-next
returns-in-None-clause-next g c =
    c.loop-i.invariant.left
    ∙ none_passes (g.C.ItemTest.holds c.args.test.now) _ c.loop-i.i
    (all_before _ c.loop-i.i (sym c.in-None.ensures))

pub returns-clause-next : goal.returns-clause-next
returns-clause-next g c =
    let holds = g.C.ItemTest.holds c.args.test.now in
    let items = g.T.Listed.list_of
    (items_of_bytes g.T.Listed.kind c.args.class c.args.order c.args.bytes.now) in
    c.loop-i.invariant.left
    ∙ elim c.lesser-count.ensures.either [
      | inl all ↦ none_passes holds items c.loop-i.i
          (omega (arith, c.most_items.ensures.items, all, c.loop-i-test.false))
      | inr end ↦ none_late holds items c.loop-i.i (λ k x le.
          subst
          (λ (to : Option ℕ). IfSome to
          (λ to. (j : ℕ) (y : g.row.T.Denot) → to ≤ j → holds j y ≡ false))
          end c.requires.late k x (omega (arith, le, c.loop-i-test.false)))
    ]

use Rattle.std.proofs.Common.{None, sym, ap, ◌∙◌}
use Rattle.section_data.specs.Views.{CellView}
use Rattle.section_data.proofs.Edits.{claims_own, claims_clean}
use Rattle.section_data.proofs.cell.Cell.claim.Goals as goal

pub returns-then-is_own-clause-claims : goal.returns-then-is_own-clause-claims
returns-then-is_own-clause-claims c =
    claims_own c.args.self.now c.args.p (sym c.is_own.ensures.value ∙ c.if-is_own.true) (c.is_own.ensures.marked c.if-is_own.true)

pub returns-clause-claims : goal.returns-clause-claims
returns-clause-claims c =
    claims_clean c.args.self.now _ _ c.args.p c.take_items-items.result (sym c.is_own.ensures.value ∙ c.if-is_own.false)
    (ap (λ (v : CellView). v.held) (sym c.self.view_is) ∙ c.take_items-items.ensures.value)
    (c.take_items-items.ensures.after ∙ ap (λ (v : CellView). record v { held = None }) c.self.view_is) c.set_piece.ensures.value

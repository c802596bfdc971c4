use Rattle.std.proofs.Common.{ap, ◌∙◌}
use Rattle.section_data.specs.Views.{CellView}
use Rattle.section_data.specs.Leaves.{marked_piece}
use Rattle.section_data.proofs.Edits.{marked_is}
use Rattle.section_data.proofs.cell.Cell.mark.Goals as goal

pub returns-clause-value : goal.returns-clause-value
returns-clause-value c =
    marked_is _ c.args.p _ _ c.mark.ensures c.get_mut-piece.ensures.value ∙ ap (λ (v : CellView). marked_piece v c.args.p) c.self.view_is

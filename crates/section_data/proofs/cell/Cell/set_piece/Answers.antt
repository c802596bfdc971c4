use Rattle.std.proofs.Common.{◌<◌, length, ap, ◌∙◌, arith}
use Rattle.section_data.specs.Views.{CellView}
use Rattle.section_data.specs.Leaves.{replaced}
use Rattle.section_data.proofs.Edits.{replaced_cell, replaced_is}
use Rattle.section_data.proofs.cell.Cell.set_piece.Goals as goal

pub invariant_of-self : goal.invariant_of-self
invariant_of-self c =
    let count = ap (λ (v : CellView). length v.pieces) c.self.view_is in
    let there : c.args.p < length c.self.inside.kept.pieces = omega (arith, count, c.requires) in
    replaced_cell c.self.inside.kept c.args.p c.args.items _ _ c.self.invariant there c.set.ensures c.get_mut-piece.ensures.value

pub returns-clause-value : goal.returns-clause-value
returns-clause-value c =
    replaced_is c.self.inside.kept c.args.p c.args.items _ _ c.set.ensures c.get_mut-piece.ensures.value
    ∙ ap (λ (v : CellView). replaced v c.args.p c.args.items) c.self.view_is

pub returns-clause-cell : goal.returns-clause-cell
returns-clause-cell c =
    let count = ap (λ (v : CellView). length v.pieces) c.self.view_is in
    let there : c.args.p < length c.self.inside.kept.pieces = omega (arith, count, c.requires) in
    replaced_cell c.self.inside.kept c.args.p c.args.items _ _ c.self.invariant there c.set.ensures c.get_mut-piece.ensures.value

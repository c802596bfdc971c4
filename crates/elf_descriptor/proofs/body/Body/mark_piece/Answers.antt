use Rattle.std.proofs.Common.{length, set, refl, sym, ap, subst, ◌<◌}
use Rattle.section_table.specs.section_data.Views.{CellView}
use Rattle.section_table.specs.Sections.{SectionView as Scn}
use Rattle.elf_descriptor.proofs.Warming.{lent_scn, lent_read}
use Rattle.elf_descriptor.proofs.EditSteps.{piece_marked, marked_there}
use Rattle.elf_descriptor.proofs.body.Body.mark_piece.Goals as goal

pub mark-requires : goal.mark-requires
mark-requires c =
    let read = lent_read c.args.self.now c.args.s _ c.cell_mut-cell.ensures.value in
    subst (λ (x : Scn). c.args.p < length x.cell.pieces) (sym read) c.requires.piece

pub returns-clause-step : goal.returns-clause-step
returns-clause-step c =
    let read = lent_read c.args.self.now c.args.s _ c.cell_mut-cell.ensures.value in
    piece_marked c.args.self.now _ c.args.s c.args.p _ read refl
    (ap (λ (n : CellView).
    set c.args.self.now.sections c.args.s
    (record (lent_scn c.args.self.now c.args.s c.cell_mut-cell.result.now) { cell = n }))
    c.mark.ensures.value)

pub returns-clause-there : goal.returns-clause-there
returns-clause-there c =
    let read = lent_read c.args.self.now c.args.s _ c.cell_mut-cell.ensures.value in
    marked_there c.args.self.now _ c.args.s c.args.p
    (lent_scn c.args.self.now c.args.s c.cell_mut-cell.result.now) c.mark.new.self
    c.requires.section c.requires.piece read refl c.mark.ensures.value

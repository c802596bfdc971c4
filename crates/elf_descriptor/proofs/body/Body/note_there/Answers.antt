use Rattle.std.proofs.Common.{refl, ap, ◌∙◌}
use Rattle.section_table.specs.Sections.{SectionView as Scn}
use Rattle.elf_descriptor.specs.Views.{scn_at}
use Rattle.elf_descriptor.proofs.Warming.{lent_scn, lent_read}
use Rattle.elf_descriptor.proofs.Keeping.{so_by, so_is}
use Rattle.elf_descriptor.proofs.body.Body.note_there.Goals as goal

pub returns : goal.returns
returns c =
    let old = c.args.self.now in
    let read = lent_read old c.args.s _ c.cell_mut-cell.ensures.value in
    so_is old _ c.args.s c.note_pieces.new.self (scn_at old c.args.s).cell
    (c.note_pieces.ensures.value ∙ ap (λ (y : Scn). y.cell) read)
    (so_by old _ c.args.s (lent_scn old c.args.s c.cell_mut-cell.result.now)
    c.note_pieces.new.self read refl refl)

use Rattle.std.proofs.Common.{◌≡◌, refl, subst}
use Rattle.elf_types.specs.Answers.{answered}
use Rattle.section_table.specs.elf_object.Words.{handing_back}
use Rattle.section_table.specs.section_data.Refused.{replace_refused}
use Rattle.section_table.specs.Sections.{SectionView as Scn}
use Rattle.elf_descriptor.proofs.Warming.{lent_scn, lent_read}
use Rattle.elf_descriptor.proofs.EditPieces.{replace_steps, cell_stays}
use Rattle.elf_descriptor.proofs.body.Body.replace_there.Goals as goal

pub returns-clause-answer : goal.returns-clause-answer
returns-clause-answer c =
    let read = lent_read c.args.self.now c.args.d.section _ c.cell_mut-cell.ensures.value in
    subst (λ (x : Scn). c.replace.result ≡ handing_back c.args.items (answered (replace_refused c.args.self.now.header.class x.cell c.args.d.piece c.args.items) (tt {0}))) read
    c.replace.ensures.answer

pub returns-clause-step : goal.returns-clause-step
returns-clause-step c =
    let read = lent_read c.args.self.now c.args.d.section _ c.cell_mut-cell.ensures.value in
    replace_steps c.args.self.now _ c.args.d.section c.args.d.piece c.args.items
    (lent_scn c.args.self.now c.args.d.section c.cell_mut-cell.result.now) c.replace.new.self read
    refl refl c.replace.result c.replace.ensures.ok

pub returns-clause-unchanged : goal.returns-clause-unchanged
returns-clause-unchanged c =
    let read = lent_read c.args.self.now c.args.d.section _ c.cell_mut-cell.ensures.value in
    cell_stays c.args.self.now _ c.args.d.section c.args.d.piece c.args.items
    (lent_scn c.args.self.now c.args.d.section c.cell_mut-cell.result.now) c.replace.new.self read
    refl refl c.replace.result c.replace.ensures.unchanged

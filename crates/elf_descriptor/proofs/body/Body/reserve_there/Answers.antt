use Rattle.std.proofs.Common.{refl, subst}
use Rattle.elf_types.specs.Answers.{answered}
use Rattle.section_table.specs.elf_object.Words.{Edits}
use Rattle.section_table.specs.section_data.Refused.{home_out}
use Rattle.section_table.specs.Sections.{SectionView as Scn}
use Rattle.elf_descriptor.proofs.Warming.{lent_scn, lent_read}
use Rattle.elf_descriptor.proofs.Keeping.{edits_alone, reserved_ok, reserved_same}
use Rattle.elf_descriptor.proofs.body.Body.reserve_there.Goals as goal

pub returns-clause-answer : goal.returns-clause-answer
returns-clause-answer c =
    let read = lent_read c.args.self.now c.args.s _ c.cell_mut-cell.ensures.value in
    subst (λ (x : Scn). Edits c.reserve.result (tt {0}) (tt {0}) (answered (home_out x.cell) (tt {0})) (tt {0})) read
    (edits_alone c.reserve.result _ _ _ _ c.reserve.ensures.edits)

pub returns-clause-ok : goal.returns-clause-ok
returns-clause-ok c =
    let read = lent_read c.args.self.now c.args.s _ c.cell_mut-cell.ensures.value in
    reserved_ok c.reserve.result c.args.self.now _ c.args.s
    (lent_scn c.args.self.now c.args.s c.cell_mut-cell.result.now) c.reserve.new.self _ read refl
    refl c.reserve.ensures.edits

pub returns-clause-same : goal.returns-clause-same
returns-clause-same c =
    let read = lent_read c.args.self.now c.args.s _ c.cell_mut-cell.ensures.value in
    reserved_same c.reserve.result c.args.self.now _ c.args.s
    (lent_scn c.args.self.now c.args.s c.cell_mut-cell.result.now) c.reserve.new.self _ _ read refl
    refl c.reserve.ensures.edits

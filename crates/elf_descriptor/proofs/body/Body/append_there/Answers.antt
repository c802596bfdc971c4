use Rattle.std.proofs.Common.{◌≡◌, ℕ, length, refl, subst, Ok, Err}
use Rattle.elf_types.specs.Answers.{answered}
use Rattle.section_table.specs.elf_object.Words.{EditsWith}
use Rattle.section_table.specs.section_data.Refused.{append_refused}
use Rattle.section_table.specs.Sections.{SectionView as Scn}
use Rattle.elf_descriptor.proofs.Warming.{lent_scn, lent_read}
use Rattle.elf_descriptor.proofs.EditAppends.{in_section, with_alone, piece_appended, piece_refused}
use Rattle.elf_descriptor.proofs.body.Body.append_there.Goals as goal

pub returns-in-Ok-clause-answer : goal.returns-in-Ok-clause-answer
returns-in-Ok-clause-answer c =
    let read = lent_read c.args.self.now c.args.s _ c.cell_mut-cell.ensures.value in (
      subst (λ (x : Scn). answered {A = ℕ × ℕ} (append_refused c.args.self.now.header.class x.cell c.args.items c.args.align) (c.args.s, length x.cell.pieces) ≡ Ok (c.args.s, c.in-Ok.piece)) read
          (in_section _ c.args.s _ c.in-Ok.piece c.in-Ok.ensures.edits.0),
      refl,
    )

pub returns-in-Ok-clause-step : goal.returns-in-Ok-clause-step
returns-in-Ok-clause-step c =
    let read = lent_read c.args.self.now c.args.s _ c.cell_mut-cell.ensures.value in
    piece_appended c.args.self.now _ c.args.s c.args.align c.args.items
    (lent_scn c.args.self.now c.args.s c.cell_mut-cell.result.now) c.append.new.self read refl refl
    c.in-Ok.ensures.edits.1

pub returns-in-Err-clause-answer : goal.returns-in-Err-clause-answer
returns-in-Err-clause-answer c =
    let read = lent_read c.args.self.now c.args.s _ c.cell_mut-cell.ensures.value in
    subst (λ (x : Scn). EditsWith (Err c.in-Err.refused) c.args.items (tt {0}) (tt {0}) (answered {A = ℕ × ℕ} (append_refused c.args.self.now.header.class x.cell c.args.items c.args.align) (c.args.s, length x.cell.pieces)) (tt {0})) read
    (with_alone c.in-Err.refused c.args.items _ _ _ _ _ _ c.in-Err.ensures.edits)

pub returns-in-Err-clause-unchanged : goal.returns-in-Err-clause-unchanged
returns-in-Err-clause-unchanged c =
    let read = lent_read c.args.self.now c.args.s _ c.cell_mut-cell.ensures.value in
    piece_refused c.args.self.now _ c.args.s c.in-Err.refused c.args.items
    (lent_scn c.args.self.now c.args.s c.cell_mut-cell.result.now) c.append.new.self _ _ read refl
    refl c.in-Err.ensures.edits

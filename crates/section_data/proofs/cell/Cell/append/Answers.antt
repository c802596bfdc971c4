use Rattle.std.proofs.Common.{◌≡◌, sym, refl, Some, Option, None, Err, ap, ◌<◌, length, arith}
use Rattle.elf_types.specs.declared.constants.TheConstants.{MAX_PIECES}
use Rattle.section_data.specs.Views.{CellView}
use Rattle.elf_types.specs.declared.errors.ElfError.{ElfError}
use Rattle.elf_types.specs.Answers.{answered}
use Rattle.elf_object.proofs.AnswerLaws.{edit_refused}
use Rattle.section_data.specs.Refused.{append_refused}
use Rattle.section_data.proofs.Edits.{pushed_cell}
use Rattle.section_data.proofs.cell.Cell.append.Goals as goal

refused_by : (refusal : Option ElfError) (e : ElfError) → answered refusal (tt {0}) ≡ Err e → refusal ≡ Some e
refused_by None e h = cc
refused_by (Some d) e h = cc

pub returns-in-Err-clause-edits : goal.returns-in-Err-clause-edits
returns-in-Err-clause-edits c = (
  refl,
  edit_refused _ _ (append_refused c.args.class c.args.self.now c.args.items c.args.align) _ c.in-Err.e c.in-Err.ensures.err
      (refused_by _ c.in-Err.e (sym c.in-Err.ensures.answer)),
)

pub invariant_of-self : goal.invariant_of-self
invariant_of-self c =
    let count = ap (λ (v : CellView). length v.pieces) c.self.view_is in
    let few : length c.self.inside.kept.pieces < MAX_PIECES = omega (arith, count, c.in_default.ensures.room) in
    pushed_cell c.push.result c.self.inside.kept _ _ _ _ c.self.invariant few c.in_default.ensures.align
    c.with_own.ensures c.push.ensures.ok c.push.ensures.unchanged

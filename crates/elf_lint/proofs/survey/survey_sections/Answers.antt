use Rattle.std.proofs.Common.{length, sym, subst, arith}
use Rattle.elf_lint_findings.proofs.tool_objects.SectionLemmas.{ok_value_is}
use Rattle.elf_lint.specs.declared.survey.Survey.{Survey}
use Rattle.elf_lint.specs.Survey.{IsSurveyOf}
use Rattle.elf_lint.proofs.SurveyLemmas.{survey_begins, fewer_sections}
use Rattle.elf_lint.proofs.survey.survey_sections.Goals as goal

pub loop-s-init : goal.loop-s-init
loop-s-init g c =
    subst (λ (v : Survey). IsSurveyOf c.args.elf.now.o 0 v) (sym c.survey_none-survey.ensures)
    (survey_begins c.args.elf.now.o)

pub survey_next-survey-requires-clause-there : goal.survey_next-survey-requires-clause-there
survey_next-survey-requires-clause-there g c =
    let count = ok_value_is _ _ c.shnum-s-end.ensures in omega (arith, count, c.loop-s-test.true)

pub returns : goal.returns
returns g c =
    let count = ok_value_is _ _ c.shnum-s-end.ensures in
    fewer_sections c.args.elf.now.o (length c.args.elf.now.o.sections) c.loop-s.s c.loop-s.survey
    (omega (arith, count, c.loop-s-test.false)) c.loop-s.invariant

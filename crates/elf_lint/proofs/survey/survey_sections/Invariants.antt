use Rattle.elf_lint.specs.Survey.{IsSurveyOf}
use Rattle.elf_lint.proofs.survey.survey_sections.Given as goal

abbrev pub invariant-loop-s : goal.invariant-loop-s
invariant-loop-s g l = IsSurveyOf l.elf.o l.s l.survey

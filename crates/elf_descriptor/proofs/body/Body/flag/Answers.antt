use Rattle.std.proofs.Common.{sym, ap, ◌∙◌}
use Rattle.section_table.specs.elf_object.Object.{Object}
use Rattle.section_table.specs.elf_object.Answers.{flags_of}
use Rattle.elf_descriptor.proofs.EditSteps.{passed_with}
use Rattle.elf_descriptor.proofs.Refusals.{answered_err}
use Rattle.elf_descriptor.proofs.body.Body.flag.Goals as goal

pub returns-in-Err-clause-answer : goal.returns-in-Err-clause-answer
returns-in-Err-clause-answer c = λ image size. sym (answered_err _ (tt {0}) _ c.in-Err.e (sym (c.in-Err.ensures.answer image size)))

pub returns-clause-answer : goal.returns-clause-answer
returns-clause-answer c = λ image size.
    passed_with _ (tt {0}) (tt {0}) _ c.part_flags.result (c.in_default.ensures.answer image size)
    (c.part_flags.ensures image size ∙ ap (λ (o : Object). flags_of o c.args.part) (c.set_flags.ensures.step.object image size))

pub returns-clause-step : goal.returns-clause-step
returns-clause-step c = c.set_flags.ensures.step

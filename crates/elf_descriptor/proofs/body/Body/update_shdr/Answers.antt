use Rattle.std.proofs.Common.{Option, sym, ap, ◌∙◌}
use Rattle.elf_types.specs.declared.errors.ElfError.{ElfError}
use Rattle.elf_types.specs.Answers.{answered}
use Rattle.elf_descriptor.proofs.EditSteps.{update_shdr_refused}
use Rattle.elf_descriptor.proofs.body.Body.update_shdr.Goals as goal

pub returns-in-Err-clause-answer : goal.returns-in-Err-clause-answer
returns-in-Err-clause-answer c = λ image size. c.in-Err.ensures.answer ∙ ap (λ (r : Option ElfError). answered r (tt {0})) (sym (update_shdr_refused image size c.args.self.now c.args.s c.args.h.now))

pub returns-clause-answer : goal.returns-clause-answer
returns-clause-answer c = λ image size. c.in_default.ensures.answer ∙ ap (λ (r : Option ElfError). answered r (tt {0})) (sym (update_shdr_refused image size c.args.self.now c.args.s c.args.h.now))

pub returns-clause-step : goal.returns-clause-step
returns-clause-step c = c.set_shdr.ensures

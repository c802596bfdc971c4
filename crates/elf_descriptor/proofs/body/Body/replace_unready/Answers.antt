use Rattle.elf_descriptor.proofs.EditPieces.{then_unready}
use Rattle.elf_descriptor.proofs.body.Body.replace_unready.Goals as goal

pub returns-in-Err-clause-answer : goal.returns-in-Err-clause-answer
returns-in-Err-clause-answer c = c.in-Err.ensures.answer

pub returns-in-Err-clause-unchanged : goal.returns-in-Err-clause-unchanged
returns-in-Err-clause-unchanged c = c.in-Err.ensures.unchanged

pub returns-clause-answer : goal.returns-clause-answer
returns-clause-answer c = c.in_default.ensures.answer

pub returns-clause-step : goal.returns-clause-step
returns-clause-step c = then_unready _ _ c.args.self.now c.replace_there.new.self c.in_default.ensures.step

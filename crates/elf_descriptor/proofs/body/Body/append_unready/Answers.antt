use Rattle.elf_descriptor.proofs.EditPieces.{then_unready}
use Rattle.elf_descriptor.proofs.body.Body.append_unready.Goals as goal

pub returns-in-Ok-clause-answer : goal.returns-in-Ok-clause-answer
returns-in-Ok-clause-answer c = c.in-Ok.ensures.answer

pub returns-in-Ok-clause-step : goal.returns-in-Ok-clause-step
returns-in-Ok-clause-step c = then_unready _ _ c.args.self.now c.append_there.new.self c.in-Ok.ensures.step

pub returns-in-Err-clause-answer : goal.returns-in-Err-clause-answer
returns-in-Err-clause-answer c = c.in-Err.ensures.answer

pub returns-in-Err-clause-unchanged : goal.returns-in-Err-clause-unchanged
returns-in-Err-clause-unchanged c = c.in-Err.ensures.unchanged

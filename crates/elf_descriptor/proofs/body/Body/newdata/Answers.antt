use Rattle.elf_descriptor.proofs.EditPieces.{same_stepped}
use Rattle.elf_descriptor.proofs.EditAppends.{newdata_refused_first, newdata_then}
use Rattle.elf_descriptor.proofs.body.Body.newdata.Goals as goal

pub returns-in-Err-clause-answer : goal.returns-in-Err-clause-answer
returns-in-Err-clause-answer c = λ image size. newdata_refused_first image size c.args.self.now c.args.s c.args.align c.args.items c.in-Err.e c.in-Err.ensures.err c.in-Err.ensures.answer

pub returns-in-Err-clause-unchanged : goal.returns-in-Err-clause-unchanged
returns-in-Err-clause-unchanged c = same_stepped c.args.self.now

pub returns-clause-answer : goal.returns-clause-answer
returns-clause-answer c = λ image size.
    newdata_then image size c.args.self.now c.args.s c.args.align c.args.items c.append_unready.result (tt {0}) (c.requires.numbered c.in_default.ensures.there)
    c.in_default.ensures.answer c.append_unready.ensures.answer

pub returns-clause-step : goal.returns-clause-step
returns-clause-step c = c.append_unready.ensures.step

pub returns-clause-unchanged : goal.returns-clause-unchanged
returns-clause-unchanged c = c.append_unready.ensures.unchanged

use Rattle.elf_descriptor.proofs.EditPieces.{replace_refused_first, replace_refused_then, same_stepped}
use Rattle.elf_descriptor.proofs.body.Body.replace.Goals as goal

pub returns-in-Err-clause-answer : goal.returns-in-Err-clause-answer
returns-in-Err-clause-answer c = λ image size. replace_refused_first image size c.args.self.now c.args.d.section c.args.d.piece c.args.items c.in-Err.e c.in-Err.ensures.answer

pub returns-in-Err-clause-unchanged : goal.returns-in-Err-clause-unchanged
returns-in-Err-clause-unchanged c = same_stepped c.args.self.now

pub returns-clause-answer : goal.returns-clause-answer
returns-clause-answer c = λ image size.
    replace_refused_then image size c.args.self.now c.args.d.section c.args.d.piece c.args.items (tt {0}) c.replace_unready.result (c.requires.numbered c.in_default.ensures.there)
    c.in_default.ensures.answer c.replace_unready.ensures.answer

pub returns-clause-step : goal.returns-clause-step
returns-clause-step c = c.replace_unready.ensures.step

pub returns-clause-unchanged : goal.returns-clause-unchanged
returns-clause-unchanged c = c.replace_unready.ensures.unchanged

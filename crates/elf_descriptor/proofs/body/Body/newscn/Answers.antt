use Rattle.std.proofs.Common.{Ok, Err}
use Rattle.elf_descriptor.proofs.EditPieces.{same_stepped}
use Rattle.elf_descriptor.proofs.EditSections.{newscn_refused, newscn_made}
use Rattle.elf_descriptor.proofs.body.Body.newscn.Goals as goal

pub returns-in-Err-clause-answer : goal.returns-in-Err-clause-answer
returns-in-Err-clause-answer c = λ image size. newscn_refused image size c.args.self.now c.in-Err.e c.in-Err.ensures.err c.in-Err.ensures.answer

pub returns-in-Err-clause-unchanged : goal.returns-in-Err-clause-unchanged
returns-in-Err-clause-unchanged c = same_stepped c.args.self.now

pub returns-in-Ok-clause-answer : goal.returns-in-Ok-clause-answer
returns-in-Ok-clause-answer c = λ image size.
    newscn_made image size c.args.self.now (Ok c.in-Ok.s) c.in_default.field-0 c.in_default.ensures.answer (c.in-Ok.ensures.value image size) (tt {0})

pub returns-in-Err-newscn_there-clause-answer : goal.returns-in-Err-newscn_there-clause-answer
returns-in-Err-newscn_there-clause-answer c = λ image size.
    newscn_made image size c.args.self.now (Err c.in-Err-newscn_there.e) c.in_default.field-0 c.in_default.ensures.answer (tt {0}) c.in-Err-newscn_there.ensures.err

use Rattle.elf_descriptor.proofs.EditGrows.{refused_alone, done_alone, left_same, done_unit}
use Rattle.elf_descriptor.proofs.EditPieces.{same_stepped}
use Rattle.elf_descriptor.proofs.body.Body.newphdr.Goals as goal

pub returns-in-Err-clause-answer : goal.returns-in-Err-clause-answer
returns-in-Err-clause-answer c = λ image size. refused_alone _ (tt {0}) (tt {0}) c.in-Err.e c.in-Err.ensures.err c.in-Err.ensures.answer

pub returns-in-Err-clause-unchanged : goal.returns-in-Err-clause-unchanged
returns-in-Err-clause-unchanged c = same_stepped c.args.self.now

pub returns-clause-answer : goal.returns-clause-answer
returns-clause-answer c = λ image size. done_alone _ (tt {0}) (tt {0}) (tt {0}) c.zero_phdrs.result c.in_default.ensures.answer (done_unit c.zero_phdrs.result) c.zero_phdrs.ensures.err

pub returns-clause-step : goal.returns-clause-step
returns-clause-step c = c.zero_phdrs.ensures.step

pub returns-clause-unchanged : goal.returns-clause-unchanged
returns-clause-unchanged c = left_same c.zero_phdrs.result c.args.self.now c.zero_phdrs.new.self c.zero_phdrs.ensures.unchanged

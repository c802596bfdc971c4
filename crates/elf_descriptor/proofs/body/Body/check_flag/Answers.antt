use Rattle.section_table.specs.elf_object.Calls.{flag_refusal}
use Rattle.elf_descriptor.proofs.EditSteps.{first_refused, first_passed}
use Rattle.elf_descriptor.proofs.body.Body.check_flag.Goals as goal

pub returns-in-Err-clause-answer : goal.returns-in-Err-clause-answer
unfolding flag_refusal
returns-in-Err-clause-answer c = λ image size. first_refused _ _ (tt {0}) (tt {0}) c.in-Err.e (c.in-Err.ensures.answer image size)

pub returns-clause-answer : goal.returns-clause-answer
unfolding flag_refusal
returns-clause-answer c = λ image size. first_passed _ _ (tt {0}) (tt {0}) (tt {0}) c.check_kept.result (c.in_default.ensures.answer image size) c.check_kept.ensures

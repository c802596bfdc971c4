use Rattle.elf_descriptor.specs.elf_object.Answers.{raw_refusal}
use Rattle.elf_descriptor.specs.elf_object.Calls.{raw_answer}
use Rattle.elf_descriptor.specs.elf_object.Calls as calls
use Rattle.elf_descriptor.specs.Reads.{wanted}
use Rattle.gelf_view.proofs.FetchLemmas.{passed_alone, refused_alone}
use Rattle.gelf_view.proofs.fetching.load.Goals as goal

pub returns-in-Ok-clause-answer : goal.returns-in-Ok-clause-answer
unfolding raw_answer
returns-in-Ok-clause-answer g c = passed_alone c.args.elf.now.told (wanted (calls.raw c.args.s.0) c.args.elf.now) (raw_refusal c.args.elf.now.o c.args.s.0) _ _ (tt {0}) c.in-Ok.ensures.answer

pub returns-in-Err-clause-answer : goal.returns-in-Err-clause-answer
unfolding raw_answer
returns-in-Err-clause-answer g c = refused_alone c.args.elf.now.told (wanted (calls.raw c.args.s.0) c.args.elf.now) (raw_refusal c.args.elf.now.o c.args.s.0) _ (tt {0}) c.in-Err.e c.in-Err.ensures.answer

use Rattle.std.proofs.Common.{true, length, ap, ◌∙◌}
use Rattle.elf_descriptor.specs.elf_object.Object.{Object}
use Rattle.elf_descriptor.specs.elf_object.Answers.{count_at}
use Rattle.elf_descriptor.specs.Reads.{wanted}
use Rattle.elf_descriptor.proofs.Refusals.{answers_passed}
use Rattle.gelf_view.specs.Calls.{bytes}
use Rattle.gelf_view.proofs.ChainCalls.{first_answers}
use Rattle.gelf_view.proofs.version_calls.first_entry.Goals as goal

pub returns-in-Ok-clause-answer : goal.returns-in-Ok-clause-answer
returns-in-Ok-clause-answer g c =
    first_answers c.args.elf.now.o c.args.d.section c.args.d.piece (length c.bytes_there.result.now) c.first_place.result
    (answers_passed true (wanted (bytes c.args.d.section c.args.d.piece) c.args.elf.now) _ (tt {0}) (tt {0}) c.in-Ok.ensures.answer)
    (c.bytes_there.ensures.count ∙ ap (λ (o : Object). count_at o c.args.d.section c.args.d.piece) c.in-Ok.ensures.queries.object) c.first_place.ensures

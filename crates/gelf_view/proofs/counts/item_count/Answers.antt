use Rattle.elf_descriptor.specs.elf_object.Answers.{count_at}
use Rattle.gelf_view.proofs.CountLemmas.{count_missing}
use Rattle.gelf_view.proofs.counts.item_count.Goals as goal

pub returns-in-Err-clause-answer : goal.returns-in-Err-clause-answer
returns-in-Err-clause-answer g c =
    (count_missing c.args.elf.now.o g.T.Listed.kind c.args.d.section c.args.d.piece (count_at c.args.elf.now.o c.args.d.section c.args.d.piece) c.in-Err.e c.in-Err.ensures).0

pub returns-in-Err-clause-err : goal.returns-in-Err-clause-err
returns-in-Err-clause-err g c =
    (count_missing c.args.elf.now.o g.T.Listed.kind c.args.d.section c.args.d.piece (count_at c.args.elf.now.o c.args.d.section c.args.d.piece) c.in-Err.e c.in-Err.ensures).1

use Rattle.std.proofs.Common.{◌∙◌, rules}
use Rattle.elf_descriptor.specs.elf_object.Answers.{count_at}
use Rattle.gelf_view.proofs.CountLemmas.{count_other, count_same}
use Rattle.gelf_view.proofs.counts.count_of_kind.Goals as goal

pub returns-then-ne-clause-answer : goal.returns-then-ne-clause-answer
returns-then-ne-clause-answer g c =
    count_other c.args.elf.now.o g.T.Listed.kind c.args.d.section c.args.d.piece (count_at c.args.elf.now.o c.args.d.section c.args.d.piece) c.args.kind c.requires (search rules)

pub count_there-requires-clause-piece : goal.count_there-requires-clause-piece
count_there-requires-clause-piece g c =
    (count_same c.args.elf.now.o g.T.Listed.kind c.args.d.section c.args.d.piece (count_at c.args.elf.now.o c.args.d.section c.args.d.piece) c.args.kind c.requires (search rules)).0

pub count_there-requires-clause-kind : goal.count_there-requires-clause-kind
count_there-requires-clause-kind g c =
    (count_same c.args.elf.now.o g.T.Listed.kind c.args.d.section c.args.d.piece (count_at c.args.elf.now.o c.args.d.section c.args.d.piece) c.args.kind c.requires (search rules)).1

pub returns-clause-answer : goal.returns-clause-answer
returns-clause-answer g c =
    c.count_there.ensures.answer
    ∙ (count_same c.args.elf.now.o g.T.Listed.kind c.args.d.section c.args.d.piece (count_at c.args.elf.now.o c.args.d.section c.args.d.piece) c.args.kind c.requires (search rules)).2

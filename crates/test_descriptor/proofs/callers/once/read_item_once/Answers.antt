use Rattle.test_descriptor.proofs.callers.Dues.{entry_due, raised_within}
use Rattle.test_descriptor.proofs.callers.once.read_item_once.Goals as goal

pub returns-clause-once : goal.returns-clause-once
returns-clause-once g c =
    let within = entry_due c.args.elf.now.o c.args.elf.now.loaded c.args.d.section g.T.Listed.kind g.T.Listed.list_of c.args.d.piece c.args.i in
    raised_within _ _ _ _ within c.item.ensures.looks.reads.source.taken

use Rattle.test_descriptor.proofs.callers.Dues.{raw_due, raised_within}
use Rattle.test_descriptor.proofs.callers.once.raw_length.Goals as goal

pub returns-in_err-raw-clause-once : goal.returns-in_err-raw-clause-once
returns-in_err-raw-clause-once g c =
    raised_within _ _ _ _ (raw_due c.args.elf.now.o c.args.elf.now.loaded c.args.s.0) c.raw.follows.holds-at-none.queries.reads.source.taken

pub returns-clause-once : goal.returns-clause-once
returns-clause-once g c =
    raised_within _ _ _ _ (raw_due c.args.elf.now.o c.args.elf.now.loaded c.args.s.0) c.raw.follows.holds-at-none.queries.reads.source.taken

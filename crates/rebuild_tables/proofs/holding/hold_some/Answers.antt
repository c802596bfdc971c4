use Rattle.std.proofs.Common.{Ok}
use Rattle.rebuild_tables.proofs.HoldLaws.{stays_in_base, words_refused, syms_refused}
use Rattle.rebuild_tables.proofs.holding.hold_some.Goals as goal

pub read_syms-requires-clause-inside : goal.read_syms-requires-clause-inside
read_syms-requires-clause-inside g c =
    (stays_in_base g.S.Source c.args.x (Ok c.in-Ok.words) c.args.elf.now c.read_words.new.elf _
    c.in-Ok.ensures.asks c.requires.inside).syms

pub returns-in-Err-clause-asks : goal.returns-in-Err-clause-asks
returns-in-Err-clause-asks g c =
    words_refused g.S.Source c.args.numbering.now c.args.x c.args.from c.args.to c.args.elf.now
    c.read_words.new.elf c.in-Err.e c.in-Err.ensures.asks

pub returns-in-Err-read_syms-clause-asks : goal.returns-in-Err-read_syms-clause-asks
returns-in-Err-read_syms-clause-asks g c =
    syms_refused g.S.Source c.args.numbering.now c.args.x c.args.from c.args.to c.args.elf.now
    c.read_words.new.elf c.read_syms.new.elf c.in-Ok.words c.in-Ok.ensures.asks
    c.in-Err-read_syms.e c.in-Err-read_syms.ensures.asks

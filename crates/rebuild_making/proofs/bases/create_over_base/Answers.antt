use Rattle.std.proofs.Common.{Ok}
use Rattle.rebuild_model.proofs.elf_outside.AskLemmas.{asks_then}
use Rattle.rebuild_making.proofs.BaseLaws.{made_over, made_over_none, asks_on, asks_nothing}
use Rattle.rebuild_making.proofs.bases.create_over_base.Goals as goal

pub copy_front-requires : goal.copy_front-requires
copy_front-requires g c = rw c.in-Some.is at c.requires

pub returns-in-Ok-clause-made : goal.returns-in-Ok-clause-made
returns-in-Ok-clause-made g c =
    rw c.in-Some.is (made_over c.args.elf.now.o c.ehdr-header.result c.ehdr-header.ensures
    c.args.elf.now.told c.in-Some.n c.in-Ok.base c.create_laid_out.result
    (rw c.in-Some.is at c.requires) c.in-Ok.ensures.len c.in-Ok.ensures.bytes
    c.create_laid_out.ensures)

pub returns-in-Ok-clause-asks : goal.returns-in-Ok-clause-asks
returns-in-Ok-clause-asks g c =
    rw c.in-Some.is (asks_then g.S.Source (Ok c.in-Ok.base) (Ok c.create_laid_out.result)
    c.args.elf.now.source c.copy_front.new.elf.source c.in-Some.n c.in-Ok.ensures.asks tt)

pub returns-in-Err-clause-asks : goal.returns-in-Err-clause-asks
returns-in-Err-clause-asks g c =
    rw c.in-Some.is (asks_on g.S.Source c.in-Err.e c.args.elf.now.source
    c.copy_front.new.elf.source c.in-Some.n c.in-Err.ensures.asks)

pub returns-in-None-clause-made : goal.returns-in-None-clause-made
returns-in-None-clause-made g c =
    rw c.in-None.is (made_over_none c.args.elf.now.o c.ehdr-header.result c.ehdr-header.ensures
    c.args.elf.now.told c.create.result c.create.ensures)

pub returns-in-None-clause-asks : goal.returns-in-None-clause-asks
returns-in-None-clause-asks g c =
    rw c.in-None.is (asks_nothing g.S.Source c.create.result c.args.elf.now.source)

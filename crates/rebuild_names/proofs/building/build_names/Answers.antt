use Rattle.rebuild_numbers.proofs.rebuild_select.NameLaws.{names_end}
use Rattle.rebuild_names.proofs.BuildLaws.{names_answer, names_stopped, names_read, names_then}
use Rattle.rebuild_names.proofs.building.build_names.Goals as goal

pub returns-in-Ok-clause-answer : goal.returns-in-Ok-clause-answer
returns-in-Ok-clause-answer g c =
    names_answer c.args.elf.now c.args.removed.now c.add_all.new.making c.in-Ok.fits
    c.finish_if.result c.in-Ok.ensures.told c.finish_if.ensures.ok c.finish_if.ensures.err

pub returns-in-Ok-clause-queries : goal.returns-in-Ok-clause-queries
returns-in-Ok-clause-queries g c =
    names_then g.S.Source c.in-Ok.fits c.in-Ok.fits c.finish_if.result c.args.removed.now
    c.args.elf.now c.add_all.new.elf c.finish_if.ensures.err c.in-Ok.ensures.reads

pub returns-in-Err-clause-answer : goal.returns-in-Err-clause-answer
returns-in-Err-clause-answer g c =
    names_stopped c.args.elf.now c.args.removed.now c.in-Err.e c.in-Err.ensures.reads.ended

pub returns-in-Err-clause-queries : goal.returns-in-Err-clause-queries
returns-in-Err-clause-queries g c =
    names_read g.S.Source _ c.args.removed.now c.args.elf.now c.add_all.new.elf
    (names_end g.S.Source c.in-Err.e c.args.elf.now c.add_all.new.elf c.in-Err.ensures.reads)

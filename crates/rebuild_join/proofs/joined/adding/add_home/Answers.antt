use Rattle.rebuild_keep.proofs.rebuild_making.MakingLaws.{memory_unread, passes_on, refused_memory}
use Rattle.rebuild_join.proofs.joined.MoreLaws.{home_added, home_asked, home_stopped}
use Rattle.rebuild_keep.specs.Homes.{bytes_at_home}
use Rattle.rebuild_join.proofs.joined.adding.add_home.Goals as goal

pub returns-in-Ok-clause-adds : goal.returns-in-Ok-clause-adds
returns-in-Ok-clause-adds g c =
    home_added c.add_section.result c.args.elf.now.told c.args.header.now c.in-Ok.items
    (bytes_at_home c.args.elf.now.o c.args.s.0) c.args.made.now c.add_section.new.elf
    c.in-Ok.ensures.told c.add_section.ensures.made

pub returns-in-Ok-clause-passed : goal.returns-in-Ok-clause-passed
returns-in-Ok-clause-passed g c = passes_on c.add_section.result _ c.in-Ok.ensures.passed

pub returns-in-Ok-clause-err : goal.returns-in-Ok-clause-err
returns-in-Ok-clause-err g c =
    memory_unread c.add_section.result _
    (refused_memory c.add_section.result c.args.made.now.o c.args.elf.now.o c.args.header.now
    c.in-Ok.items c.requires.room c.requires.class c.requires.fits c.in-Ok.ensures.fits
    c.add_section.ensures.err)

pub returns-in-Ok-clause-asks : goal.returns-in-Ok-clause-asks
returns-in-Ok-clause-asks g c =
    home_asked g.S.Source c.args.elf.now c.bytes_at_home.new.elf c.args.s.0 c.in-Ok.items
    c.add_section.result
    (refused_memory c.add_section.result c.args.made.now.o c.args.elf.now.o c.args.header.now
    c.in-Ok.items c.requires.room c.requires.class c.requires.fits c.in-Ok.ensures.fits
    c.add_section.ensures.err) c.in-Ok.ensures.looks

pub returns-in-Err-clause-asks : goal.returns-in-Err-clause-asks
returns-in-Err-clause-asks g c =
    home_stopped g.S.Source c.args.elf.now c.bytes_at_home.new.elf c.args.s.0 c.in-Err.e
    c.in-Err.ensures.looks

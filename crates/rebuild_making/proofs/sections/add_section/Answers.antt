use Rattle.rebuild_making.proofs.AddLaws.{section_made, section_passed, section_refused, added_first}
use Rattle.rebuild_making.proofs.sections.add_section.Goals as goal

pub returns-in-Ok-clause-made : goal.returns-in-Ok-clause-made
returns-in-Ok-clause-made g c =
    section_made c.args.elf.now c.add_bare.new.elf c.args.h.now c.args.items c.in-Ok.s.0 c.requires
    c.in-Ok.ensures.number c.in-Ok.ensures.made c.add_data.result c.add_data.new.elf
    c.add_data.ensures.made

pub returns-in-Ok-clause-passed : goal.returns-in-Ok-clause-passed
returns-in-Ok-clause-passed g c =
    section_passed c.args.elf.now c.add_bare.new.elf c.args.h.now c.args.items c.in-Ok.s.0
    c.requires c.in-Ok.ensures.number c.in-Ok.ensures.made c.add_data.result
    c.in-Ok.ensures.passed c.add_data.ensures.passed

pub returns-in-Ok-clause-err : goal.returns-in-Ok-clause-err
returns-in-Ok-clause-err g c =
    section_refused c.args.elf.now c.add_bare.new.elf c.args.h.now c.args.items c.in-Ok.s.0
    c.requires c.in-Ok.ensures.number c.in-Ok.ensures.made c.add_data.result
    c.in-Ok.ensures.passed c.add_data.ensures.err

pub returns-in-Err-clause-made : goal.returns-in-Err-clause-made
returns-in-Err-clause-made g c = rw c.refuse.ensures tt

pub returns-in-Err-clause-passed : goal.returns-in-Err-clause-passed
returns-in-Err-clause-passed g c = rw c.refuse.ensures tt

pub returns-in-Err-clause-err : goal.returns-in-Err-clause-err
returns-in-Err-clause-err g c =
    rw c.refuse.ensures
    (added_first c.args.elf.now.o c.args.h.now c.args.items c.in-Err.e c.in-Err.ensures.err)

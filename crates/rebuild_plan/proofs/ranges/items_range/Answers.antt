use Rattle.rebuild_plan.proofs.RangeLaws.{header_class_fits, made_found, made_refused}
use Rattle.rebuild_plan.proofs.ranges.items_range.Goals as goal

pub hold_items-requires : goal.hold_items-requires
hold_items-requires g c =
    header_class_fits c.args.elf.now.o c.ehdr-header.result c.in-Ok.items c.ehdr-header.ensures
    c.in-Ok.ensures.fits

pub returns-in-Ok : goal.returns-in-Ok
returns-in-Ok g c =
    made_found g.S.Source c.args.keeper.now c.args.s.0 c.args.elf.now c.items.new.elf
    c.args.held.now c.requires.makes c.hold_items.new.held c.ehdr-header.result c.in-Ok.items
    c.ehdr-header.ensures c.in-Ok.ensures.told c.hold_items.result c.in-Ok.ensures.passed
    c.in-Ok.ensures.looks c.hold_items.ensures.ok c.hold_items.ensures.err

pub returns-in-Err : goal.returns-in-Err
returns-in-Err g c =
    made_refused g.S.Source c.args.keeper.now c.args.s.0 c.args.elf.now c.items.new.elf
    c.args.held.now c.requires.makes c.in-Err.e c.in-Err.ensures.err c.in-Err.ensures.looks

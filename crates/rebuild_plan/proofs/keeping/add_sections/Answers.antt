use Rattle.rebuild_plan.proofs.KeepingLaws.{keeping_none, number_there, object_now, clean_now, tied_now, keeping_more, keeping_stops, keeping_all}
use Rattle.rebuild_plan.proofs.keeping.add_sections.Goals as goal

pub loop-s-init : goal.loop-s-init
loop-s-init g c =
    keeping_none g.S.Source c.args.keeper.now c.args.numbers.now c.args.elf.now
    c.args.contents.now c.requires.first c.requires.read

pub add_section-requires-clause-there : goal.add_section-requires-clause-there
add_section-requires-clause-there g c =
    number_there g.S.Source c.args.keeper.now c.args.numbers.now c.args.elf.now c.loop-s.elf
    c.loop-s.contents c.loop-s.s-index c.loop-s.invariant c.loop-s-test.true c.requires.there

pub add_section-requires-clause-object : goal.add_section-requires-clause-object
add_section-requires-clause-object g c =
    object_now g.S.Source c.args.keeper.now c.args.numbers.now c.args.elf.now c.loop-s.elf
    c.loop-s.contents c.loop-s.s-index c.loop-s.invariant c.loop-s-test.true c.requires.object

pub add_section-requires-clause-clean : goal.add_section-requires-clause-clean
add_section-requires-clause-clean g c =
    clean_now g.S.Source c.args.keeper.now c.args.numbers.now c.args.elf.now c.loop-s.elf
    c.loop-s.contents c.loop-s.s-index c.loop-s.invariant c.loop-s-test.true c.requires.clean

pub add_section-requires-clause-tied : goal.add_section-requires-clause-tied
add_section-requires-clause-tied g c =
    tied_now g.S.Source c.args.keeper.now c.args.numbers.now c.args.elf.now c.loop-s.elf
    c.loop-s.contents c.loop-s.s-index c.loop-s.invariant c.loop-s-test.true c.requires.tied

pub loop-s-preserved : goal.loop-s-preserved
loop-s-preserved g c =
    keeping_more g.S.Source c.args.keeper.now c.args.numbers.now c.args.elf.now c.loop-s.elf
    c.loop-s.contents c.loop-s.s-index c.loop-s.invariant c.loop-s-test.true c.add_section.new.elf
    c.add_section.new.contents c.in-Ok.ensures

pub returns-in-Err : goal.returns-in-Err
returns-in-Err g c =
    keeping_stops g.S.Source c.args.keeper.now c.args.numbers.now c.args.elf.now c.loop-s.elf
    c.loop-s.contents c.loop-s.s-index c.loop-s.invariant c.loop-s-test.true c.in-Err.e
    c.add_section.new.elf c.add_section.new.contents _ c.in-Err.ensures

pub returns : goal.returns
returns g c =
    keeping_all g.S.Source c.args.keeper.now c.args.numbers.now c.args.elf.now c.loop-s.elf
    c.loop-s.contents c.loop-s.s-index c.loop-s.invariant c.loop-s-test.false

use Rattle.std.proofs.Common.{arith}
use Rattle.elf_update_to.specs.elf_object.Object.{section_at}
use Rattle.elf_update_to.proofs.UpdateLaws.{planned_end}
use Rattle.elf_update_in_place.proofs.moves.ExtentLaws.{written_apart, home_met, home_cut, home_empty}
use Rattle.elf_update_in_place.proofs.moves.moves.home_is_disturbed.Goals as goal

pub meets-requires : goal.meets-requires
meets-requires g c =
    written_apart c.args.elf.now.o c.args.extents.now c.requires.planned.ready c.requires.written

pub returns-then-meets : goal.returns-then-meets
returns-then-meets g c =
    home_met c.args.elf.now.o (section_at c.args.elf.now.o c.args.s).home c.args.extents.now
    c.home_extent-home.result.0 c.home_extent-home.result.1 c.meets.result c.requires.planned.ready
    c.requires.written c.home_extent-home.ensures.place c.home_extent-home.ensures.len c.meets.ensures
    c.if-meets.true

pub returns-then-home-gt0 : goal.returns-then-home-gt0
returns-then-home-gt0 g c =
    home_cut c.args.elf.now.o (section_at c.args.elf.now.o c.args.s).home c.args.extents.now
    c.home_extent-home.result.0 c.home_extent-home.result.1 c.args.planned.now.places.end
    c.meets.result c.is_below_end.result c.requires.planned.ready c.requires.written
    c.home_extent-home.ensures.place c.home_extent-home.ensures.len c.meets.ensures c.if-meets.false
    (omega (arith, c.if-home-gt0.true))
    (planned_end c.args.elf.now.o c.args.planned.now c.requires.planned) c.is_below_end.ensures

pub returns-else-home-gt0 : goal.returns-else-home-gt0
returns-else-home-gt0 g c =
    home_empty c.args.elf.now.o (section_at c.args.elf.now.o c.args.s).home c.args.extents.now
    c.home_extent-home.result.0 c.home_extent-home.result.1 c.meets.result c.requires.planned.ready
    c.requires.written c.home_extent-home.ensures.place c.home_extent-home.ensures.len c.meets.ensures
    c.if-meets.false (omega (arith, c.if-home-gt0.false))

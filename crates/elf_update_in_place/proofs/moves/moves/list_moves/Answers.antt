use Rattle.std.proofs.Common.{arith}
use Rattle.elf_update_to.specs.elf_object.Changed.{is_moved}
use Rattle.elf_update_in_place.proofs.moves.SectionLaws.{answers_more}
use Rattle.elf_update_in_place.proofs.moves.moves.list_moves.Goals as goal

pub loop-s-preserved : goal.loop-s-preserved
loop-s-preserved g c = record {
  moves = answers_more (is_moved c.args.elf.now.o) c.loop-s.s c.loop-s.moves c.push.new.self
      c.section_moves.result c.loop-s.invariant.moves c.section_moves.ensures
      c.in_default.ensures.ok;
  within = omega (arith, c.loop-s-test.true);
}

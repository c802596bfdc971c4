use Rattle.std.proofs.Common.{arith}
use Rattle.elf_update_to.proofs.elf_update_plan.RowLaws.{ok_is}
use Rattle.elf_update_to.specs.elf_object.Answers.{part_refusal}
use Rattle.elf_update_in_place.proofs.moves.SectionLaws.{line_section_there, some_section, more_sections}
use Rattle.elf_update_in_place.proofs.moves.marks.some_section_is_marked.Goals as goal

pub is_marked-requires : goal.is_marked-requires
unfolding part_refusal
is_marked-requires g c =
    let count = ok_is _ _ c.shnum-s-end.ensures in
    line_section_there c.args.elf.now.o c.loop-s.s (omega (arith, count, c.loop-s-test.true))

pub returns-then-is_marked : goal.returns-then-is_marked
returns-then-is_marked g c =
    let count = ok_is _ _ c.shnum-s-end.ensures in
    some_section c.args.elf.now.o c.loop-s.s c.is_marked.result
    (omega (arith, count, c.loop-s-test.true)) c.is_marked.ensures c.if-is_marked.true

pub loop-s-preserved : goal.loop-s-preserved
loop-s-preserved g c =
    let count = ok_is _ _ c.shnum-s-end.ensures in
    more_sections c.args.elf.now.o c.loop-s.s c.is_marked.result
    (omega (arith, count, c.loop-s-test.true)) c.loop-s.invariant c.is_marked.ensures
    c.if-is_marked.false

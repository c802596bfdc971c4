use Rattle.std.proofs.Common.{arith}
use Rattle.elf_descriptor.specs.elf_object.Object.{absent_section, section_at}
use Rattle.elf_descriptor.specs.elf_object.Refusal.{unfit_in_section}
use Rattle.elf_update_plan.proofs.RowLaws.{ok_is, none_at_first}
use Rattle.elf_update_plan.proofs.ContentLaws.{row_stop, row_end, row_goes_on, item_answered}
use Rattle.elf_update_plan.proofs.contents.check_items.Goals as goal

pub loop-s-init : goal.loop-s-init
loop-s-init g c =
    none_at_first (unfit_in_section c.args.elf.now.o.header.class) absent_section
    c.args.elf.now.o.sections

pub returns-in-Err : goal.returns-in-Err
unfolding section_at
returns-in-Err g c =
    item_answered c.args.elf.now.o _ (row_stop (unfit_in_section c.args.elf.now.o.header.class)
    absent_section c.args.elf.now.o.sections c.loop-s.s c.in-Err.e
    (omega (arith, c.loop-s-test.true, ok_is _ _ c.shnum-s-end.ensures)) c.loop-s.invariant c.in-Err.ensures)

pub loop-s-preserved : goal.loop-s-preserved
unfolding section_at
loop-s-preserved g c =
    row_goes_on (unfit_in_section c.args.elf.now.o.header.class) absent_section
    c.args.elf.now.o.sections c.loop-s.s c.loop-s.invariant c.in_default.ensures

pub returns : goal.returns
returns g c =
    item_answered c.args.elf.now.o _ (row_end (unfit_in_section c.args.elf.now.o.header.class)
    absent_section c.args.elf.now.o.sections c.loop-s.s
    (omega (arith, c.loop-s-test.false, ok_is _ _ c.shnum-s-end.ensures)) c.loop-s.invariant)

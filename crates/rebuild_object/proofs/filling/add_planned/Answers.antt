use Rattle.elf_object.specs.elf_ident.Front.{zero_shdr}
use Rattle.rebuild_plan.proofs.rebuild_making.MakingLaws.{refused_memory}
use Rattle.rebuild_object.specs.Objects.{arranged_header}
use Rattle.rebuild_object.proofs.AddLaws.{one_more, is_memory}
use Rattle.rebuild_object.proofs.filling.add_planned.Goals as goal

pub returns-in-Ok-clause-adds : goal.returns-in-Ok-clause-adds
unfolding zero_shdr
returns-in-Ok-clause-adds g c =
    one_more c.add_section.result c.args.elf.now.told c.args.elf.now.o c.args.x.now
    c.args.s c.in-Ok.items c.args.made.now c.add_section.new.elf
    (rw (c.as_slice.ensures, c.as_slice-2.ensures, c.as_slice-3.ensures) at c.in-Ok.ensures.told)
    (rw (c.as_slice.ensures, c.as_slice-2.ensures, c.as_slice-3.ensures) at c.in-Ok.ensures.read)
    (rw c.as_slice.ensures at c.add_section.ensures.made)

pub returns-in-Ok-clause-err : goal.returns-in-Ok-clause-err
unfolding zero_shdr
returns-in-Ok-clause-err g c =
    is_memory c.add_section.result
    (refused_memory c.add_section.result c.args.made.now.o c.args.elf.now.o
    (arranged_header c.args.x.now c.args.s) c.in-Ok.items c.requires.room c.requires.class
    (c.requires.ready.sections c.args.s c.requires.there).fits c.in-Ok.ensures.fits
    (rw c.as_slice.ensures at c.add_section.ensures.err))

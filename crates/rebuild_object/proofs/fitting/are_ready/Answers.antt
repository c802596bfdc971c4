use Rattle.elf_object.specs.elf_ident.Front.{zero_shdr}
use Rattle.rebuild_object.proofs.FitLaws.{more_ready}
use Rattle.rebuild_object.proofs.fitting.are_ready.Goals as goal

pub loop-s-preserved : goal.loop-s-preserved
unfolding zero_shdr
loop-s-preserved g c =
    more_ready c.args.elf.now.o c.args.x.now c.loop-s.s c.loop-s.invariant
    (rw (c.as_slice-headers.ensures, c.as_slice-ranges.ensures, c.as_slice-kinds.ensures) at
    (c.is_section_ready.ensures c.if-not-is_section_ready.false))

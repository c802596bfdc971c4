use Rattle.elf_object.specs.elf_ident.Front.{zero_shdr}
use Rattle.rebuild_object.proofs.FitLaws.{more_sized}
use Rattle.rebuild_object.proofs.fitting.are_sizes_ready.Goals as goal

pub loop-s-preserved : goal.loop-s-preserved
unfolding zero_shdr
loop-s-preserved c =
    more_sized c.args.x.now c.loop-s.s c.loop-s.invariant
    (rw (c.as_slice-headers.ensures, c.as_slice-ranges.ensures, c.as_slice-sizes.ensures) at
    (c.is_size_ready.ensures c.if-not-is_size_ready.false))

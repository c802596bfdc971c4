use Rattle.elf_xlate.specs.Headers.{phdr_bytes}
use Rattle.rebuild_image.proofs.FrontLaws.{AreRowsHeld}
use Rattle.rebuild_image.proofs.fronts.hold_segments.Given as goal

abbrev pub invariant-loop-p : goal.invariant-loop-p
invariant-loop-p l =
    AreRowsHeld (phdr_bytes l.class l.order) l.phdrs l.initial.held l.held l.p-index

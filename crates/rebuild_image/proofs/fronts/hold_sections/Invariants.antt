use Rattle.elf_xlate.specs.Headers.{shdr_bytes}
use Rattle.rebuild_image.proofs.FrontLaws.{AreRowsHeld}
use Rattle.rebuild_image.proofs.fronts.hold_sections.Given as goal

abbrev pub invariant-loop-h : goal.invariant-loop-h
invariant-loop-h l =
    AreRowsHeld (shdr_bytes l.class l.order) l.headers l.initial.held l.held l.h-index

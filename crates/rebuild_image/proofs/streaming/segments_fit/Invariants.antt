use Rattle.std.specs.Prelude.{IsTrue}
use Rattle.elf_types.specs.declared.records.Phdr.{Phdr}
use Rattle.elf_xlate.specs.Headers.{phdr_fits}
use Rattle.rebuild_image.proofs.ranges.CheckLaws.{FoundBelow}
use Rattle.rebuild_image.proofs.streaming.segments_fit.Given as goal

abbrev pub invariant-loop-p : goal.invariant-loop-p
invariant-loop-p l =
    FoundBelow (λ (p : Phdr). IsTrue (phdr_fits l.class p)) l.phdrs l.p-index

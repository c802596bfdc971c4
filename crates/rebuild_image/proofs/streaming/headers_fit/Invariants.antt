use Rattle.std.specs.Prelude.{IsTrue}
use Rattle.elf_types.specs.declared.records.Shdr.{Shdr}
use Rattle.elf_xlate.specs.Headers.{shdr_fits}
use Rattle.rebuild_image.proofs.ranges.CheckLaws.{FoundBelow}
use Rattle.rebuild_image.proofs.streaming.headers_fit.Given as goal

abbrev pub invariant-loop-h : goal.invariant-loop-h
invariant-loop-h l =
    FoundBelow (λ (h : Shdr). IsTrue (shdr_fits l.x.header.class h)) l.h-items l.h-index

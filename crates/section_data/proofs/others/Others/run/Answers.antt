use Rattle.std.proofs.Common.{List, Option, sym, subst}
use Rattle.elf_object.specs.Object.{Piece}
use Rattle.section_data.specs.declared.spans.Span.{Span}
use Rattle.section_data.specs.Spans.{AreNoted}
use Rattle.section_data.proofs.others.Others.run.Goals as goal

pub first_run-requires-clause-short : goal.first_run-requires-clause-short
first_run-requires-clause-short c =
    subst (λ (l : List (Option Span)). AreNoted 16 l c.as_slice-4.result.now)
    (sym c.as_slice.ensures.value)
    (subst (λ (l : List Piece). AreNoted 16 c.self.inside.short.items l)
    (sym c.as_slice-4.ensures.value) c.self.invariant.shorts)

pub first_run-requires-clause-middle : goal.first_run-requires-clause-middle
first_run-requires-clause-middle c =
    subst (λ (l : List (Option Span)). AreNoted 512 l c.as_slice-4.result.now)
    (sym c.as_slice-2.ensures.value)
    (subst (λ (l : List Piece). AreNoted 512 c.self.inside.middle.items l)
    (sym c.as_slice-4.ensures.value) c.self.invariant.middles)

pub first_run-requires-clause-long : goal.first_run-requires-clause-long
first_run-requires-clause-long c =
    subst (λ (l : List (Option Span)). AreNoted 16384 l c.as_slice-4.result.now)
    (sym c.as_slice-3.ensures.value)
    (subst (λ (l : List Piece). AreNoted 16384 c.self.inside.long.items l)
    (sym c.as_slice-4.ensures.value) c.self.invariant.longs)

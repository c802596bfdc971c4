use Rattle.std.proofs.Common.{List, Option, sym, subst, arith}
use Rattle.section_data.specs.declared.spans.Span.{Span}
use Rattle.section_data.specs.Spans.{AreNoted}
use Rattle.section_data.proofs.Runs.{noted_more}
use Rattle.section_data.proofs.blocks.note_long.Goals as goal

pub note_middles-requires-clause-there : goal.note_middles-requires-clause-there
note_middles-requires-clause-there c = omega (arith, c.requires.there)

pub returns-clause-long : goal.returns-clause-long
returns-clause-long c =
    noted_more 16384 c.args.long.now.items c.note.new.spans.items c.args.pieces.now c.args.block
    c.in-Some.span c.requires.long
    (c.in-Some.ensures 512 c.args.pieces.now
    (subst (λ (l : List (Option Span)). AreNoted 512 l c.args.pieces.now)
    (sym c.as_slice-2.ensures.value) c.note_middles.ensures.middle)) c.note.ensures

use Rattle.std.proofs.Common.{List, Option, sym, subst, arith}
use Rattle.section_data.specs.declared.spans.Span.{Span}
use Rattle.section_data.specs.Spans.{AreNoted}
use Rattle.section_data.proofs.Runs.{noted_more}
use Rattle.section_data.proofs.blocks.note_middle.Goals as goal

pub note_shorts-requires-clause-there : goal.note_shorts-requires-clause-there
note_shorts-requires-clause-there c = omega (arith, c.requires.there)

pub returns-clause-middle : goal.returns-clause-middle
returns-clause-middle c =
    noted_more 512 c.args.middle.now.items c.note.new.spans.items c.args.pieces.now c.args.block
    c.in-Some.span c.requires.middle
    (c.in-Some.ensures 16 c.args.pieces.now
    (subst (λ (l : List (Option Span)). AreNoted 16 l c.args.pieces.now)
    (sym c.as_slice-2.ensures.value) c.note_shorts.ensures)) c.note.ensures

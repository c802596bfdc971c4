use Rattle.std.proofs.Common.{◌<◌, length, sym, ap, ◌∙◌, arith}
use Rattle.std.proofs.lemmas.List.{take_all, get_or_read}
use Rattle.elf_object.specs.Object.{Piece, home_piece}
use Rattle.section_data.proofs.Runs.{none_so_far, one_more, all_so_far}
use Rattle.section_data.proofs.spans.span_of.Goals as goal

pub loop-i-init : goal.loop-i-init
loop-i-init c = none_so_far _ c.args.pieces.now c.none-span.ensures.some c.none-span.ensures.end

pub followed-requires : goal.followed-requires
followed-requires c = c.loop-i.invariant.some

pub loop-i-preserved : goal.loop-i-preserved
loop-i-preserved c =
    let pieces = c.args.pieces.now in
    let i = c.loop-i.i in
    let read = c.index-pieces-i in
    let later = c.index-pieces-i-in-loop-i in
    let there : i < length pieces = omega (arith, c.loop-i-test.true) in
    let first = get_or_read pieces i read.result there read.is home_piece in
    let again = get_or_read pieces i later.result there later.is home_piece in
    one_more c.loop-i.span c.in-Some-followed.more pieces i c.in-Some.len read.result c.align.result
    c.loop-i.invariant there first
    (c.align.ensures ∙ ap (λ (q : Piece). q.align) (again ∙ sym first)) c.in-Some.ensures
    c.in-Some-followed.ensures.some c.in-Some-followed.ensures.end

pub returns : goal.returns
returns c =
    all_so_far c.loop-i.span c.args.pieces.now c.loop-i.i c.loop-i.invariant
    (take_all c.loop-i.i c.args.pieces.now (omega (arith, c.loop-i-test.false)))

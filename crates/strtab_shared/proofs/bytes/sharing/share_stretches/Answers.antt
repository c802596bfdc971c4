use Rattle.std.proofs.Common.{ℕ, List, length, ap, arith}
use Rattle.strtab_shared.proofs.bytes.ShareLaws.{shared_none, lies_behind, shared_more, shared_all}
use Rattle.strtab_shared.proofs.bytes.sharing.share_stretches.Goals as goal

pub loop-s-init : goal.loop-s-init
loop-s-init c = shared_none c.args.parts.now c.args.base c.args.stretches.now c.requires.kept

pub overflow_add-base : goal.overflow_add-base
overflow_add-base c =
    let inv = c.loop-s.invariant in
    let lies = lies_behind c.args.parts.now c.loop-s.parts c.args.base c.args.stretches.now
    c.loop-s.s-index c.requires.base c.requires.stand c.loop-s-test.true inv.text in
    let same = ap (λ (l : List ℕ). length l) inv.text in
    omega (arith, lies, same, c.len-held.ensures)

pub share_range-requires-clause-kept : goal.share_range-requires-clause-kept
share_range-requires-clause-kept c = c.loop-s.invariant.kept

pub share_range-requires-clause-inside : goal.share_range-requires-clause-inside
share_range-requires-clause-inside c =
    lies_behind c.args.parts.now c.loop-s.parts c.args.base c.args.stretches.now
    c.loop-s.s-index c.requires.base c.requires.stand c.loop-s-test.true
    c.loop-s.invariant.text

pub loop-s-preserved : goal.loop-s-preserved
loop-s-preserved c =
    shared_more c.args.parts.now c.loop-s.parts c.share_range.new.parts c.args.base
    c.args.stretches.now c.loop-s.s-index c.loop-s.invariant c.loop-s-test.true
    c.in-Ok.ensures.puts c.in-Ok.ensures.text

pub returns-in-Err-clause-kept : goal.returns-in-Err-clause-kept
returns-in-Err-clause-kept c = c.in-Err.ensures.puts.kept

pub returns-in-Err-clause-err : goal.returns-in-Err-clause-err
returns-in-Err-clause-err c = c.in-Err.ensures.puts.err

pub returns-clause-kept : goal.returns-clause-kept
returns-clause-kept c = c.loop-s.invariant.kept

pub returns-clause-text : goal.returns-clause-text
returns-clause-text c = c.loop-s.invariant.text

pub returns-clause-ok : goal.returns-clause-ok
returns-clause-ok c =
    shared_all c.args.parts.now c.loop-s.parts c.args.base c.args.stretches.now
    c.loop-s.s-index (omega (arith, c.loop-s-test.false)) c.loop-s.invariant

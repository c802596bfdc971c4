use Rattle.std.proofs.Common.{◌-◌, ℕ, List, length, drop, ap, arith}
use Rattle.std.proofs.lemmas.List.{length-drop}
use Rattle.strtab_shared.proofs.bytes.ShareLaws.{stand_behind, tail_inside, all_put}
use Rattle.strtab_shared.proofs.bytes.sharing.share_held.Goals as goal

pub overflow_sub-len : goal.overflow_sub-len
overflow_sub-len c = omega (arith, c.requires.more.inside, c.len.ensures)

pub overflow_add-at : goal.overflow_add-at
overflow_add-at c =
    let rest = length-drop c.args.base c.args.parts.now.text in
    let same = ap (λ (l : List ℕ). length l) c.requires.text in
    omega (arith, rest, same, c.requires.more.inside, c.requires.base, c.len-held.ensures)

pub share_stretches-requires-clause-stand : goal.share_stretches-requires-clause-stand
share_stretches-requires-clause-stand c =
    stand_behind (drop c.args.base c.args.parts.now.text) c.args.more.now.text
    c.args.more.now.stretches c.as_slice.result.now c.requires.text c.as_slice.ensures
    c.requires.more.stand

pub share_range-requires-clause-kept : goal.share_range-requires-clause-kept
share_range-requires-clause-kept c = c.in-Ok.ensures.kept

pub share_range-requires-clause-inside : goal.share_range-requires-clause-inside
share_range-requires-clause-inside c =
    let same = ap (λ (l : List ℕ). length l) c.in-Ok.ensures.text in
    let inside = tail_inside c.args.parts.now.text c.args.more.now.text c.args.base
    c.args.more.now.tail _ c.requires.base c.requires.text c.requires.more.inside
    (ap (λ (n : ℕ). n - c.args.more.now.tail) c.len.ensures) in
    omega (arith, same, inside)

pub returns-in-Ok-clause-kept : goal.returns-in-Ok-clause-kept
returns-in-Ok-clause-kept c = c.share_range.ensures.puts.kept

pub returns-in-Ok-clause-err : goal.returns-in-Ok-clause-err
returns-in-Ok-clause-err c = c.share_range.ensures.puts.err

pub returns-in-Ok-clause-ok : goal.returns-in-Ok-clause-ok
returns-in-Ok-clause-ok c =
    all_put c.args.parts.now c.share_stretches.new.parts c.share_range.new.parts
    c.args.more.now c.args.base _ c.as_slice.result.now c.share_range.result c.requires.text
    c.as_slice.ensures c.in-Ok.ensures.text
    (ap (λ (n : ℕ). n - c.args.more.now.tail) c.len.ensures) c.in-Ok.ensures.ok
    c.share_range.ensures.puts

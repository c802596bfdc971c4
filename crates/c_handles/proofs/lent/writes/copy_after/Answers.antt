use Rattle.std.proofs.Common.{◌≡◌, ◌++◌, ℕ, List, length, take, drop, refl, sym, ap, ◌∙◌, arith}
use Rattle.std.proofs.lemmas.Bool.{eqb-true}
use Rattle.std.proofs.lemmas.List.{drop_all, append-nil}
use Rattle.c_handles.specs.Lent.Writes.{with_writes}
use Rattle.c_handles.proofs.lent.WriteLaws.{with_no_more}
use Rattle.c_handles.proofs.lent.KeepLaws.{fills_more}
use Rattle.c_handles.proofs.lent.writes.copy_after.Goals as goal

pub loop-i-init : goal.loop-i-init
loop-i-init c = refl

pub loop-i-preserved : goal.loop-i-preserved
loop-i-preserved c =
    fills_more (with_writes c.args.writes.now c.args.bytes.now) c.args.buf.now c.loop-i.buf
    c.args.at c.loop-i.i c.byte_after.result c.loop-i.invariant c.loop-i-test.true
    c.requires.range c.byte_after.ensures

pub returns : goal.returns
returns c =
    let from : List ℕ = drop c.args.at (with_writes c.args.writes.now c.args.bytes.now) in
    let whole : c.loop-i.i ≡ length c.args.buf.now =
    omega (arith, c.loop-i-test.false, c.loop-i.auto.i-end) in
    c.loop-i.invariant
    ∙ ap (λ (l : List ℕ). take c.loop-i.i from ++ l)
    (drop_all c.loop-i.i c.args.buf.now c.loop-i-test.false)
    ∙ append-nil (take c.loop-i.i from) ∙ ap (λ (n : ℕ). take n from) whole

pub copy_range-requires : goal.copy_range-requires
copy_range-requires c =
    let none = with_no_more c.args.writes.now c.args.bytes.now
    (eqb-true (length c.args.writes.now) 0 (sym c.is_empty.ensures ∙ c.if-is_empty.true)) in
    omega (arith, c.requires.range, ap (λ (l : List ℕ). length l) none)

pub returns-then-is_empty : goal.returns-then-is_empty
returns-then-is_empty c =
    let none = with_no_more c.args.writes.now c.args.bytes.now
    (eqb-true (length c.args.writes.now) 0 (sym c.is_empty.ensures ∙ c.if-is_empty.true)) in
    c.copy_range.ensures
    ∙ ap (λ (l : List ℕ). take (length c.args.buf.now) (drop c.args.at l)) (sym none)

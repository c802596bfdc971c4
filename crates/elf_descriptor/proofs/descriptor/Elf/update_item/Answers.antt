use Rattle.std.proofs.Common.{ℕ, ◌*◌, ◌^◌, ◌<◌, ◌≤◌, Fits, w64, arith, length, [], refl, sym, ap, ◌∙◌, subst}
use Rattle.std.proofs.Math.Nat.{mul-le-mul_right}
use Rattle.section_table.proofs.elf_object.AnswerLaws.{answered_value}
use Rattle.elf_descriptor.proofs.LendLaws.{refilled_set}
use Rattle.elf_descriptor.proofs.StoreCalls.{store_passed, store_wants, store_edits}
use Rattle.elf_descriptor.proofs.descriptor.Elf.update_item.Goals as goal

below : (i n size : ℕ) → i < n → n * size < 2 ^ 63 → Fits w64 (i * size)
below i n size inside small = let less : i * size ≤ n * size = mul-le-mul_right size (omega (arith, inside)) in omega (arith, less, small)

pub bounds-as_mut_slice-at : goal.bounds-as_mut_slice-at
bounds-as_mut_slice-at g c =
    let passed = store_passed _ _ _ _ _ _ (answered_value _ _ _ (sym c.in_default.ensures.answer)).0 in
    subst (λ n. c.args.i < n) (sym (ap length c.as_mut_slice.ensures.value ∙ c.in-Ok.ensures.sized)) passed.1

pub offset_bounds-as_mut_slice-at : goal.offset_bounds-as_mut_slice-at
offset_bounds-as_mut_slice-at g c = below c.args.i (length c.as_mut_slice.result.now) _ (bounds-as_mut_slice-at g c) c.as_mut_slice.type_inv.1

pub returns-in-Ok-clause-edits : goal.returns-in-Ok-clause-edits
returns-in-Ok-clause-edits g c =
    let passed = store_passed _ _ _ _ _ _ (answered_value _ _ _ (sym c.in_default.ensures.answer)).0 in
    store_edits g.S.Source g.T.Listed.kind g.T.Listed.variant g.T.Listed.list_of g.T.Storable.fitting g.met.T.Listed.of_kind _ _ c.args.self.now _ c.args.d.section c.args.d.piece c.args.i c.args.item
    c.in-Ok.list.now _ g.met.T.Listed.counted passed.0 (c.lend.follows.holds _ (rw c.in-Ok.is refl)) (λ refused. rw c.in-Ok.is tt) tt
    (refilled_set c.in-Ok.list.now c.as_mut_slice.result.now c.args.i c.args.item c.as_mut_slice.ensures.value) c.in-Ok.ensures.value c.in-Ok.ensures.sized

pub returns-in-Err-lend-clause-answer : goal.returns-in-Err-lend-clause-answer
returns-in-Err-lend-clause-answer g c =
    store_wants g.S.Source g.T.Listed.kind g.T.Listed.variant g.T.Listed.list_of g.T.Storable.fitting g.met.T.Listed.of_kind c.args.self.now c.args.d.section c.args.d.piece c.args.i c.args.item [] c.in-Err-lend.e
    (answered_value _ _ _ (sym c.in_default.ensures.answer)).0 c.in-Err-lend.ensures.answer

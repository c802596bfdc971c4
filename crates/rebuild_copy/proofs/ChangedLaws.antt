-- The changes of what was gathered, the check of the string index before them, and the places
-- after them.
use Rattle.std.proofs.Common.{◌≡◌, ◌⊎◌, inl, inr, ℕ, Bool, Option, Some, None, Result, Ok, Err, refl, sym, ap, ◌∙◌, subst, arith}
use Rattle.std.specs.Prelude.{IfSome}
use Rattle.elf_types.specs.Answers.{◌>>=◌}
use Rattle.elf_types.specs.declared.errors.ElfError.{ElfError}
use Rattle.elf_types.specs.declared.errors.ElfError.TheVariants.{Memory, Read, Write, TooLarge}
use Rattle.elf_object.specs.Object.{Object}
use Rattle.rebuild_model.specs.Arranged.{Rebuilt, arranged}
use Rattle.rebuild_model.specs.Copied.{Changes, CopyFault as StatedFault, or_strip, with_changes}
use Rattle.rebuild_edits.specs.rebuild_making.Placing.{made_of, arranged_refusal}
use Rattle.rebuild_edits.proofs.edits.StepLaws.{refused_bind}
use Rattle.rebuild_edits.proofs.edits.FaultLaws.{unread_on}
use Rattle.rebuild_plan.specs.declared.arranged.Arranged.{Arranged}
use Rattle.rebuild_plan.specs.Plans.{arranged_object}
use Rattle.rebuild_plan.specs.Reading.{ranges_due}
use Rattle.rebuild_plan.proofs.AnswerLaws.{arranged_ok, arranged_err}
use Rattle.rebuild_changes.specs.declared.faults.CopyFault.{CopyFault}
use Rattle.rebuild_changes.specs.declared.faults.CopyFault.TheVariants as faults
use Rattle.rebuild_changes.specs.Stated.{stated_copy_fault, IsWithoutDeviceFault}
use Rattle.rebuild_copy.specs.Changing.{placed_copy, IsNoSection}
use Rattle.rebuild_copy.specs.Rows.{Origin}
use Rattle.rebuild_copy.specs.Steps.{AltersContents, IsUsableIf}
use Rattle.rebuild_copy.specs.Arranging.{PlacesAgain, IsTooFar}
use Rattle.rebuild_copy.specs.Plans.{ArrangesChanged, ChecksIndex, ArrangesUsable}
use Rattle.rebuild_copy.proofs.UsableLaws.{strip_given}

-- ---- The changes

module _ (c : Changes) (renewed : Bool) (x y : Arranged) where
  -- the places are given
  module _ (z : Arranged) (places : PlacesAgain y (Ok z)) where
    placed_is : (o : Origin) (q : Object) → y.tail ≡ o.tail → arranged_refusal q y.tail ≡ None
        → placed_copy o.tail q ≡ Ok (made_of (arranged_object q y.tail) o.tail)
    placed_is o q tail passed =
        let answer : Option ℕ → Result Rebuilt StatedFault =
        λ t. Ok (made_of (arranged_object q y.tail) t) in
        ap (λ (t : Option ℕ). or_strip (arranged (made_of q t))) (sym tail)
        ∙ ap (λ (r : Result Rebuilt ElfError). or_strip r) (sym (arranged_ok q y.tail passed))
        ∙ ap answer tail

    pub changed_arranged : AltersContents {T = Unit {0}} (IsUsableIf renewed)
        (with_changes c renewed) (Ok tt) x y → ArrangesChanged c renewed x (Ok z)
    changed_arranged changes = record {
      each = λ o p is usable.
          let one = changes.turns o p is usable in
          let listed = one.contents.listed in
          let placed = places.ok o one.left listed in (
            arranged_object one.left y.tail,
            ap (λ (r : Result Object StatedFault). r >>= placed_copy o.tail)
                (one.alters.altered refl)
                ∙ placed_is o one.left listed.tail_is placed.passed,
            placed.listed,
          );
      small = places.small;
      less =
          let first = changes.less in
          let second = ap ranges_due places.stays.ranges in
          omega (arith, first, second);
      unread = tt;
    }

  -- or they are refused
  large_given : (q : Object) (tail : Option ℕ) → arranged_refusal q tail ≡ Some TooLarge
      → IfSome (stated_copy_fault (faults.Strip TooLarge)) (λ d. placed_copy tail q ≡ Err d)
  large_given q tail refused =
      strip_given TooLarge (arranged (made_of q tail)) (sym (arranged_err q tail TooLarge refused))

  placed_not : (o : Origin) (q : Object) (e : ElfError) → y.tail ≡ o.tail
      → (e ≡ Memory) ⊎ ((e ≡ TooLarge) × (arranged_refusal q y.tail ≡ Some TooLarge))
      → IfSome (stated_copy_fault (faults.Strip e)) (λ d. placed_copy o.tail q ≡ Err d)
  placed_not o q e tail (inl want) =
      subst (λ (b : ElfError). IfSome (stated_copy_fault (faults.Strip b))
      (λ d. placed_copy o.tail q ≡ Err d)) (sym want) tt
  placed_not o q e tail (inr far) =
      subst (λ (b : ElfError). IfSome (stated_copy_fault (faults.Strip b))
      (λ d. placed_copy o.tail q ≡ Err d)) (sym far.0)
      (subst (λ (t : Option ℕ). IfSome (stated_copy_fault (faults.Strip TooLarge))
      (λ d. placed_copy t q ≡ Err d)) tail (large_given q y.tail far.1))

  far_unread : (e : ElfError) → (e ≡ Memory) ⊎ IsTooFar y e
      → IsWithoutDeviceFault {T = Arranged} (Err (faults.Strip e))
  far_unread e (inl want) =
      subst (λ (b : ElfError). IsWithoutDeviceFault {T = Arranged} (Err (faults.Strip b)))
      (sym want) tt
  far_unread e (inr far) =
      subst (λ (b : ElfError). IsWithoutDeviceFault {T = Arranged} (Err (faults.Strip b)))
      (sym far.error) tt

  pub changed_far : (e : ElfError) → AltersContents {T = Unit {0}} (IsUsableIf renewed)
      (with_changes c renewed) (Ok tt) x y → PlacesAgain y (Err e)
      → ArrangesChanged c renewed x (Err (faults.Strip e))
  changed_far e changes places = record {
    each = λ o p is usable.
        let one = changes.turns o p is usable in
        let listed = one.contents.listed in
        subst (λ (r : Result Object StatedFault). IfSome (stated_copy_fault (faults.Strip e))
        (λ d. (r >>= placed_copy o.tail) ≡ Err d)) (sym (one.alters.altered refl))
        (placed_not o one.left e listed.tail_is (elim (places.err) [
          | inl want ↦ inl want
          | inr far ↦ inr (far.error, far.refused o one.left listed)
        ]));
    small = tt;
    less = tt;
    unread = far_unread e places.err;
  }

  -- or a change is
  pub changed_fault : (f : CopyFault) → AltersContents {T = Unit {0}} (IsUsableIf renewed)
      (with_changes c renewed) (Err f) x y → ArrangesChanged c renewed x (Err f)
  changed_fault f changes = record {
    each = λ o p is usable.
        refused_bind (with_changes c renewed p) (placed_copy o.tail) (stated_copy_fault f)
        ((changes.turns o p is usable).alters.altered refl);
    small = tt;
    less = tt;
    unread = unread_on (Unit {0}) Arranged f changes.unread;
  }

-- ---- The index before them

pub no_section_unread : (T : Type 0) (e : ElfError) → IsNoSection e
    → IsWithoutDeviceFault {T = T} (Err (faults.Strip e))
no_section_unread T Read is = absurd is
no_section_unread T Write is = absurd is
no_section_unread T e is = tt

module _ (c : Changes) (renewed : Bool) (x : Arranged) where
  pub usable_arranged : (r : Result Arranged CopyFault) → ChecksIndex x renewed (Ok tt)
      → ArrangesChanged c renewed x r → ArrangesUsable c renewed x r
  usable_arranged r checked changes = record {
    each = λ o p is. inl (changes.each o p is (checked o p is.listed));
    small = changes.small;
    less = changes.less;
    unread = changes.unread;
  }

  pub index_refused : (e : ElfError) → ChecksIndex x renewed (Err e)
      → ArrangesUsable c renewed x (Err (faults.Strip e))
  index_refused e checked = record {
    each = λ o p is. inr (checked.0 o p is.listed, checked.1);
    small = tt;
    less = tt;
    unread = no_section_unread Arranged e checked.1;
  }

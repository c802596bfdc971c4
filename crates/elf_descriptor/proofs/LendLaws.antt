-- What callers may rest on after items were lent or stored.
use Rattle.std.proofs.Common.{◌≡◌, ℕ, ◌<◌, List, ◌++◌, length, take, drop, set, Some, None, Result, Ok, Err, sym, ap, ◌∙◌, subst}
use Rattle.std.specs.Prelude.{IsTrue, IfOk, nat_le, slice_get}
use Rattle.std.proofs.lemmas.Bool.{leb-false}
use Rattle.std.proofs.lemmas.List.{length-set, get_or-set_same}
use Rattle.std.proofs.lemmas.Option.{slice_get_within, get_or_from_slice_get}
use Rattle.std.proofs.Math.Seq.{take-append_seam}
use Rattle.elf_types.specs.Lists.{refilled}
use Rattle.elf_types.specs.declared.records.Kind.{Kind}
use Rattle.elf_types.specs.declared.errors.ElfError.{ElfError}
use Rattle.elf_types.specs.declared.errors.ElfError.TheVariants.{NoSection, NoData}
use Rattle.section_table.specs.elf_xlate.declared.content.Items.{Items}
use Rattle.section_table.specs.elf_outside.declared.sources.Source.{Ghosts}
use Rattle.section_table.specs.elf_object.Words.{Wants, Answers}
use Rattle.section_table.specs.elf_object.Object.{Object}
use Rattle.section_table.specs.elf_object.Answers.{lend_refusal, items_at, piece_count}
use Rattle.section_table.specs.elf_object.Steps.{with_own}
use Rattle.section_table.proofs.elf_object.PassedLaws.{not_refused}
use Rattle.section_table.proofs.elf_object.StepLaws.{section_count-with_own, piece_count-with_own, items_at-with_own}
use Rattle.section_table.proofs.elf_object.AnswerLaws.{entry_value, lend_passed}
use Rattle.elf_descriptor.specs.State.{State}
use Rattle.elf_descriptor.specs.Entries.{entry}
use Rattle.elf_descriptor.specs.Lends.{IsLent}

-- a lend that is not refused is one of a piece that is there
pub lend_there : (o : Object) (kind : Kind) (s p : ℕ) → lend_refusal o kind s p ≡ None → (s < length o.sections) × (p < piece_count o s)
lend_there o kind s p passed =
    let past = lend_passed o kind s p passed in (
      leb-false (length o.sections) s (not_refused (nat_le (length o.sections) s) (NoSection s (length o.sections)) past.0),
      leb-false (piece_count o s) p (not_refused (nat_le (piece_count o s) p) (NoData p (piece_count o s)) past.1),
    )

-- the items that a piece was given are read
pub owned_entry : {A : Type 0} (kind : Kind) (list_of : Items → List A) (o : Object) (s p i : ℕ) (items : Items) (x : A) → (entry kind list_of s p i).answer (with_own o s p items) ≡ Ok x → slice_get (list_of items) i ≡ Some x
owned_entry kind list_of o s p i items x given =
    let new = with_own o s p items in
    let value = entry_value (lend_refusal new kind s p) (list_of (items_at new s p)) i x given in
    let there = lend_there new kind s p value.0 in
    let section = subst (λ (n : ℕ). s < n) (section_count-with_own o s p items) there.0 in
    let piece = subst (λ (n : ℕ). p < n) (piece_count-with_own o s p items section) there.1 in
    ap (λ (l : Items). slice_get (list_of l) i) (sym (items_at-with_own o s p items section piece)) ∙ value.1

-- an item that is read after a lend is the one that the borrower left
pub lent_entry : {S T A : Type 0} (g : Ghosts S) (r : Result T ElfError) (kind : Kind) (list_of : Items → List A) (old new : State S) (s p i : ℕ) (left : Items) (wants : Wants) (result : Result A ElfError)
    → IsLent g r old new s p left → IsTrue old.told → Answers new.told wants result ((entry kind list_of s p i).answer new.o) → IfOk result (λ x. slice_get (list_of left) i ≡ Some x)
lent_entry g r kind list_of old new s p i left wants (Err e) lent told came = tt
lent_entry g r kind list_of old new s p i left wants (Ok x) lent told came =
    owned_entry kind list_of old.o s p i left x
    (subst (λ (o : Object). (entry kind list_of s p i).answer o ≡ Ok x) lent.object (came.1 (lent.reads.told ∙ told)))

-- ---- An item is stored in a list that was lent

pub refilled_same : {X : Type 0} (l left : List X) → length left ≡ length l → refilled l left ≡ left
refilled_same l left same = ap (λ (n : ℕ). take n (left ++ drop (length left) l)) (sym same) ∙ take-append_seam left (drop (length left) l)

pub refilled_set : {X : Type 0} (l slice : List X) (i : ℕ) (x : X) → slice ≡ l → refilled l (set slice i x) ≡ set l i x
refilled_set l slice i x same = refilled_same l (set slice i x) (length-set slice i x ∙ ap length same) ∙ ap (λ (m : List _). set m i x) same

-- it is what is read there
pub stored_read : {X : Type 0} (l slice : List X) (i : ℕ) (x : X) (result : Result X ElfError) → slice ≡ l → IfOk result (λ y. slice_get (refilled l (set slice i x)) i ≡ Some y) → IfOk result (λ y. y ≡ x)
stored_read l slice i x (Err e) same is = tt
stored_read l slice i x (Ok y) same is =
    let there : slice_get (set l i x) i ≡ Some y = ap (λ (m : List _). slice_get m i) (sym (refilled_set l slice i x same)) ∙ is in
    let inside = subst (λ (n : ℕ). i < n) (length-set l i x) (slice_get_within (set l i x) i y there) in
    sym (get_or_from_slice_get (set l i x) i y x there) ∙ get_or-set_same l i x x inside

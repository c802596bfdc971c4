-- What is so of each section of an object, one after the other.
use Rattle.std.proofs.Common.{◌≡◌, ℕ, ◌<◌, ◌≤◌, ◌+◌, true, false, not, List, [], ◌∷◌, length, get_or, refl, sym, ap, ◌∙◌, subst, arith, ⊎_elim}
use Rattle.std.specs.List.{list_any}
use Rattle.std.proofs.lemmas.Bool.{cases_lt}
use Rattle.std.proofs.lemmas.List.{get_or_past}
use Rattle.elf_object.specs.Answers.{piece_count}
use Rattle.elf_object.specs.Blocks.{extents_meet}
use Rattle.elf_object.specs.Object.{Object, Section, Piece, section_at, piece_at, absent_section, home_piece}
use Rattle.law_object.specs.Writing.Based.{some_unmarked}
use Rattle.elf_descriptor.specs.State.{State}
use Rattle.test_descriptor.specs.Callers.Ranges.{StaysOver, StaysWithin}

-- ---- A section with one piece

one_in : (l : List Piece) (d : Piece) → length l ≡ 1 → (get_or l 0 d).marked ≡ true
    → list_any (λ (p : Piece). not p.marked) l ≡ false
one_in [] d one marked = cc
one_in (p ∷ []) d one marked = rw marked refl
one_in (p ∷ q ∷ l) d one marked = absurd (omega (arith, one))

-- no other is unmarked
pub one_is_marked : (o : Object) (s : ℕ) → piece_count o s ≡ 1 → (piece_at o s 0).marked ≡ true
    → some_unmarked (section_at o s) ≡ false
unfolding piece_count piece_at some_unmarked
one_is_marked o s one marked = one_in (section_at o s).pieces home_piece one marked

-- ---- Each number below one

module _ (P : ℕ → Type 0) where
  abbrev pub AllBelow : ℕ → Type 0
  AllBelow i = (s : ℕ) → s < i → P s

  pub none_below : AllBelow 0
  none_below = λ s below. absurd (omega arith)

  pub one_more : (i : ℕ) → AllBelow i → P i → AllBelow (i + 1)
  one_more i before here = λ s below. ⊎_elim (λ earlier. before s earlier)
      (λ past. let same : i ≡ s = omega arith in subst P same here) (cases_lt s i)

  pub each_is : (n i : ℕ) → n ≤ i → AllBelow i → ((s : ℕ) → n ≤ s → P s) → (s : ℕ) → P s
  each_is n i all before past = λ s.
      ⊎_elim (λ there. before s there) (λ gone. past s (omega arith)) (cases_lt s i)

-- ---- A section that is not there

absent_there : (o : Object) (s : ℕ) → length o.sections ≤ s → section_at o s ≡ absent_section
unfolding section_at
absent_there o s past = get_or_past o.sections s absent_section past

nothing_meets : (at n : ℕ) → extents_meet 0 0 at n ≡ false
unfolding extents_meet
nothing_meets at n = refl

pub absent_over : {S : Type 0} (state : State S) (at n s : ℕ) → length state.o.sections ≤ s
    → StaysOver state at n s
absent_over state at n s past = λ lies meets.
    let none =
    ap (λ (c : Section). extents_meet c.home.at c.home.len at n) (absent_there state.o s past)
    ∙ nothing_meets at n in
    let clash : true ≡ false = sym meets ∙ none in absurd cc

pub absent_within : {S : Type 0} (state : State S) (n s : ℕ) → length state.o.sections ≤ s
    → StaysWithin state n s
absent_within state n s past = λ lies some passes.
    let none = ap (λ (c : Section). c.home.len) (absent_there state.o s past) in
    absurd (omega (arith, none, some))

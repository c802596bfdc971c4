-- When the string index of what was made anew is usable.
use Rattle.std.proofs.Common.{◌≡◌, ◌⊎◌, ◌==◌, ◌&&◌, ◌||◌, ◌+◌, ◌-◌, ◌<◌, ◌≤◌, ℕ, zero, suc, Bool, true, false, not, cond, List, [], ◌∷◌, length, Option, Some, None, Result, Ok, Err, refl, sym, ap, ◌∙◌, subst, inl, inr, arith, ⊎_elim}
use Rattle.std.specs.Prelude.{IfSome, filter, nat_eq, nat_lt, nat_le, if◌then◌else◌}
use Rattle.std.specs.List.{range_with_len, list_any, position, position_from}
use Rattle.std.proofs.lemmas.Bool.{and_parts, and_cases, cases_eq, eqb-true, ne_eqb, not-true, not-false, leb-false, ltb-true, lt-ltb, eq-eqb}
use Rattle.std.proofs.lemmas.Iterator.Adapters.{position_from-zero}
use Rattle.elf_types.specs.declared.errors.ElfError.{ElfError}
use Rattle.elf_types.specs.declared.errors.ElfError.TheVariants.{Memory, Read, NoSection, Unfit}
use Rattle.elf_types.specs.declared.records.Part.TheVariants as part
use Rattle.elf_types.specs.Answers.{refused_if, first_refusal}
use Rattle.elf_object.specs.Object.{Object, Section}
use Rattle.elf_object.specs.Calls.{update_ehdr_refusal}
use Rattle.elf_object.specs.Steps.{stored_ehdr}
use Rattle.elf_xlate.specs.Headers.{ehdr_fits}
use Rattle.elf_object.specs.Sections.{is_among, number_or_0}
use Rattle.rebuild_model.specs.Followed.{Renumbering, renumbering, kept_sections, kept_from_1, followed, renumbered, is_section_number}
use Rattle.rebuild_model.specs.Arranged.{Rebuilt}
use Rattle.rebuild_model.specs.Rebuilt.{rebuilt, rebuilt_object, rebuilt_sections, rebuilt_index, rebuilt_tail, renews_names, index_refusal}
use Rattle.rebuild_model.specs.Copied.{or_strip}
use Rattle.rebuild_edits.specs.rebuild_select.Steps.{IsRemovable}
use Rattle.rebuild_plan.proofs.rebuild_keep.NumberLaws.{zero_stays, kept_with_0}
use Rattle.law_rebuild.proofs.strip.RebuiltLaws.{rebuilt_known}
use Rattle.law_rebuild.proofs.copy.Reopened.{front_is}
use Rattle.law_rebuild.proofs.copy.AllChanges.{places_leave}
use Rattle.rebuild_changes.specs.declared.faults.CopyFault.TheVariants as faults
use Rattle.rebuild_changes.specs.Stated.{stated_copy_fault}
use Rattle.rebuild_copy.specs.Changing.{usable_at, IsUsable}

-- ---- A refusal of a step, as a fault

pub strip_given : {A : Type 0} (e : ElfError) (r : Result A ElfError) → r ≡ Err e
    → IfSome (stated_copy_fault (faults.Strip e)) (λ d. or_strip r ≡ Err d)
strip_given Memory r is = tt
strip_given Read r is = tt
strip_given {A} e r is = ap (λ (x : Result A ElfError). or_strip x) is

-- ---- The test of the index

usable_zero : (index : ℕ) (count : ℕ) (renewed : Bool) → index ≡ 0
    → usable_at index count renewed ≡ not renewed
usable_zero index count renewed none =
    ap (λ (b : Bool). if b then not renewed else nat_lt index count) (eq-eqb index 0 none)

usable_other : (index : ℕ) (count : ℕ) (renewed : Bool) → (index ≡ 0 → ⊥)
    → usable_at index count renewed ≡ nat_lt index count
usable_other index count renewed some =
    ap (λ (b : Bool). if b then not renewed else nat_lt index count) (ne_eqb index 0 some)

module _ (o : Object) (renewed : Bool) (index count : ℕ) (b : Bool)
    (index_is : index ≡ o.header.shstrndx) (count_is : count ≡ length o.sections)
    (is : b ≡ usable_at index count renewed) where
  pub checked_usable : b ≡ true → IsUsable o renewed
  checked_usable holds = elim (cases_eq index 0) [
    | inl none ↦ inl (
      sym index_is ∙ none,
      not-true renewed (sym (usable_zero index count renewed none) ∙ sym is ∙ holds),
    )
    | inr some ↦
        let below = ltb-true index count
        (sym (usable_other index count renewed some) ∙ sym is ∙ holds) in
        inr (omega (arith, some, index_is), omega (arith, below, index_is, count_is))
  ]

  pub checked_unusable : b ≡ false → IsUsable o renewed → ⊥
  checked_unusable fails (inl none) =
      let holds = usable_zero index count renewed (index_is ∙ none.0) in
      let both : false ≡ true =
      sym fails ∙ is ∙ holds ∙ ap not none.1 in cc
  checked_unusable fails (inr there) =
      let from = there.0 in
      let below = there.1 in
      let some : index ≡ 0 → ⊥ = λ none. omega (arith, none, index_is, from) in
      let holds = usable_other index count renewed some
      ∙ lt-ltb index count (omega (arith, index_is, count_is, below)) in
      let both : false ≡ true = sym fails ∙ is ∙ holds in cc

-- ---- What rebuild makes has a usable index

two_passed : {E : Type 0} (a b : Bool) (d e : E)
    → first_refusal (refused_if a d ∷ refused_if b e ∷ []) ≡ None → a ≡ false
two_passed true b d e is = cc
two_passed false b d e is = refl

index_low : (o : Object) (sections : List Section) (index : ℕ)
    → index_refusal o sections index ≡ None → (index ≡ 0) ⊎ (index < length sections)
unfolding index_refusal update_ehdr_refusal stored_ehdr
index_low o sections index passed =
    ⊎_elim
    (λ zero_is. inl (eqb-true index 0 (not-false (index == 0) zero_is)))
    (λ below. inr (leb-false (length sections) index below))
    (and_cases (not (index == 0)) (nat_le (length sections) index)
    (two_passed (not (index == 0) && nat_le (length sections) index)
    (not (ehdr_fits (stored_ehdr (record o.header { shnum = length sections })
    (record o.header { shstrndx = index }))))
    (NoSection index (length sections)) (Unfit part.Header 0) passed))

module _ (f : ℕ → Bool) (n : ℕ) where
  among_some : (a m : ℕ) → list_any (nat_eq n) (filter f (range_with_len a m)) ≡ true → 0 < m
  among_some a zero is = let never : false ≡ true = is in cc
  among_some a (suc m) is = omega arith

  among_from : (a m : ℕ) → list_any (nat_eq n) (filter f (range_with_len a m)) ≡ true → a ≤ n
  among_from a zero is = let never : false ≡ true = is in cc
  among_from a (suc m) is = by_kept (f a) (among_from (a + 1) m) is
    where
      by_here : (b : Bool) → nat_eq n a ≡ b
          → (list_any (nat_eq n) (filter f (range_with_len (a + 1) m)) ≡ true → a + 1 ≤ n)
          → (b || list_any (nat_eq n) (filter f (range_with_len (a + 1) m))) ≡ true → a ≤ n
      by_here true here later is = let same = eqb-true n a here in omega (arith, same)
      by_here false here later is = let more = later is in omega (arith, more)

      by_kept : (b : Bool)
          → (list_any (nat_eq n) (filter f (range_with_len (a + 1) m)) ≡ true → a + 1 ≤ n)
          → list_any (nat_eq n)
          (cond b (a ∷ filter f (range_with_len (a + 1) m)) (filter f (range_with_len (a + 1) m)))
          ≡ true → a ≤ n
      by_kept true later is = by_here (nat_eq n a) refl later is
      by_kept false later is = let more = later is in omega (arith, more)

-- the position of one that is there
found_past : (n : ℕ) (l : List ℕ) (a : ℕ) → list_any (nat_eq n) l ≡ true → 0 < a
    → 0 < number_or_0 (position_from (nat_eq n) a l)
found_past n [] a is from = let never : false ≡ true = is in cc
found_past n (x ∷ l) a is from =
    by_test (nat_eq n x) (λ e. found_past n l (a + 1) e (omega (arith, from))) is
  where
    by_test : (b : Bool)
        → (list_any (nat_eq n) l ≡ true → 0 < number_or_0 (position_from (nat_eq n) (a + 1) l))
        → (b || list_any (nat_eq n) l) ≡ true
        → 0 < number_or_0 (cond b (Some a) (position_from (nat_eq n) (a + 1) l))
    by_test true later is = from
    by_test false later is = later is

followed_by : (m : Renumbering) (n : ℕ) (b : Bool) → is_section_number m n ≡ b
    → followed m n ≡ (if b then number_or_0 (position (nat_eq n) m.kept) else n)
unfolding followed renumbered
followed_by m n b is =
    ap (λ (t : Bool). if t then number_or_0 (position (nat_eq n) m.kept) else n) is

module _ (o : Object) (removed : List ℕ) (n : ℕ) (removable : IsRemovable o removed)
    (kept : is_among (kept_from_1 o removed) n ≡ true) where
  from_1 : 0 < n
  unfolding is_among kept_from_1
  from_1 =
      let from = among_from (λ s. not (is_among removed s)) n 1 (length o.sections - 1) kept in
      omega (arith, from)

  some_sections : 0 < length o.sections
  unfolding is_among kept_from_1
  some_sections =
      let some = among_some (λ s. not (is_among removed s)) n 1 (length o.sections - 1) kept in
      omega (arith, some)

  kept_is : kept_sections o removed ≡ 0 ∷ kept_from_1 o removed
  kept_is =
      let some = some_sections in
      kept_with_0 o removed (zero_stays o removed removable)
      ∙ ap (λ (b : Bool). if b then [] else 0 ∷ kept_from_1 o removed)
      (ne_eqb (length o.sections) 0 (λ none. omega (arith, none, some)))

  listed_past : 0 < number_or_0 (position_from (nat_eq n) 0 (0 ∷ kept_from_1 o removed))
  unfolding is_among
  listed_past =
      let from = from_1 in
      subst (λ (b : Bool).
      0 < number_or_0 (cond b (Some 0) (position_from (nat_eq n) (0 + 1) (kept_from_1 o removed))))
      (sym (ne_eqb n 0 (λ none. omega (arith, none, from))))
      (found_past n (kept_from_1 o removed) 1 kept (omega arith))

  position_past : 0 < number_or_0 (position (nat_eq n) (kept_sections o removed))
  position_past =
      subst (λ (p : Option ℕ). 0 < number_or_0 p)
      (sym (ap (λ (l : List ℕ). position (nat_eq n) l) kept_is
      ∙ position_from-zero (nat_eq n) (0 ∷ kept_from_1 o removed))) listed_past

  followed_past : 0 < followed (renumbering o removed) n
  followed_past = by_test (is_section_number (renumbering o removed) n) refl
    where
      by_if : (b : Bool)
          → 0 < (if b then number_or_0 (position (nat_eq n) (kept_sections o removed)) else n)
      by_if true = position_past
      by_if false = from_1

      by_test : (b : Bool) → is_section_number (renumbering o removed) n ≡ b
          → 0 < followed (renumbering o removed) n
      by_test b is =
          subst (λ (k : ℕ). 0 < k) (sym (followed_by (renumbering o removed) n b is)) (by_if b)

index_past : (o : Object) (removed : List ℕ) → IsRemovable o removed
    → renews_names o removed ≡ true → 0 < rebuilt_index o removed
unfolding renews_names rebuilt_index
index_past o removed removable e =
    followed_past o removed o.header.shstrndx removable (and_parts _ _ e).0

usable_none : (o : Object) (b : Bool) → (b ≡ true → 0 < o.header.shstrndx)
    → o.header.shstrndx ≡ 0 → IsUsable o b
usable_none o true past none = let from = past refl in absurd (omega (arith, from, none))
usable_none o false past none = inl (none, refl)

usable_by : (o : Object) (b : Bool) → (b ≡ true → 0 < o.header.shstrndx)
    → (o.header.shstrndx ≡ 0) ⊎ (o.header.shstrndx < length o.sections) → IsUsable o b
usable_by o b past (inl none) = usable_none o b past none
usable_by o b past (inr below) = elim (cases_eq o.header.shstrndx 0) [
  | inl none ↦ usable_none o b past none
  | inr some ↦ inr (omega (arith, some), below)
]

pub rebuilt_usable : (o : Object) (removed : List ℕ) (r : Rebuilt) → IsRemovable o removed
    → rebuilt o removed ≡ Ok r → IsUsable r.object (renews_names o removed)
rebuilt_usable o removed r removable e =
    let known = rebuilt_known o removed r e in
    let base = places_leave
    (record { object = rebuilt_object o removed; tail = rebuilt_tail o removed }) r known.is in
    let front = front_is o removed in
    let index : r.object.header.shstrndx ≡ rebuilt_index o removed =
    base.follows.index ∙ front.index in
    let count = base.follows.count in
    let listed = ap (λ (l : List Section). length l) front.sections in
    usable_by r.object (renews_names o removed)
    (λ renews. let past = index_past o removed removable renews in omega (arith, past, index))
    (⊎_elim (λ none. inl (index ∙ none))
    (λ below. inr (omega (arith, below, index, count, listed)))
    (index_low o (rebuilt_sections o removed) (rebuilt_index o removed) known.index))

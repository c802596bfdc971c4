-- The chains of GNU's hash section as runs of chain words up to an end mark.
use Rattle.std.proofs.Common.{◌≡◌, ◌≢◌, ◌⊎◌, inl, inr, ℕ, zero, suc, ◌+◌, ◌-◌, ◌/◌, ◌<◌, ◌≤◌, ◌==◌, Bool, true, false, not, ◌&&◌, ◌||◌, List, [], ◌∷◌, length, Option, Some, None, refl, sym, ap, ◌∙◌, subst, arith}
use Rattle.std.specs.Prelude.{nat_le, nat_lt, slice_get, slice_index_or, if◌then◌else◌}
use Rattle.std.specs.List.{list_any}
use Rattle.std.specs.Option.{option_map}
use Rattle.std.proofs.lemmas.Bool.{le-leb, lt-leb, lt-ltb, leb-true, eq-eqb, ne_eqb, cases_lt, cases_eq}
use borrow.Author.Tests.{ltb-true}
use Rattle.std.proofs.lemmas.Option.{slice_get-get_or, slice_get_within}
use Rattle.hash_model.specs.HashSections.{GnuHash, gnu_word, gnu_chain, gnu_chain_from, is_end, is_on_with, ends}
use Rattle.elf_lint_hashes.specs.Gnu.{is_end_marked, chain_ends_before, has_hash, next_start, IsEnd, IsChainRun}

module _ (h : GnuHash) (count : ℕ) where
  -- ---- Chain words

  low_word : (i : ℕ) → i < h.symoffset → gnu_word h count i ≡ None
  low_word i low = ap (λ (b : Bool). if b && nat_lt i count then slice_get h.chains (i - h.symoffset) else None) (lt-leb h.symoffset i low)

  -- a word that is there is that of a symbol that the section knows and that is there
  word_within : (i w : ℕ) → gnu_word h count i ≡ Some w → (h.symoffset ≤ i) × (i < count) × (i - h.symoffset < length h.chains)
  word_within i w is = by_tests (nat_le h.symoffset i) (nat_lt i count) refl refl is
    where
      by_tests : (a b : Bool) → nat_le h.symoffset i ≡ a → nat_lt i count ≡ b → (if a && b then slice_get h.chains (i - h.symoffset) else None) ≡ Some w
          → (h.symoffset ≤ i) × (i < count) × (i - h.symoffset < length h.chains)
      by_tests true true from below is = (leb-true h.symoffset i from, ltb-true i count below, slice_get_within h.chains (i - h.symoffset) w is)
      by_tests true false from below is = cc
      by_tests false b from below is = cc

  word_known : (i : ℕ) → h.symoffset ≤ i → i < count → i - h.symoffset < length h.chains → (w : ℕ) × (gnu_word h count i ≡ Some w)
  word_known i from below within = (
    get_or_of,
    ap (λ (b : Bool). if b && nat_lt i count then slice_get h.chains (i - h.symoffset) else None) (le-leb h.symoffset i from)
        ∙ ap (λ (b : Bool). if b then slice_get h.chains (i - h.symoffset) else None) (lt-ltb i count below)
        ∙ slice_get-get_or h.chains (i - h.symoffset) 0 within,
  )
    where
      get_or_of : ℕ
      get_or_of = slice_index_or h.chains (i - h.symoffset) 0

  abbrev mark : Option ℕ → Bool
  mark w = elim w [ None ↦ false | Some word ↦ is_end word ]

  marked_as : (i : ℕ) → is_end_marked h count i ≡ mark (gnu_word h count i)
  unfolding is_end_marked
  marked_as i = refl

  marked_word : (i : ℕ) → is_end_marked h count i ≡ true → (w : ℕ) × (gnu_word h count i ≡ Some w) × (is_end w ≡ true)
  unfolding is_end_marked
  marked_word i marked = by_word (gnu_word h count i) refl marked
    where
      by_word : (w : Option ℕ) → gnu_word h count i ≡ w → mark w ≡ true → (v : ℕ) × (gnu_word h count i ≡ Some v) × (is_end v ≡ true)
      by_word None is marked = cc
      by_word (Some w) is marked = (w, is, marked)

  unmarked : (i : ℕ) → gnu_word h count i ≡ None → is_end_marked h count i ≡ false
  unfolding is_end_marked
  unmarked i is = ap mark is

  pub unmarked_low : (i : ℕ) → i < h.symoffset → is_end_marked h count i ≡ false
  unmarked_low i low = unmarked i (low_word i low)

  pub unmarked_high : (i : ℕ) → count ≤ i → is_end_marked h count i ≡ false
  unmarked_high i high = by_mark (is_end_marked h count i) refl
    where
      by_mark : (b : Bool) → is_end_marked h count i ≡ b → b ≡ false
      by_mark false is = refl
      by_mark true is = let there = marked_word i is in absurd (omega (arith, (word_within i there.0 there.1).1))

  -- ---- The last end mark

  -- of the symbols before one
  pub record IsEndBelow (i end : ℕ) : Type 0 where
    pub none : (j : ℕ) → end ≤ j → j < i → is_end_marked h count j ≡ false
    pub last : 0 < end → is_end_marked h count (end - 1) ≡ true

  pub end_begins : IsEndBelow h.symoffset 0
  end_begins = record { none = λ j le lt. unmarked_low j lt; last = λ some. absurd (omega arith) }

  pub end_here : (i : ℕ) → is_end_marked h count i ≡ true → IsEndBelow (i + 1) (i + 1)
  end_here i marked = record {
    none = λ j le lt. absurd (omega arith);
    last = λ some. subst (λ (k : ℕ). is_end_marked h count k ≡ true) (let same : i ≡ i + 1 - 1 = omega arith in same) marked;
  }

  pub end_stays : (i end : ℕ) → IsEndBelow i end → is_end_marked h count i ≡ false → IsEndBelow (i + 1) end
  end_stays i end before unmarked = record {
    none = λ j le lt. by_place j le (cases_lt j i) lt;
    last = before.last;
  }
    where
      by_place : (j : ℕ) → end ≤ j → (j < i) ⊎ (i ≤ j) → j < i + 1 → is_end_marked h count j ≡ false
      by_place j le (inl lt) within = before.none j le lt
      by_place j le (inr past) within = subst (λ (k : ℕ). is_end_marked h count k ≡ false) (let same : i ≡ j = omega arith in same) unmarked

  pub end_is : (i end : ℕ) → IsEndBelow i end → count ≤ i → IsEnd h count end
  end_is i end before all = record {
    none = λ j le. by_place j le (cases_lt j i);
    last = before.last;
  }
    where
      by_place : (j : ℕ) → end ≤ j → (j < i) ⊎ (i ≤ j) → is_end_marked h count j ≡ false
      by_place j le (inl lt) = before.none j le lt
      by_place j le (inr past) = unmarked_high j (omega arith)

  -- ---- Where a chain ends

  ends_more : (row : ℕ × ℕ) (c : Option (List (ℕ × ℕ))) → ends (option_map (λ (later : List (ℕ × ℕ)). row ∷ later) c) ≡ ends c
  ends_more row None = refl
  ends_more row (Some rows) = refl

  abbrev chain_with : ℕ → ℕ → Option (List (ℕ × ℕ)) → Option ℕ → Option (List (ℕ × ℕ))
  chain_with i n rest w = elim w [
    | None ↦ None
    | Some word ↦ elim (is_end word) [
      | true ↦ Some ((i, word) ∷ [])
      | false ↦ option_map (λ later. (i, word) ∷ later) rest
    ]
  ]

  abbrev last_or : ℕ → ℕ → Option (List (ℕ × ℕ)) → Bool → Option (List (ℕ × ℕ))
  last_or i word rest last = elim last [ true ↦ Some ((i, word) ∷ []) | false ↦ option_map (λ later. (i, word) ∷ later) rest ]

  -- the chain from a symbol on whose word is there
  chain_at : (n i w : ℕ) → gnu_word h count i ≡ Some w → gnu_chain h count (suc n) i ≡ last_or i w (gnu_chain h count n (i + 1)) (is_end w)
  unfolding gnu_chain
  chain_at n i w is = ap (chain_with i n (gnu_chain h count n (i + 1))) is

  chain_none : (n i : ℕ) → gnu_word h count i ≡ None → gnu_chain h count n i ≡ None
  unfolding gnu_chain
  chain_none zero i is = refl
  chain_none (suc n) i is = ap (chain_with i n (gnu_chain h count n (i + 1))) is

  -- what a chain is by its first word
  by_first : (n i : ℕ) (P : Option (List (ℕ × ℕ)) → Type 0) → (gnu_word h count i ≡ None → P None)
      → ((w : ℕ) → gnu_word h count i ≡ Some w → is_end_marked h count i ≡ true → P (Some ((i, w) ∷ [])))
      → ((w : ℕ) → gnu_word h count i ≡ Some w → is_end_marked h count i ≡ false → P (option_map (λ later. (i, w) ∷ later) (gnu_chain h count n (i + 1))))
      → P (gnu_chain h count (suc n) i)
  by_first n i P none last more = by_word (gnu_word h count i) refl
    where
      by_mark : (w : ℕ) → gnu_word h count i ≡ Some w → (b : Bool) → is_end w ≡ b → P (last_or i w (gnu_chain h count n (i + 1)) (is_end w))
      by_mark w is true marked = subst (λ (b : Bool). P (last_or i w (gnu_chain h count n (i + 1)) b)) (sym marked) (last w is (marked_as i ∙ ap mark is ∙ marked))
      by_mark w is false marked = subst (λ (b : Bool). P (last_or i w (gnu_chain h count n (i + 1)) b)) (sym marked) (more w is (marked_as i ∙ ap mark is ∙ marked))

      by_word : (w : Option ℕ) → gnu_word h count i ≡ w → P (gnu_chain h count (suc n) i)
      by_word None is = subst P (sym (chain_none (suc n) i is)) (none is)
      by_word (Some w) is = subst P (sym (chain_at n i w is)) (by_mark w is (is_end w) refl)

  never_ends : (n i : ℕ) → ((j : ℕ) → i ≤ j → is_end_marked h count j ≡ false) → ends (gnu_chain h count n i) ≡ false
  unfolding gnu_chain
  never_ends zero i none = refl
  never_ends (suc n) i none = by_first n i (λ c. ends c ≡ false) (λ is. refl)
      (λ w is marked. let here = none i (omega arith) in cc)
      (λ w is marked. ends_more (i, w) (gnu_chain h count n (i + 1)) ∙ never_ends n (i + 1) (λ j le. none j (omega arith)))

  pub does_end : (n i j : ℕ) → h.symoffset ≤ i → i ≤ j → j < i + n → is_end_marked h count j ≡ true → ends (gnu_chain h count n i) ≡ true
  unfolding gnu_chain
  does_end zero i j from le lt marked = absurd (omega arith)
  does_end (suc n) i j from le lt marked = by_first n i (λ c. ends c ≡ true)
      (λ is. let last = marked_word j marked in
      let within = word_within j last.0 last.1 in
      let here = word_known i from (omega (arith, within.1)) (omega (arith, within.2, within.0)) in
      let both : None ≡ Some here.0 = sym is ∙ here.1 in cc)
      (λ w is here. refl)
      (λ w is here. ends_more (i, w) (gnu_chain h count n (i + 1)) ∙ by_place w here (cases_eq i j) (λ before. does_end n (i + 1) j (omega arith) (omega arith) (omega arith) marked))
    where
      by_place : (w : ℕ) → is_end_marked h count i ≡ false → (i ≡ j) ⊎ (i ≡ j → ⊥) → (i < j → ends (gnu_chain h count n (i + 1)) ≡ true) → ends (gnu_chain h count n (i + 1)) ≡ true
      by_place w here (inl same) later = let both = subst (λ (k : ℕ). is_end_marked h count k ≡ false) same here in cc
      by_place w here (inr other) later = later (omega arith)

  -- the chain of a bucket ends where an end mark stands behind its first symbol
  pub ends_is : (end first : ℕ) → IsEnd h count end → chain_ends_before h end first ≡ ends (gnu_chain_from h count first)
  unfolding gnu_chain_from
  ends_is end zero is = refl
  ends_is end (suc k) is =
      ap (λ (b : Bool). if b then true else nat_le h.symoffset (suc k) && nat_le (suc k + 1) end) (ne_eqb (suc k) 0 (λ same. omega (arith, same)))
      ∙ by_place (cases_lt (suc k) h.symoffset) (cases_lt (suc k) end)
    where
      by_place : (suc k < h.symoffset) ⊎ (h.symoffset ≤ suc k) → (suc k < end) ⊎ (end ≤ suc k)
          → (nat_le h.symoffset (suc k) && nat_le (suc k + 1) end) ≡ ends (gnu_chain h count count (suc k))
      by_place (inl low) place =
          ap (λ (b : Bool). b && nat_le (suc k + 1) end) (lt-leb h.symoffset (suc k) low)
          ∙ sym (ap ends (chain_none count (suc k) (low_word (suc k) low)))
      by_place (inr from) (inl before) =
          let marked = is.last (omega arith) in
          let there = marked_word (end - 1) marked in
          let within = word_within (end - 1) there.0 there.1 in
          ap (λ (b : Bool). b && nat_le (suc k + 1) end) (le-leb h.symoffset (suc k) from) ∙ le-leb (suc k + 1) end (omega arith)
          ∙ sym (does_end count (suc k) (end - 1) from (omega arith) (omega (arith, within.1)) marked)
      by_place (inr from) (inr past) =
          ap (λ (b : Bool). b && nat_le (suc k + 1) end) (le-leb h.symoffset (suc k) from) ∙ lt-leb (suc k + 1) end (omega arith)
          ∙ sym (never_ends count (suc k) (λ j le. is.none j (omega arith)))

  -- ---- Which symbols are on a chain

  module _ (i hash : ℕ) where
    on_more : (f w : ℕ) (c : Option (List (ℕ × ℕ))) → f ≢ i → is_on_with i hash (option_map (λ (later : List (ℕ × ℕ)). (f, w) ∷ later) c) ≡ is_on_with i hash c
    on_more f w None other = refl
    on_more f w (Some rows) other =
        ap (λ (b : Bool). (b && (w / 2 == hash / 2)) || list_any (λ (row : ℕ × ℕ). row.0 == i && row.1 / 2 == hash / 2) rows) (ne_eqb f i other)

    on_alone : (f w : ℕ) → f ≢ i → is_on_with i hash (Some ((f, w) ∷ [])) ≡ false
    on_alone f w other = ap (λ (b : Bool). (b && (w / 2 == hash / 2)) || false) (ne_eqb f i other)

    -- none before the chain
    beyond : (n first : ℕ) → i < first → is_on_with i hash (gnu_chain h count n first) ≡ false
    unfolding gnu_chain
    beyond zero first lt = refl
    beyond (suc n) first lt = by_first n first (λ c. is_on_with i hash c ≡ false) (λ is. refl)
        (λ w is here. on_alone first w (λ same. omega (arith, same)))
        (λ w is here. on_more first w (gnu_chain h count n (first + 1)) (λ same. omega (arith, same)) ∙ beyond n (first + 1) (omega arith))

    -- none behind an end mark
    cut : (n first m : ℕ) → first ≤ m → m < i → is_end_marked h count m ≡ true → is_on_with i hash (gnu_chain h count n first) ≡ false
    unfolding gnu_chain
    cut zero first m le lt marked = refl
    cut (suc n) first m le lt marked = by_first n first (λ c. is_on_with i hash c ≡ false) (λ is. refl)
        (λ w is here. on_alone first w (λ same. omega (arith, same)))
        (λ w is here. on_more first w (gnu_chain h count n (first + 1)) (λ same. omega (arith, same)) ∙ by_place here (cases_eq first m) (λ before. cut n (first + 1) m (omega arith) lt marked))
      where
        by_place : is_end_marked h count first ≡ false → (first ≡ m) ⊎ (first ≡ m → ⊥) → (first < m → is_on_with i hash (gnu_chain h count n (first + 1)) ≡ false)
            → is_on_with i hash (gnu_chain h count n (first + 1)) ≡ false
        by_place here (inl same) later = let both = subst (λ (k : ℕ). is_end_marked h count k ≡ false) same here in cc
        by_place here (inr other) later = later (omega arith)

    -- those between
    at_first : (w : ℕ) (rest : Bool) → rest ≡ false → (((i == i) && (w / 2 == hash / 2)) || rest) ≡ (w / 2 == hash / 2)
    at_first w rest none = ap (λ (b : Bool). (b && (w / 2 == hash / 2)) || rest) (eq-eqb i i refl) ∙ ap (λ (b : Bool). (w / 2 == hash / 2) || b) none ∙ or_none (w / 2 == hash / 2)
      where
        or_none : (b : Bool) → (b || false) ≡ b
        or_none true = refl
        or_none false = refl

    here_more : (w : ℕ) (c : Option (List (ℕ × ℕ))) → is_on_with i hash c ≡ false → ends c ≡ true
        → is_on_with i hash (option_map (λ (later : List (ℕ × ℕ)). (i, w) ∷ later) c) ≡ (w / 2 == hash / 2)
    here_more w None none end = cc
    here_more w (Some rows) none end = at_first w (list_any (λ (row : ℕ × ℕ). row.0 == i && row.1 / 2 == hash / 2) rows) none

    pub reached : (n first : ℕ) → first ≤ i → ((j : ℕ) → first ≤ j → j < i → is_end_marked h count j ≡ false) → ends (gnu_chain h count n first) ≡ true
        → is_on_with i hash (gnu_chain h count n first) ≡ has_hash (gnu_word h count i) hash
    unfolding gnu_chain
    reached zero first le free end = cc
    reached (suc n) first le free end = by_first n first (λ c. ends c ≡ true → is_on_with i hash c ≡ has_hash (gnu_word h count i) hash)
        (λ is none. cc)
        (λ w is here some. alone w is here (cases_eq first i))
        (λ w is here some. more w is (sym (ends_more (first, w) (gnu_chain h count n (first + 1))) ∙ some) (cases_eq first i)
        (λ before rest. reached n (first + 1) (omega arith) (λ j from lt. free j (omega arith) lt) rest))
        end
      where
        word_here : (w : ℕ) → gnu_word h count first ≡ Some w → first ≡ i → has_hash (gnu_word h count i) hash ≡ (w / 2 == hash / 2)
        word_here w is same = ap (λ (v : Option ℕ). has_hash v hash) (subst (λ (k : ℕ). gnu_word h count k ≡ Some w) same is)

        alone : (w : ℕ) → gnu_word h count first ≡ Some w → is_end_marked h count first ≡ true → (first ≡ i) ⊎ (first ≡ i → ⊥)
            → is_on_with i hash (Some ((first, w) ∷ [])) ≡ has_hash (gnu_word h count i) hash
        alone w is here (inl same) =
            ap (λ (k : ℕ). is_on_with i hash (Some ((k, w) ∷ []))) same ∙ at_first w false refl ∙ sym (word_here w is same)
        alone w is here (inr other) = let none = free first (omega arith) (omega arith) in cc

        more : (w : ℕ) → gnu_word h count first ≡ Some w → ends (gnu_chain h count n (first + 1)) ≡ true → (first ≡ i) ⊎ (first ≡ i → ⊥)
            → (first < i → ends (gnu_chain h count n (first + 1)) ≡ true → is_on_with i hash (gnu_chain h count n (first + 1)) ≡ has_hash (gnu_word h count i) hash)
            → is_on_with i hash (option_map (λ (later : List (ℕ × ℕ)). (first, w) ∷ later) (gnu_chain h count n (first + 1))) ≡ has_hash (gnu_word h count i) hash
        more w is end (inl same) later =
            ap (λ (k : ℕ). is_on_with i hash (option_map (λ (rows : List (ℕ × ℕ)). (k, w) ∷ rows) (gnu_chain h count n (first + 1)))) same
            ∙ here_more w (gnu_chain h count n (first + 1)) (beyond n (first + 1) (omega arith)) end ∙ sym (word_here w is same)
        more w is end (inr other) later =
            on_more first w (gnu_chain h count n (first + 1)) other ∙ later (omega arith) end

    -- A symbol whose run is known is on a chain that ends where the chain's first symbol is in its
    -- run, and not behind it.
    pub reached_is : (start first : ℕ) → IsChainRun h count i start → ends (gnu_chain_from h count first) ≡ true
        → (not (first == 0) && (nat_le start first && (nat_le first i && has_hash (gnu_word h count i) hash))) ≡ is_on_with i hash (gnu_chain_from h count first)
    unfolding gnu_chain_from
    reached_is start zero run end = refl
    reached_is start (suc k) run end =
        ap (λ (b : Bool). not b && (nat_le start (suc k) && (nat_le (suc k) i && has_hash (gnu_word h count i) hash))) (ne_eqb (suc k) 0 (λ same. omega (arith, same)))
        ∙ by_place (cases_lt (suc k) start) (cases_lt i (suc k))
      where
        by_place : (suc k < start) ⊎ (start ≤ suc k) → (i < suc k) ⊎ (suc k ≤ i)
            → (nat_le start (suc k) && (nat_le (suc k) i && has_hash (gnu_word h count i) hash)) ≡ is_on_with i hash (gnu_chain h count count (suc k))
        by_place (inl before) place =
            ap (λ (b : Bool). b && (nat_le (suc k) i && has_hash (gnu_word h count i) hash)) (lt-leb start (suc k) before)
            ∙ sym (cut count (suc k) (start - 1) (omega arith) (omega (arith, run.within)) (run.begins (omega arith)))
        by_place (inr from) (inl past) =
            ap (λ (b : Bool). b && (nat_le (suc k) i && has_hash (gnu_word h count i) hash)) (le-leb start (suc k) from)
            ∙ ap (λ (b : Bool). b && has_hash (gnu_word h count i) hash) (lt-leb (suc k) i past)
            ∙ sym (beyond count (suc k) past)
        by_place (inr from) (inr within) =
            ap (λ (b : Bool). b && (nat_le (suc k) i && has_hash (gnu_word h count i) hash)) (le-leb start (suc k) from)
            ∙ ap (λ (b : Bool). b && has_hash (gnu_word h count i) hash) (le-leb (suc k) i within)
            ∙ sym (reached count (suc k) within (λ j le lt. run.free j (omega (arith, le)) lt) end)

  -- the run of the next symbol
  run_by : (i start : ℕ) (b : Bool) → is_end_marked h count i ≡ b → IsChainRun h count i start → IsChainRun h count (i + 1) (if b then i + 1 else start)
  run_by i start true marked run = record {
    within = omega arith;
    free = λ j le lt. absurd (omega arith);
    begins = λ some. subst (λ (k : ℕ). is_end_marked h count k ≡ true) (let same : i ≡ i + 1 - 1 = omega arith in same) marked;
  }
  run_by i start false marked run = record {
    within = omega (arith, run.within);
    free = λ j le lt. by_place j le (cases_lt j i) lt;
    begins = run.begins;
  }
    where
      by_place : (j : ℕ) → start ≤ j → (j < i) ⊎ (i ≤ j) → j < i + 1 → is_end_marked h count j ≡ false
      by_place j le (inl lt) within = run.free j le lt
      by_place j le (inr past) within = subst (λ (k : ℕ). is_end_marked h count k ≡ false) (let same : i ≡ j = omega arith in same) marked

  pub run_next : (i start : ℕ) → IsChainRun h count i start → IsChainRun h count (i + 1) (next_start h count start i)
  run_next i start run = run_by i start (is_end_marked h count i) refl run

  pub run_begins : IsChainRun h count 1 1
  run_begins = record { within = omega arith; free = λ j le lt. absurd (omega arith); begins = λ some. absurd (omega arith) }

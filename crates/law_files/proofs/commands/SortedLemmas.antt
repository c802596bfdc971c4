-- Symbols stand in the order that GNU's hash section needs exactly where none is found to stand out
-- of it (`SortedAreBuilt`).
use Rattle.std.proofs.Common.{◌≡◌, ℕ, zero, suc, ◌+◌, ◌-◌, ◌%◌, ◌<◌, ◌≤◌, Bool, true, false, List, [], ◌∷◌, length, get_or, All, Option, Some, None, refl, sym, ap, ◌∙◌, arith, ⊎_elim}
use Rattle.std.specs.Prelude.{map, filter, nat_lt, nat_le, slice_get, if◌then◌else◌}
use Rattle.std.specs.List.{range_with_len}
use Rattle.std.specs.Option.{option_map}
use Rattle.std.proofs.lemmas.Bool.{cases_lt, lt-ltb, le-ltb, ltb-false, le-leb, leb-true}
use Rattle.std.proofs.lemmas.List.{length-map}
use Rattle.std.proofs.lemmas.List.Elements.{All-nil, All-cons, All-head, All-tail}
use Rattle.elf_layout.specs.Meeting.{inserted_by, sorted_by}
use Rattle.elfkit_outcomes.specs.elf_object.Sections.{first_of}
use Rattle.elfkit_outcomes.specs.hash_model.Hashes.{gnu_hash}
use Rattle.elfkit_outcomes.specs.hash_model.BuiltHashes.{buckets_of, order_key, gnu_order_of, is_unsorted_after, first_unsorted}
use Rattle.elfkit_outcomes.specs.rebuild_model.Laws.{SortedAreBuilt}

-- each number after the first has no smaller key than the one before
abbrev pub Ascend : (ℕ → ℕ) → ℕ → ℕ → Type 0
Ascend key a m = (i : ℕ) → a < i → i < a + m → key (i - 1) ≤ key i

-- ---- Sorted by a key

module _ (key : ℕ → ℕ) where
  first_stays : (a m : ℕ) → Ascend key a (suc m) → inserted_by key a (range_with_len (a + 1) m) ≡ a ∷ range_with_len (a + 1) m
  first_stays a zero ascend = refl
  first_stays a (suc m) ascend =
      let before : a + 1 - 1 ≡ a = omega arith in
      let next : key a ≤ key (a + 1) = omega (arith, ascend (a + 1) (omega arith) (omega arith), ap key before) in
      rw (le-leb (key a) (key (a + 1)) next) refl

  stays_sorted : (a m : ℕ) → Ascend key a m → sorted_by key (range_with_len a m) ≡ range_with_len a m
  stays_sorted a zero ascend = refl
  stays_sorted a (suc m) ascend =
      ap (inserted_by key a) (stays_sorted (a + 1) m (λ i from below. ascend i (omega arith) (omega arith))) ∙ first_stays a m ascend

  inserted_all : (P : ℕ → Type 0) (x : ℕ) (l : List ℕ) → P x → All P l → All P (inserted_by key x l)
  inserted_all P x [] here each = All-cons P x [] here (All-nil P)
  inserted_all P x (y ∷ l) here each = by (nat_le (key x) (key y)) (inserted_all P x l here (All-tail P y l each))
    where
      by : (b : Bool) → All P (inserted_by key x l) → All P (if b then x ∷ y ∷ l else y ∷ inserted_by key x l)
      by true rest = All-cons P x (y ∷ l) here each
      by false rest = All-cons P y (inserted_by key x l) (All-head P y l each) rest

  pub sorted_from : (a least m : ℕ) → least ≤ a → All (λ x. least ≤ x) (sorted_by key (range_with_len a m))
  sorted_from a least zero below = All-nil (λ x. least ≤ x)
  sorted_from a least (suc m) below =
      inserted_all (λ x. least ≤ x) a (sorted_by key (range_with_len (a + 1) m)) below (sorted_from (a + 1) least m (omega arith))

  -- a number that is put among greater ones, and stands first then
  record StandsFirst (a : ℕ) (others rest : List ℕ) : Type 0 where
    same : others ≡ rest
    least : (y : ℕ) (ys : List ℕ) → others ≡ y ∷ ys → key a ≤ key y

  stands_first : (a : ℕ) (others rest : List ℕ) → All (λ x. a + 1 ≤ x) others → inserted_by key a others ≡ a ∷ rest → StandsFirst a others rest
  stands_first a [] rest greater e = record { same = cc; least = λ y ys h. cc }
  stands_first a (z ∷ zs) rest greater e = by (nat_le (key a) (key z)) refl e
    where
      by : (b : Bool) → nat_le (key a) (key z) ≡ b → (if b then a ∷ z ∷ zs else z ∷ inserted_by key a zs) ≡ a ∷ rest → StandsFirst a (z ∷ zs) rest
      by true test h = record {
        same = cc;
        least = λ y ys is. let first : z ≡ y = cc in omega (arith, leb-true (key a) (key z) test, ap key first);
      }
      by false test h =
          let first : z ≡ a = cc in
          absurd (omega (arith, All-head (λ x. a + 1 ≤ x) z zs greater))

  was_sorted : (a m : ℕ) → sorted_by key (range_with_len a m) ≡ range_with_len a m → Ascend key a m
  was_sorted a zero e i from below = absurd (omega arith)
  was_sorted a (suc m) e i from below =
      let first = stands_first a (sorted_by key (range_with_len (a + 1) m)) (range_with_len (a + 1) m) (sorted_from (a + 1) (a + 1) m (omega arith)) e in
      let later = was_sorted (a + 1) m first.same in
      ⊎_elim
      (λ (far : a + 1 < i). later i far (omega arith))
      (λ (near : i ≤ a + 1).
      let here : i ≡ a + 1 = omega arith in
      let before : i - 1 ≡ a = omega arith in
      omega (arith, next_key m first.same first.least (omega arith), ap key here, ap key before))
      (cases_lt (a + 1) i)
    where
      next_key : (k : ℕ) → sorted_by key (range_with_len (a + 1) k) ≡ range_with_len (a + 1) k
          → ((y : ℕ) (ys : List ℕ) → sorted_by key (range_with_len (a + 1) k) ≡ y ∷ ys → key a ≤ key y) → 0 < k → key a ≤ key (a + 1)
      next_key zero same least some = absurd (omega arith)
      next_key (suc k) same least some = least (a + 1) (range_with_len (a + 1 + 1) k) same

-- ---- The first that passes a test

none_first : (test : ℕ → Bool) (a m : ℕ) → ((i : ℕ) → a ≤ i → i < a + m → test i ≡ false) → first_of test (range_with_len a m) ≡ None
none_first test a zero fails = refl
none_first test a (suc m) fails =
    let here = fails a (omega arith) (omega arith) in
    rw here (none_first test (a + 1) m (λ i from below. fails i (omega arith) (omega arith)))

none_passes : (test : ℕ → Bool) (a m : ℕ) → first_of test (range_with_len a m) ≡ None → (i : ℕ) → a ≤ i → i < a + m → test i ≡ false
none_passes test a zero e i from below = absurd (omega arith)
none_passes test a (suc m) e i from below = by (test a) refl e (none_passes test (a + 1) m)
  where
    by : (b : Bool) → test a ≡ b → slice_get (if b then a ∷ filter test (range_with_len (a + 1) m) else filter test (range_with_len (a + 1) m)) 0 ≡ None
        → (first_of test (range_with_len (a + 1) m) ≡ None → (j : ℕ) → a + 1 ≤ j → j < a + 1 + m → test j ≡ false) → test i ≡ false
    by true here h rest = cc
    by false here h rest = ⊎_elim
        (λ (far : a < i). rest h i (omega arith) (omega arith))
        (λ (near : i ≤ a). let same : i ≡ a = omega arith in ap test same ∙ here)
        (cases_lt a i)

-- ---- Buckets

out_of_order : (x y : Option ℕ) → is_unsorted_after x y ≡ nat_lt (order_key y) (order_key x)
out_of_order None y = sym (le-ltb (order_key y) 0 (omega arith))
out_of_order (Some b) None = sym (lt-ltb 0 (b + 1) (omega arith))
out_of_order (Some b) (Some c) = ⊎_elim
    (λ (h : c < b). lt-ltb c b h ∙ sym (lt-ltb (c + 1) (b + 1) (omega arith)))
    (λ (h : b ≤ c). le-ltb c b h ∙ sym (le-ltb (c + 1) (b + 1) (omega arith)))
    (cases_lt c b)

abbrev pub key_of : List (Option ℕ) → ℕ → ℕ
key_of buckets i = order_key (get_or buckets i None)

pub ascends : (buckets : List (Option ℕ)) → first_unsorted buckets ≡ None → Ascend (key_of buckets) 0 (length buckets)
unfolding first_unsorted
ascends buckets e i from below =
    let none = none_passes (λ j. is_unsorted_after (get_or buckets (j - 1) None) (get_or buckets j None)) 1 (length buckets - 1) e i from (omega arith) in
    ltb-false (key_of buckets i) (key_of buckets (i - 1)) (sym (out_of_order (get_or buckets (i - 1) None) (get_or buckets i None)) ∙ none)

none_unsorted : (buckets : List (Option ℕ)) → Ascend (key_of buckets) 0 (length buckets) → first_unsorted buckets ≡ None
unfolding first_unsorted
none_unsorted buckets ascend =
    none_first (λ j. is_unsorted_after (get_or buckets (j - 1) None) (get_or buckets j None)) 1 (length buckets - 1) (λ i from below.
    out_of_order (get_or buckets (i - 1) None) (get_or buckets i None)
    ∙ le-ltb (key_of buckets i) (key_of buckets (i - 1)) (ascend i (omega arith) (omega arith)))

pub sorted_are_built : SortedAreBuilt
unfolding gnu_order_of buckets_of
sorted_are_built nbuckets names =
    let buckets = map (option_map (λ name. gnu_hash name % nbuckets)) names in
    let count : length buckets ≡ length names = length-map names (option_map (λ name. gnu_hash name % nbuckets)) in (
      λ e. ap (λ (n : ℕ). sorted_by (key_of buckets) (range_with_len 0 n)) (sym count)
          ∙ stays_sorted (key_of buckets) 0 (length buckets) (ascends buckets e)
          ∙ ap (range_with_len 0) count,
      λ same. none_unsorted buckets (was_sorted (key_of buckets) 0 (length buckets)
          (ap (λ (n : ℕ). sorted_by (key_of buckets) (range_with_len 0 n)) count ∙ same ∙ ap (range_with_len 0) (sym count))),
    )

-- The first number of a range that passes a test, and buckets and chains as they are made from the
-- last symbol on.
use Rattle.std.proofs.Common.{◌≡◌, ◌+◌, ◌-◌, ◌%◌, ◌<◌, ◌≤◌, ◌⊎◌, ℕ, zero, suc, Bool, true, false, cond, List, [], ◌∷◌, length, get_or, set, map, Option, Some, None, refl, sym, ap, ◌∙◌, inl, inr, arith}
use Rattle.std.specs.Prelude.{filter, nat_le, nat_lt, slice_get, IfSome}
use Rattle.std.specs.Option.{option_map}
use Rattle.std.specs.List.{range_with_len}
use Rattle.std.proofs.lemmas.Bool.{le-leb, lt-leb, cases_lt, cases_eq, eq-eqb, ne_eqb}
use Rattle.std.proofs.lemmas.List.{length-map, length-replicate, length-set, get_or-replicate, get_or-set_same, get_or-set_other}
use Rattle.std.proofs.lemmas.List.FromFn.{fill_by_all}
use Rattle.symbol_lookup.specs.elf_object.Sections.{first_of, number_or_0}
use Rattle.symbol_lookup.specs.hash_model.BuiltHashes.{in_bucket, is_in, first_in, next_in}
use Rattle.hash_build.specs.Hashed.{buckets_by, zeros_of, first_set, next_set}
use Rattle.hash_build.proofs.ListedLaws.{option_at}

-- ---- Ranges

-- one number on
first_cond : (b : Bool) (i : ℕ) (later : List ℕ)
    → slice_get (cond b (i ∷ later) later) 0 ≡ cond b (Some i) (slice_get later 0)
first_cond true i later = refl
first_cond false i later = refl

pub first_more : (test : ℕ → Bool) (i n : ℕ) → i < n
    → first_of test (range_with_len i (n - i))
    ≡ cond (test i) (Some i) (first_of test (range_with_len (i + 1) (n - (i + 1))))
first_more test i n below =
    ap (λ (m : ℕ). first_of test (range_with_len i m))
    (let one : n - i ≡ suc (n - (i + 1)) = omega arith in one)
    ∙ first_cond (test i) i (filter test (range_with_len (i + 1) (n - (i + 1))))

pub first_end : (test : ℕ → Bool) (i n : ℕ) → n ≤ i
    → first_of test (range_with_len i (n - i)) ≡ None
first_end test i n past =
    ap (λ (m : ℕ). first_of test (range_with_len i m))
    (let none : n - i ≡ 0 = omega arith in none)

-- from a number on all pass
all_above : (p : ℕ → Bool) (low a n : ℕ) → low ≤ a
    → filter (nat_le low) (filter p (range_with_len a n)) ≡ filter p (range_with_len a n)
all_above p low a zero above = refl
all_above p low a (suc n) above = by (p a) (all_above p low (a + 1) n (omega arith))
  where
    by : (b : Bool)
        → filter (nat_le low) (filter p (range_with_len (a + 1) n))
        ≡ filter p (range_with_len (a + 1) n)
        → filter (nat_le low) (cond b (a ∷ filter p (range_with_len (a + 1) n))
        (filter p (range_with_len (a + 1) n)))
        ≡ cond b (a ∷ filter p (range_with_len (a + 1) n)) (filter p (range_with_len (a + 1) n))
    by true rest =
        ap (λ (t : Bool). cond t (a ∷ filter (nat_le low) (filter p (range_with_len (a + 1) n)))
        (filter (nat_le low) (filter p (range_with_len (a + 1) n)))) (le-leb low a above)
        ∙ ap (λ (l : List ℕ). a ∷ l) rest
    by false rest = rest

-- the numbers from one on
pub range_above : (p : ℕ → Bool) (low a n m : ℕ) → a ≤ low → low + m ≡ a + n
    → filter (nat_le low) (filter p (range_with_len a n)) ≡ filter p (range_with_len low m)
range_above p low a zero m under whole =
    ap (λ (k : ℕ). filter p (range_with_len low k))
    (let none : 0 ≡ m = omega (arith, under, whole) in none)
range_above p low a (suc n) m under whole =
    by_side (λ lt. range_above p low (a + 1) n m (omega arith) (omega (arith, whole)))
    (cases_lt a low)
  where
    below : (b : Bool) → a < low
        → filter (nat_le low) (filter p (range_with_len (a + 1) n))
        ≡ filter p (range_with_len low m)
        → filter (nat_le low) (cond b (a ∷ filter p (range_with_len (a + 1) n))
        (filter p (range_with_len (a + 1) n))) ≡ filter p (range_with_len low m)
    below true lt rest =
        ap (λ (t : Bool). cond t (a ∷ filter (nat_le low) (filter p (range_with_len (a + 1) n)))
        (filter (nat_le low) (filter p (range_with_len (a + 1) n)))) (lt-leb low a lt)
        ∙ rest
    below false lt rest = rest

    by_side : (a < low → filter (nat_le low) (filter p (range_with_len (a + 1) n))
        ≡ filter p (range_with_len low m)) → (a < low) ⊎ (low ≤ a)
        → filter (nat_le low) (filter p (range_with_len a (suc n)))
        ≡ filter p (range_with_len low m)
    by_side rest (inl lt) = below (p a) lt (rest lt)
    by_side rest (inr le) =
        let here : a ≡ low = omega (arith, le, under) in
        let long : suc n ≡ m = omega (arith, here, whole) in
        all_above p low a (suc n) le
        ∙ ap (λ (k : ℕ). filter p (range_with_len k (suc n))) here
        ∙ ap (λ (k : ℕ). filter p (range_with_len low k)) long

-- ---- Buckets

pub bucket_at : (count : ℕ) (hashes : List (Option ℕ)) (i : ℕ)
    → get_or (buckets_by count hashes) i None
    ≡ option_map (λ hash. hash % count) (get_or hashes i None)
unfolding buckets_by
bucket_at count hashes i = option_at (λ (hash : ℕ). hash % count) hashes i

pub buckets_long : (count : ℕ) (hashes : List (Option ℕ))
    → length (buckets_by count hashes) ≡ length hashes
unfolding buckets_by
buckets_long count hashes = length-map hashes (option_map (λ hash. hash % count))

module _ (buckets : List (Option ℕ)) where
  abbrev pub is_here : ℕ → ℕ → Bool
  is_here bucket i = is_in bucket (get_or buckets i None)

  -- the first symbol of a bucket among so many from one on, or 0
  unfoldable pub first_at : ℕ → ℕ → ℕ → ℕ
  first_at bucket low m = get_or (filter (is_here bucket) (range_with_len low m)) 0 0

  pub first_none : (bucket low : ℕ) → first_at bucket low 0 ≡ 0
  unfolding first_at
  first_none bucket low = refl

  pub first_step : (bucket low m : ℕ)
      → first_at bucket low (suc m) ≡ cond (is_here bucket low) low (first_at bucket (low + 1) m)
  unfolding first_at
  first_step bucket low m = by (is_here bucket low)
    where
      by : (b : Bool)
          → get_or (cond b (low ∷ filter (is_here bucket) (range_with_len (low + 1) m))
          (filter (is_here bucket) (range_with_len (low + 1) m))) 0 0
          ≡ cond b low (get_or (filter (is_here bucket) (range_with_len (low + 1) m)) 0 0)
      by true = refl
      by false = refl

  pub first_all : (bucket : ℕ) → first_at bucket 0 (length buckets) ≡ first_in buckets bucket
  unfolding first_at in_bucket
  first_all bucket = refl

  first_number : (l : List ℕ) → number_or_0 (slice_get l 0) ≡ get_or l 0 0
  first_number [] = refl
  first_number (x ∷ l) = refl

  -- what comes next on a chain
  abbrev next_by : ℕ → Option ℕ → ℕ
  next_by i None = 0
  next_by i (Some bucket) =
      number_or_0 (first_of (λ later. nat_lt i later) (in_bucket buckets bucket))

  next_none : (i : ℕ) → get_or buckets i None ≡ None → next_in buckets i ≡ 0
  unfolding next_in
  next_none i is = ap (next_by i) is

  pub next_some : (i bucket m : ℕ) → get_or buckets i None ≡ Some bucket
      → suc i + m ≡ length buckets → next_in buckets i ≡ first_at bucket (suc i) m
  unfolding next_in in_bucket first_at
  next_some i bucket m is whole =
      ap (next_by i) is
      ∙ ap (λ (l : List ℕ). number_or_0 (slice_get l 0))
      (range_above (is_here bucket) (suc i) 0 (length buckets) m (omega arith)
      (omega (arith, whole)))
      ∙ first_number (filter (is_here bucket) (range_with_len (suc i) m))

  -- ---- Symbols from the last one on

  -- of the m symbols from low on, the first of each bucket
  pub record AreFirsts (nbucket low m : ℕ) (firsts : List ℕ) : Type 0 where
    pub long : length firsts ≡ nbucket
    pub whole : low + m ≡ length buckets
    pub at : (b : ℕ) → b < nbucket → get_or firsts b 0 ≡ first_at b low m

  -- and what comes after each of them
  pub record AreNexts (low : ℕ) (nexts : List ℕ) : Type 0 where
    pub long : length nexts ≡ length buckets
    pub at : (i : ℕ) → low ≤ i → i < length buckets → get_or nexts i 0 ≡ next_in buckets i
    pub others : (i : ℕ) → i < low → get_or nexts i 0 ≡ 0

  module _ (nbucket : ℕ) where
    pub firsts_none : (low : ℕ) (firsts : List ℕ) → low ≡ length buckets
        → firsts ≡ zeros_of nbucket → AreFirsts nbucket low 0 firsts
    firsts_none low firsts end is = record {
      long = ap (λ (l : List ℕ). length l) is ∙ length-replicate nbucket 0;
      whole = omega (arith, end);
      at = λ b below. ap (λ (l : List ℕ). get_or l b 0) is
          ∙ get_or-replicate nbucket b 0 0 below ∙ sym (first_none b low);
    }

    same_bucket : (low m b : ℕ) (bucket : Option ℕ) → bucket ≡ get_or buckets low None
        → (t : Bool) → is_in b bucket ≡ t
        → first_at b low (suc m) ≡ cond t low (first_at b (low + 1) m)
    same_bucket low m b bucket is t known =
        first_step b low m
        ∙ ap (λ (s : Bool). cond s low (first_at b (low + 1) m))
        (ap (is_in b) (sym is) ∙ known)

    pub firsts_more : (low m low' : ℕ) (firsts firsts' : List ℕ) (bucket : Option ℕ)
        → suc low' ≡ low → bucket ≡ get_or buckets low' None
        → IfSome bucket (λ b. b < nbucket) → firsts' ≡ first_set firsts bucket low'
        → AreFirsts nbucket low m firsts → AreFirsts nbucket low' (suc m) firsts'
    firsts_more low m low' firsts firsts' None step is inside set_is are = record {
      long = ap (λ (l : List ℕ). length l) set_is ∙ are.long;
      whole = omega (arith, step, are.whole);
      at = λ b below. ap (λ (l : List ℕ). get_or l b 0) set_is ∙ are.at b below
          ∙ ap (λ (k : ℕ). first_at b k m)
          (let next : low ≡ low' + 1 = omega (arith, step) in next)
          ∙ sym (same_bucket low' m b None is false refl);
    }
    firsts_more low m low' firsts firsts' (Some c) step is inside set_is are = record {
      long = ap (λ (l : List ℕ). length l) set_is ∙ length-set firsts c low' ∙ are.long;
      whole = omega (arith, step, are.whole);
      at = λ b below. ap (λ (l : List ℕ). get_or l b 0) set_is ∙ here b below (cases_eq b c);
    }
      where
        here : (b : ℕ) → b < nbucket → (b ≡ c) ⊎ (b ≡ c → ⊥)
            → get_or (set firsts c low') b 0 ≡ first_at b low' (suc m)
        here b below (inl same) =
            ap (λ (k : ℕ). get_or (set firsts c low') k 0) same
            ∙ get_or-set_same firsts c low' 0 (omega (arith, inside, are.long))
            ∙ sym (same_bucket low' m b (Some c) is true (eq-eqb c b (sym same)))
        here b below (inr other) =
            get_or-set_other firsts c b low' 0 other ∙ are.at b below
            ∙ ap (λ (k : ℕ). first_at b k m)
            (let next : low ≡ low' + 1 = omega (arith, step) in next)
            ∙ sym (same_bucket low' m b (Some c) is false (ne_eqb c b (λ e. other (sym e))))

    pub firsts_all : (low m : ℕ) (firsts : List ℕ) → low ≡ 0 → AreFirsts nbucket low m firsts
        → firsts ≡ map (first_in buckets) (range_with_len 0 nbucket)
    firsts_all low m firsts none are =
        fill_by_all (first_in buckets) firsts nbucket 0 are.long
        (λ b below. are.at b below ∙ ap (λ (k : ℕ). first_at b k m) none
        ∙ ap (λ (k : ℕ). first_at b 0 k)
        (let whole : m ≡ length buckets = omega (arith, none, are.whole) in whole)
        ∙ first_all b)

    pub nexts_none : (low : ℕ) (nexts : List ℕ) → low ≡ length buckets
        → nexts ≡ zeros_of (length buckets) → AreNexts low nexts
    nexts_none low nexts end is = record {
      long = ap (λ (l : List ℕ). length l) is ∙ length-replicate (length buckets) 0;
      at = λ i from below. absurd (omega (arith, end, from, below));
      others = λ i below. ap (λ (l : List ℕ). get_or l i 0) is
          ∙ get_or-replicate (length buckets) i 0 0 (omega (arith, end, below));
    }

    pub nexts_more : (low m low' : ℕ) (firsts nexts nexts' : List ℕ) (bucket : Option ℕ)
        → suc low' ≡ low → bucket ≡ get_or buckets low' None
        → IfSome bucket (λ b. b < nbucket) → nexts' ≡ next_set nexts firsts bucket low'
        → AreFirsts nbucket low m firsts → AreNexts low nexts → AreNexts low' nexts'
    nexts_more low m low' firsts nexts nexts' None step is inside set_is are next = record {
      long = ap (λ (l : List ℕ). length l) set_is ∙ next.long;
      at = λ i from below. ap (λ (l : List ℕ). get_or l i 0) set_is
          ∙ here i from below (cases_lt low' i);
      others = λ i below. ap (λ (l : List ℕ). get_or l i 0) set_is
          ∙ next.others i (omega (arith, step, below));
    }
      where
        here : (i : ℕ) → low' ≤ i → i < length buckets → (low' < i) ⊎ (i ≤ low')
            → get_or nexts i 0 ≡ next_in buckets i
        here i from below (inl far) = next.at i (omega (arith, step, far)) below
        here i from below (inr near) =
            let at : i ≡ low' = omega (arith, from, near) in
            next.others i (omega (arith, at, step))
            ∙ sym (next_none i (ap (λ (k : ℕ). get_or buckets k None) at ∙ sym is))
    nexts_more low m low' firsts nexts nexts' (Some c) step is inside set_is are next = record {
      long = ap (λ (l : List ℕ). length l) set_is
          ∙ length-set nexts low' (get_or firsts c 0) ∙ next.long;
      at = λ i from below. ap (λ (l : List ℕ). get_or l i 0) set_is
          ∙ here i from below (cases_eq i low');
      others = λ i below. ap (λ (l : List ℕ). get_or l i 0) set_is
          ∙ get_or-set_other nexts low' i (get_or firsts c 0) 0
          (λ same. absurd (omega (arith, same, below)))
          ∙ next.others i (omega (arith, step, below));
    }
      where
        here : (i : ℕ) → low' ≤ i → i < length buckets → (i ≡ low') ⊎ (i ≡ low' → ⊥)
            → get_or (set nexts low' (get_or firsts c 0)) i 0 ≡ next_in buckets i
        here i from below (inl at) =
            ap (λ (k : ℕ). get_or (set nexts low' (get_or firsts c 0)) k 0) at
            ∙ get_or-set_same nexts low' (get_or firsts c 0) 0
            (omega (arith, at, below, next.long))
            ∙ are.at c inside
            ∙ ap (λ (k : ℕ). first_at c k m) (sym step)
            ∙ sym (next_some low' c m (sym is) (omega (arith, step, are.whole)))
            ∙ ap (next_in buckets) (sym at)
        here i from below (inr other) =
            get_or-set_other nexts low' i (get_or firsts c 0) 0 other
            ∙ next.at i (omega (arith, step, from, other)) below

    pub nexts_all : (low : ℕ) (nexts : List ℕ) → low ≡ 0 → AreNexts low nexts
        → nexts ≡ map (next_in buckets) (range_with_len 0 (length buckets))
    nexts_all low nexts none are =
        fill_by_all (next_in buckets) nexts (length buckets) 0 are.long
        (λ i below. are.at i (omega (arith, none)) below)

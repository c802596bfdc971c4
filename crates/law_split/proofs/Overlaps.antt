-- Parts of which no two share a byte are not refused for an overlap.
use Rattle.std.proofs.Common.{◌≡◌, ℕ, zero, suc, ◌+◌, ◌<◌, ◌≤◌, Bool, true, false, cond, ◌&&◌, ◌||◌, List, [], ◌∷◌, ◌++◌, length, get_or, Option, Some, None, refl, sym, ap, ◌∙◌, arith}
use Rattle.std.specs.Prelude.{filter, nat_lt, nat_le, slice_get, if◌then◌else◌, map}
use Rattle.std.specs.List.{range_with_len, list_any, AllByRecursion}
use Rattle.std.specs.Option.{option_map, option_or}
use Rattle.std.proofs.lemmas.Bool.{and_right, le-ltb}
use Rattle.elf_types.specs.declared.records.Class.{Class}
use Rattle.elf_types.specs.declared.records.Part.{Part}
use Rattle.elf_types.specs.declared.errors.ElfError.{ElfError}
use Rattle.elf_types.specs.declared.errors.ElfError.TheVariants.{Overlap, TooLarge}
use Rattle.elf_layout.specs.declared.parts.PartAt.{PartAt}
use Rattle.elf_layout.specs.Layout.{in_order_from, end_after, is_too_large, limit_of, overlap_refusal, refusal_within, refusal_of}
use Rattle.elf_layout.specs.Meeting.{has_bytes, end_of, meets, inserted_by, sorted_by, parts_by_position, first_met, overlap_of}
use Rattle.law_rebuild.proofs.law_object.PlaceLaws.{Pairs, IsBehind, AreInOrder, behind_apart}

-- no byte in common
abbrev pub NoneShared : PartAt → PartAt → Type 0
NoneShared a b = meets a b ≡ false

pub none_shared_back : (a b : PartAt) → NoneShared a b → NoneShared b a
unfolding meets
none_shared_back a b h =
    back (has_bytes a) (has_bytes b) (nat_lt a.at (end_of b)) (nat_lt b.at (end_of a)) h
  where
    back : (p q r s : Bool) → (p && q && r && s) ≡ false → (q && p && s && r) ≡ false
    back true true true true h = h
    back true true true false h = refl
    back true true false true h = refl
    back true true false false h = refl
    back true false r s h = refl
    back false true r s h = refl
    back false false r s h = refl

-- ---- In their order by place

module _ {X : Type 0} (R : X → X → Type 0) (test : X → Bool) where
  filtered_each : (P : X → Type 0) (l : List X) → AllByRecursion P l
      → AllByRecursion P (filter test l)
  filtered_each P [] each = tt
  filtered_each P (x ∷ l) each = by_test (test x) (filtered_each P l each.1)
    where
      by_test : (b : Bool) → AllByRecursion P (filter test l)
          → AllByRecursion P (cond b (x ∷ filter test l) (filter test l))
      by_test true rest = (each.0, rest)
      by_test false rest = rest

  pub filtered_pairs : (l : List X) → Pairs R l → Pairs R (filter test l)
  filtered_pairs [] pairs = tt
  filtered_pairs (x ∷ l) pairs = by_test (test x) (filtered_pairs l pairs.1)
    where
      by_test : (b : Bool) → Pairs R (filter test l)
          → Pairs R (cond b (x ∷ filter test l) (filter test l))
      by_test true rest = (filtered_each (R x) l pairs.0, rest)
      by_test false rest = rest

module _ {X : Type 0} (key : X → ℕ) (R : X → X → Type 0) (back : (a b : X) → R a b → R b a) where
  each_inserted : (P : X → Type 0) (x : X) (l : List X) → P x → AllByRecursion P l
      → AllByRecursion P (inserted_by key x l)
  each_inserted P x [] here each = (here, tt)
  each_inserted P x (y ∷ l) here each =
      by_test (nat_le (key x) (key y)) (each_inserted P x l here each.1)
    where
      by_test : (b : Bool) → AllByRecursion P (inserted_by key x l)
          → AllByRecursion P (if b then x ∷ y ∷ l else y ∷ inserted_by key x l)
      by_test true rest = (here, (each.0, each.1))
      by_test false rest = (each.0, rest)

  pairs_inserted : (x : X) (l : List X) → AllByRecursion (R x) l → Pairs R l
      → Pairs R (inserted_by key x l)
  pairs_inserted x [] each pairs = (tt, tt)
  pairs_inserted x (y ∷ l) each pairs =
      by_test (nat_le (key x) (key y)) (pairs_inserted x l each.1 pairs.1)
    where
      by_test : (b : Bool) → Pairs R (inserted_by key x l)
          → Pairs R (if b then x ∷ y ∷ l else y ∷ inserted_by key x l)
      by_test true rest = ((each.0, each.1), (pairs.0, pairs.1))
      by_test false rest = (each_inserted (R y) x l (back x y each.0) pairs.0, rest)

  each_sorted : (P : X → Type 0) (l : List X) → AllByRecursion P l
      → AllByRecursion P (sorted_by key l)
  each_sorted P [] each = tt
  each_sorted P (x ∷ l) each =
      each_inserted P x (sorted_by key l) each.0 (each_sorted P l each.1)

  pub pairs_sorted : (l : List X) → Pairs R l → Pairs R (sorted_by key l)
  pairs_sorted [] pairs = tt
  pairs_sorted (x ∷ l) pairs =
      pairs_inserted x (sorted_by key l) (each_sorted (R x) l pairs.0) (pairs_sorted l pairs.1)

none_any : (a : PartAt) (l : List PartAt) → AllByRecursion (NoneShared a) l
    → list_any (meets a) l ≡ false
none_any a [] each = refl
none_any a (b ∷ l) each =
    ap (λ (t : Bool). t || list_any (meets a) l) each.0 ∙ none_any a l each.1

none_first : (l : List PartAt) → Pairs NoneShared l → first_met l ≡ None
unfolding first_met
none_first [] pairs = refl
none_first (a ∷ l) pairs =
    by_test (list_any (meets a) l) (none_any a l pairs.0) (none_first l pairs.1)
  where
    by_test : (t : Bool) → t ≡ false → first_met l ≡ None
        → ◌≡◌ {A = Option (Part × Part)}
        (if t then option_map (λ (b : PartAt). (a.part, b.part)) (slice_get l 0)
        else first_met l) None
    by_test true e rest = cc
    by_test false e rest = rest

pub none_overlap : (parts : List PartAt) → Pairs NoneShared parts → overlap_of parts ≡ None
unfolding overlap_of parts_by_position
none_overlap parts pairs =
    none_first (sorted_by (λ (p : PartAt). p.at) (filter has_bytes parts))
    (pairs_sorted (λ (p : PartAt). p.at) NoneShared none_shared_back (filter has_bytes parts)
    (filtered_pairs NoneShared has_bytes parts pairs))

-- ---- The refusal

abbrev overlap : Part × Part → ElfError
overlap pair = Overlap pair.0 pair.1

-- what is not refused for an overlap is refused as too large alone
pub large_alone : (parts : List PartAt) (layout : Bool) (base : ℕ) (class : Class) (e : ElfError)
    → (layout ≡ true → Pairs NoneShared parts) → refusal_of parts layout base class ≡ Some e
    → e ≡ TooLarge
unfolding refusal_of refusal_within overlap_refusal
large_alone parts layout base class e apart h = by_layout layout refl h
  where
    by_large : (b : Bool) → (if b then Some TooLarge else None) ≡ Some e → e ≡ TooLarge
    by_large true g = cc
    by_large false g = cc

    by_layout : (b : Bool) → layout ≡ b
        → option_or
        (if b then option_map overlap (overlap_of parts) else None)
        (if is_too_large parts layout base (limit_of class) then Some TooLarge else None) ≡ Some e
        → e ≡ TooLarge
    by_layout false is g = by_large (is_too_large parts layout base (limit_of class)) g
    by_layout true is g =
        by_large (is_too_large parts layout base (limit_of class))
        (sym (ap (λ (x : Option ElfError). option_or x
        (if is_too_large parts layout base (limit_of class) then Some TooLarge else None))
        (ap (option_map overlap) (none_overlap parts (apart is))))
        ∙ g)

-- ---- Extents

-- two parts in one extent
pub record SameExtent (a b : PartAt) : Type 0 where
  pub at : a.at ≡ b.at
  pub len : a.len ≡ b.len
  pub filled : a.filled ≡ b.filled

-- two in the extent of a third
pub same_extents : (a b p : PartAt) → SameExtent a p → SameExtent b p → SameExtent a b
same_extents a b p x y =
    record { at = x.at ∙ sym y.at; len = x.len ∙ sym y.len; filled = x.filled ∙ sym y.filled }

pub none_shared_as : (a b p q : PartAt) → SameExtent a p → SameExtent b q → NoneShared p q
    → NoneShared a b
unfolding meets has_bytes end_of
none_shared_as a b p q x y h =
    ap (λ (f : Bool). (f && nat_lt 0 a.len) && (b.filled && nat_lt 0 b.len)
    && nat_lt a.at (b.at + b.len) && nat_lt b.at (a.at + a.len)) x.filled
    ∙ ap (λ (n : ℕ). (p.filled && nat_lt 0 n) && (b.filled && nat_lt 0 b.len)
    && nat_lt a.at (b.at + b.len) && nat_lt b.at (a.at + n)) x.len
    ∙ ap (λ (n : ℕ). (p.filled && nat_lt 0 p.len) && (b.filled && nat_lt 0 b.len)
    && nat_lt n (b.at + b.len) && nat_lt b.at (n + p.len)) x.at
    ∙ ap (λ (f : Bool). (p.filled && nat_lt 0 p.len) && (f && nat_lt 0 b.len)
    && nat_lt p.at (b.at + b.len) && nat_lt b.at (p.at + p.len)) y.filled
    ∙ ap (λ (n : ℕ). (p.filled && nat_lt 0 p.len) && (q.filled && nat_lt 0 n)
    && nat_lt p.at (b.at + n) && nat_lt b.at (p.at + p.len)) y.len
    ∙ ap (λ (n : ℕ). (p.filled && nat_lt 0 p.len) && (q.filled && nat_lt 0 q.len)
    && nat_lt p.at (n + q.len) && nat_lt n (p.at + p.len)) y.at
    ∙ h

-- a part that ends at a place where it is not empty, and one that begins there
abbrev pub EndsBy : ℕ → PartAt → Type 0
EndsBy tail p = has_bytes p ≡ true → p.at + p.len ≤ tail

abbrev pub BeginsFrom : ℕ → PartAt → Type 0
BeginsFrom tail p = has_bytes p ≡ true → tail ≤ p.at

pub ends_as : (n : ℕ) (a p : PartAt) → SameExtent a p → EndsBy n p → EndsBy n a
unfolding has_bytes
ends_as n a p same ends full =
    let end = ends (ap (λ (k : ℕ). p.filled && nat_lt 0 k) (sym same.len)
    ∙ ap (λ (f : Bool). f && nat_lt 0 a.len) (sym same.filled) ∙ full) in
    omega (arith, end, same.at, same.len)

pub before_behind : (tail : ℕ) (a b : PartAt) → EndsBy tail a → BeginsFrom tail b
    → NoneShared a b
unfolding meets end_of
before_behind tail a b ends begins = by_bytes (has_bytes a) (has_bytes b) refl refl
  where
    by_bytes : (p q : Bool) → has_bytes a ≡ p → has_bytes b ≡ q
        → (p && q && nat_lt a.at (b.at + b.len) && nat_lt b.at (a.at + a.len)) ≡ false
    by_bytes false q e f = refl
    by_bytes true false e f = refl
    by_bytes true true e f =
        and_right (nat_lt a.at (b.at + b.len)) (nat_lt b.at (a.at + a.len))
        (le-ltb b.at (a.at + a.len) (omega (arith, ends e, begins f)))

pub empty_shares_none : (a b : PartAt) → a.filled ≡ false → NoneShared a b
unfolding meets has_bytes
empty_shares_none a b e =
    ap (λ (f : Bool). (f && nat_lt 0 a.len) && (b.filled && nat_lt 0 b.len)
    && nat_lt a.at (end_of b) && nat_lt b.at (end_of a)) e

-- ---- Parts one after the other

pub ordered_at : (l : List PartAt) (i j : ℕ) (d : PartAt) → AreInOrder l → i < j → j < length l
    → NoneShared (get_or l i d) (get_or l j d)
ordered_at [] i j d order below inside = absurd (omega (arith, inside))
ordered_at (p ∷ l) i zero d order below inside = absurd (omega (arith, below))
ordered_at (p ∷ l) zero (suc j) d order below inside =
    behind_apart p (get_or l j d) (each l j order.0 (omega (arith, inside)))
  where
    each : (l : List PartAt) (j : ℕ) → AllByRecursion (IsBehind p) l → j < length l
        → IsBehind p (get_or l j d)
    each [] j all h = absurd (omega (arith, h))
    each (q ∷ l) zero all h = all.0
    each (q ∷ l) (suc j) all h = each l j all.1 (omega (arith, h))
ordered_at (p ∷ l) (suc i) (suc j) d order below inside =
    ordered_at l i j d order.1 (omega (arith, below)) (omega (arith, inside))

-- of each its length and whether it is filled
pub ordered_as : (end : ℕ) (l : List PartAt) (i : ℕ) (d : PartAt) → i < length l
    → ((get_or (in_order_from end l) i d).len ≡ (get_or l i d).len)
    × ((get_or (in_order_from end l) i d).filled ≡ (get_or l i d).filled)
unfolding in_order_from
ordered_as end [] i d inside = absurd (omega (arith, inside))
ordered_as end (p ∷ l) zero d inside = (refl, refl)
ordered_as end (p ∷ l) (suc i) d inside =
    ordered_as (end_after end p) l i d (omega (arith, inside))

-- ---- Rows of parts

pub each_at : (P : PartAt → Type 0) (l : List PartAt) (i : ℕ) (d : PartAt) → AllByRecursion P l
    → i < length l → P (get_or l i d)
each_at P [] i d each inside = absurd (omega (arith, inside))
each_at P (p ∷ l) zero d each inside = each.0
each_at P (p ∷ l) (suc i) d each inside = each_at P l i d each.1 (omega (arith, inside))

-- any two of a list
pub pair_at : (l : List PartAt) (i j : ℕ) (d : PartAt) → Pairs NoneShared l → i < j
    → j < length l → NoneShared (get_or l i d) (get_or l j d)
pair_at [] i j d pairs below inside = absurd (omega (arith, inside))
pair_at (p ∷ l) i zero d pairs below inside = absurd (omega (arith, below))
pair_at (p ∷ l) zero (suc j) d pairs below inside =
    each_at (NoneShared p) l j d pairs.0 (omega (arith, inside))
pair_at (p ∷ l) (suc i) (suc j) d pairs below inside =
    pair_at l i j d pairs.1 (omega (arith, below)) (omega (arith, inside))

module _ (f : ℕ → PartAt) (last : PartAt) where
  row_each : (P : PartAt → Type 0) (a n : ℕ) → ((s : ℕ) → a ≤ s → s < a + n → P (f s)) → P last
      → AllByRecursion P (map f (range_with_len a n) ++ last ∷ [])
  row_each P a zero each end = (end, tt)
  row_each P a (suc n) each end = (
    each a (omega arith) (omega arith),
    row_each P (a + 1) n (λ s from below. each s (omega (arith, from)) (omega (arith, below))) end,
  )

  row_pairs : (a n : ℕ)
      → ((s t : ℕ) → a ≤ s → s < t → t < a + n → NoneShared (f s) (f t))
      → ((s : ℕ) → a ≤ s → s < a + n → NoneShared (f s) last)
      → Pairs NoneShared (map f (range_with_len a n) ++ last ∷ [])
  row_pairs a zero each ends = (tt, tt)
  row_pairs a (suc n) each ends = (
    row_each (NoneShared (f a)) (a + 1) n
        (λ t from below. each a t (omega arith) (omega (arith, from)) (omega (arith, below)))
        (ends a (omega arith) (omega arith)),
    row_pairs (a + 1) n
        (λ s t from less below.
        each s t (omega (arith, from)) less (omega (arith, below)))
        (λ s from below. ends s (omega (arith, from)) (omega (arith, below))),
  )

  -- two parts, and a row of others
  pub parts_pairs : (first second : PartAt) (n : ℕ) → NoneShared first second
      → ((s : ℕ) → 1 ≤ s → s < 1 + n → NoneShared first (f s)) → NoneShared first last
      → ((s : ℕ) → 1 ≤ s → s < 1 + n → NoneShared second (f s)) → NoneShared second last
      → ((s t : ℕ) → 1 ≤ s → s < t → t < 1 + n → NoneShared (f s) (f t))
      → ((s : ℕ) → 1 ≤ s → s < 1 + n → NoneShared (f s) last)
      → Pairs NoneShared (first ∷ second ∷ map f (range_with_len 1 n) ++ last ∷ [])
  parts_pairs first second n both front front_last next next_last each ends = (
    (both, row_each (NoneShared first) 1 n front front_last),
    (row_each (NoneShared second) 1 n next next_last, row_pairs 1 n each ends),
  )

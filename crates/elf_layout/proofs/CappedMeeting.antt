-- Parts with capped lengths share a byte where they do (`Capping.CappingLaw`): one that stands at 0
-- meets the first part, and behind that no place that is told lies past a capped length.
use Rattle.std.proofs.Common.{◌≡◌, ℕ, ◌+◌, ◌-◌, ◌^◌, ◌<◌, min, Bool, true, false, cond, not, ◌&&◌, ◌||◌, nat_lt, nat_le, List, [], ◌∷◌, map, Option, refl, sym, ap, ◌∙◌, inl, inr, arith}
use Rattle.std.specs.Prelude.{slice_get}
use Rattle.std.specs.List.{AllByRecursion, filter, list_any}
use Rattle.std.specs.Option.{option_map}
use Rattle.std.proofs.lemmas.Bool.{cases_lt, cond-true, le-leb, le-ltb, lt-ltb, or_parts}
use Rattle.elf_types.specs.declared.records.Part.{Part}
use Rattle.elf_layout.specs.declared.parts.PartAt.{PartAt}
use Rattle.elf_layout.specs.Capping.{capped, IsFirst}
use Rattle.elf_layout.specs.Meeting.{has_bytes, end_of, meets, inserted_by, sorted_by, parts_by_position, first_met, overlap_of}
use Rattle.elf_layout.proofs.FirstMet.{has_bytes-len, meets-in_order}
use Rattle.elf_layout.proofs.Sorting.{all-sorted_by, map-sorted_by}

-- ---- One part

pub capped_same : (p : PartAt) → p.len < 2 ^ 64 → capped p ≡ p
unfolding capped
capped_same p h =
    let same : min p.len (2 ^ 64 - 1) ≡ p.len = omega (arith, h) in
    ap (λ (n : ℕ). record p { len = n }) same

some_capped : (n : ℕ) → nat_lt 0 (min n (2 ^ 64 - 1)) ≡ nat_lt 0 n
some_capped n =
    elim (cases_lt 0 n) [
      | inl some ↦ lt-ltb 0 (min n (2 ^ 64 - 1)) (omega (arith, some)) ∙ sym (lt-ltb 0 n some)
      | inr none ↦ le-ltb 0 (min n (2 ^ 64 - 1)) (omega (arith, none)) ∙ sym (le-ltb 0 n none)
    ]

pub capped_has_bytes : (p : PartAt) → has_bytes (capped p) ≡ has_bytes p
unfolding has_bytes capped
capped_has_bytes p = ap (λ (b : Bool). p.filled && b) (some_capped p.len)

-- ---- Parts that share a byte

-- a part behind the first byte of an image, at a place that is told
record IsInner (p : PartAt) : Type 0 where
  from : 0 < p.at
  below : p.at < 2 ^ 64

beside : (at place len : ℕ) → at < 2 ^ 64 → 0 < place
    → nat_lt at (place + min len (2 ^ 64 - 1)) ≡ nat_lt at (place + len)
beside at place len low from =
    elim (cases_lt at (place + len)) [
      | inl before ↦
          lt-ltb at (place + min len (2 ^ 64 - 1)) (omega (arith, before, low, from))
          ∙ sym (lt-ltb at (place + len) before)
      | inr past ↦
          le-ltb at (place + min len (2 ^ 64 - 1)) (omega (arith, past))
          ∙ sym (le-ltb at (place + len) past)
    ]

same_four : (a b c d a' b' c' d' : Bool) → a' ≡ a → b' ≡ b → c' ≡ c → d' ≡ d
    → (a' && b' && c' && d') ≡ (a && b && c && d)
same_four a b c d a' b' c' d' ea eb ec ed = rw (ea, eb, ec, ed) refl

pub same_or : (a b a' b' : Bool) → a' ≡ a → b' ≡ b → (a' || b') ≡ (a || b)
same_or a b a' b' ea eb = rw (ea, eb) refl

begins_before : (a b : PartAt) → IsInner a → IsInner b
    → nat_lt (capped a).at (end_of (capped b)) ≡ nat_lt a.at (end_of b)
unfolding end_of capped
begins_before a b ia ib = beside a.at b.at b.len ia.below ib.from

meets_capped : (a b : PartAt) → IsInner a → IsInner b → meets (capped a) (capped b) ≡ meets a b
unfolding meets
meets_capped a b ia ib =
    same_four (has_bytes a) (has_bytes b) (nat_lt a.at (end_of b)) (nat_lt b.at (end_of a))
    (has_bytes (capped a)) (has_bytes (capped b)) (nat_lt (capped a).at (end_of (capped b)))
    (nat_lt (capped b).at (end_of (capped a))) (capped_has_bytes a) (capped_has_bytes b)
    (begins_before a b ia ib) (begins_before b a ib ia)

any_capped : (a : PartAt) → IsInner a → (ps : List PartAt) → AllByRecursion IsInner ps
    → list_any (meets (capped a)) (map capped ps) ≡ list_any (meets a) ps
any_capped a ia [] all = refl
any_capped a ia (p ∷ ps) all =
    same_or (meets a p) (list_any (meets a) ps) (meets (capped a) (capped p))
    (list_any (meets (capped a)) (map capped ps)) (meets_capped a p ia all.0)
    (any_capped a ia ps all.1)

-- a part and the first of others, as they are named
abbrev named : Part → List PartAt → Option (Part × Part)
named a ps = option_map (λ (b : PartAt). (a, b.part)) (slice_get ps 0)

named_capped : (a : Part) (ps : List PartAt) → named a (map capped ps) ≡ named a ps
unfolding capped
named_capped a [] = refl
named_capped a (p ∷ ps) = refl

met_capped : (ps : List PartAt) → AllByRecursion IsInner ps
    → first_met (map capped ps) ≡ first_met ps
unfolding first_met
met_capped [] all = refl
met_capped (a ∷ ps) all =
    let part : (capped a).part ≡ a.part = unfold capped in refl in
    let later : Option (Part × Part) = first_met (map capped ps) in
    ap (λ (b : Bool). cond b (named (capped a).part (map capped ps)) later)
    (any_capped a all.0 ps all.1)
    ∙ ap (λ (n : Part). cond (list_any (meets a) ps) (named n (map capped ps)) later) part
    ∙ ap (λ (o : Option (Part × Part)). cond (list_any (meets a) ps) o later)
    (named_capped a.part ps)
    ∙ ap (λ (o : Option (Part × Part)). cond (list_any (meets a) ps) (named a.part ps) o)
    (met_capped ps all.1)

-- one of the others, of which the image holds a byte
record IsOther (p : PartAt) : Type 0 where
  full : has_bytes p ≡ true
  below : p.at < 2 ^ 64

-- the first part begins before it ends, if it has a byte
first_before : (first p : PartAt) → IsFirst first
    → nat_lt first.at (end_of (capped p)) ≡ nat_lt first.at (end_of p)
unfolding end_of capped
first_before first p is =
    let at = is.at in
    elim (cases_lt first.at (p.at + p.len)) [
      | inl before ↦
          lt-ltb first.at (p.at + min p.len (2 ^ 64 - 1)) (omega (arith, before, at))
          ∙ sym (lt-ltb first.at (p.at + p.len) before)
      | inr past ↦
          le-ltb first.at (p.at + min p.len (2 ^ 64 - 1)) (omega (arith, past))
          ∙ sym (le-ltb first.at (p.at + p.len) past)
    ]

same_place : (first p : PartAt)
    → nat_lt (capped p).at (end_of first) ≡ nat_lt p.at (end_of first)
unfolding capped
same_place first p = refl

-- so it meets it alike
meets_first : (first p : PartAt) → IsFirst first → meets first (capped p) ≡ meets first p
unfolding meets
meets_first first p is =
    same_four (has_bytes first) (has_bytes p) (nat_lt first.at (end_of p))
    (nat_lt p.at (end_of first)) (has_bytes first) (has_bytes (capped p))
    (nat_lt first.at (end_of (capped p))) (nat_lt (capped p).at (end_of first)) refl
    (capped_has_bytes p) (first_before first p is) (same_place first p)

any_first : (first : PartAt) (ps : List PartAt) → IsFirst first
    → list_any (meets first) (map capped ps) ≡ list_any (meets first) ps
any_first first [] is = refl
any_first first (p ∷ ps) is =
    same_or (meets first p) (list_any (meets first) ps) (meets first (capped p))
    (list_any (meets first) (map capped ps)) (meets_first first p is) (any_first first ps is)

-- one that the first does not meet is an inner one
inner : (first p : PartAt) → IsFirst first → IsOther p → meets first p ≡ false → IsInner p
inner first p is other missed = record { from = from; below = other.below }
  where
    from : 0 < p.at
    from =
        elim (cases_lt 0 p.at) [
          | inl low ↦ low
          | inr none ↦
              let at = is.at in
              let len = has_bytes-len first is.some in
              let met : meets first p ≡ true =
              meets-in_order first p is.some other.full (omega (arith, none, at))
              (omega (arith, none, at, len)) in
              let clash : true ≡ false = sym met ∙ missed in cc
        ]

all_inner : (first : PartAt) (ps : List PartAt) → IsFirst first → AllByRecursion IsOther ps
    → list_any (meets first) ps ≡ false → AllByRecursion IsInner ps
all_inner first [] is others missed = tt
all_inner first (p ∷ ps) is others missed =
    let both = or_parts (meets first p) (list_any (meets first) ps) missed in
    (inner first p is others.0 both.0, all_inner first ps is others.1 both.1)

met_first : (first : PartAt) (ps : List PartAt) → IsFirst first → AllByRecursion IsOther ps
    → first_met (first ∷ map capped ps) ≡ first_met (first ∷ ps)
unfolding first_met
met_first first ps is others =
    ap (λ (b : Bool). cond b (named first.part (map capped ps)) (first_met (map capped ps)))
    (any_first first ps is)
    ∙ by_test (list_any (meets first) ps) refl
  where
    by_test : (b : Bool) → list_any (meets first) ps ≡ b
        → cond b (named first.part (map capped ps)) (first_met (map capped ps))
        ≡ cond b (named first.part ps) (first_met ps)
    by_test true met = named_capped first.part ps
    by_test false missed = met_capped ps (all_inner first ps is others missed)

filter_capped : (ps : List PartAt)
    → filter has_bytes (map capped ps) ≡ map capped (filter has_bytes ps)
filter_capped [] = refl
filter_capped (p ∷ ps) =
    ap (λ (b : Bool). cond b (capped p ∷ filter has_bytes (map capped ps))
    (filter has_bytes (map capped ps)))
    (capped_has_bytes p)
    ∙ by_test (has_bytes p) (filter_capped ps)
  where
    by_test : (b : Bool) → filter has_bytes (map capped ps) ≡ map capped (filter has_bytes ps)
        → cond b (capped p ∷ filter has_bytes (map capped ps)) (filter has_bytes (map capped ps))
        ≡ map capped (cond b (p ∷ filter has_bytes ps) (filter has_bytes ps))
    by_test true rest = ap (λ (qs : List PartAt). capped p ∷ qs) rest
    by_test false rest = rest

sorted_capped : (ps : List PartAt)
    → parts_by_position (map capped ps) ≡ map capped (parts_by_position ps)
unfolding parts_by_position capped
sorted_capped ps =
    ap (λ (qs : List PartAt). sorted_by (λ p. p.at) qs) (filter_capped ps)
    ∙ sym (map-sorted_by capped (λ (p : PartAt). p.at) (filter has_bytes ps))

-- the first part stands before the others
inserted_first : (x : PartAt) (ys : List PartAt) → x.at ≡ 0 → inserted_by (λ p. p.at) x ys ≡ x ∷ ys
inserted_first x [] at = refl
inserted_first x (y ∷ ys) at =
    cond-true (nat_le x.at y.at) (x ∷ y ∷ ys) (y ∷ inserted_by (λ p. p.at) x ys)
    (le-leb x.at y.at (omega (arith, at)))

sorted_others : List PartAt → List PartAt
sorted_others others = sorted_by (λ (p : PartAt). p.at) (filter has_bytes others)

sorted_first : (first : PartAt) (others : List PartAt) → IsFirst first
    → parts_by_position (first ∷ others) ≡ first ∷ sorted_others others
unfolding parts_by_position sorted_others
sorted_first first others is =
    ap (λ (qs : List PartAt). sorted_by (λ p. p.at) qs)
    (cond-true (has_bytes first) (first ∷ filter has_bytes others) (filter has_bytes others)
    is.some)
    ∙ inserted_first first (sorted_others others) is.at

full_others : (ps : List PartAt) → AllByRecursion (λ p. p.at < 2 ^ 64) ps
    → AllByRecursion IsOther (filter has_bytes ps)
full_others [] all = tt
full_others (p ∷ ps) all = by_test (has_bytes p) refl (full_others ps all.1)
  where
    by_test : (b : Bool) → has_bytes p ≡ b → AllByRecursion IsOther (filter has_bytes ps)
        → AllByRecursion IsOther (cond b (p ∷ filter has_bytes ps) (filter has_bytes ps))
    by_test true full rest = (record { full = full; below = all.0 }, rest)
    by_test false empty rest = rest

pub overlap_capped : (first : PartAt) (others : List PartAt) → IsFirst first
    → AllByRecursion (λ p. p.at < 2 ^ 64) others
    → overlap_of (map capped (first ∷ others)) ≡ overlap_of (first ∷ others)
unfolding overlap_of
overlap_capped first others is below =
    let rest : List PartAt = sorted_others others in
    let front = sorted_first first others is in
    let full : AllByRecursion IsOther (sorted_others others) =
    unfold sorted_others in
    all-sorted_by (λ (p : PartAt). p.at) IsOther (filter has_bytes others)
    (full_others others below) in
    ap first_met (sorted_capped (first ∷ others))
    ∙ ap (λ (qs : List PartAt). first_met (map capped qs)) front
    ∙ ap (λ (p : PartAt). first_met (p ∷ map capped (sorted_others others)))
    (capped_same first is.len)
    ∙ met_first first rest is full
    ∙ sym (ap first_met front)

-- Parts with capped lengths are refused and placed as they are (`Capping.CappingLaw`). A part that
-- is capped makes the image too large either way, and where there is none the lengths of which the
-- image holds bytes are the same.
use Rattle.std.proofs.Common.{◌≡◌, ℕ, ◌+◌, ◌-◌, ◌^◌, ◌<◌, ◌≤◌, max, min, Bool, true, false, cond, not, ◌&&◌, ◌||◌, nat_lt, nat_le, List, [], ◌∷◌, map, Option, Some, None, Result, refl, sym, ap, ◌∙◌, inl, inr, arith}
use Rattle.std.specs.List.{AllByRecursion, list_any}
use Rattle.std.specs.Option.{option_map, option_or}
use Rattle.std.proofs.lemmas.Bool.{and_from, and_parts, cases_lt, cond-false, cond-true, le-leb, leb-false, leb-true, lt-leb, lt-ltb, or_cases, or_left, or_parts}
use Rattle.std.proofs.lemmas.List.Elements.{recursion_from_All}
use Rattle.elf_types.specs.declared.records.Class.{Class}
use Rattle.elf_types.specs.declared.records.Class.TheVariants.{C32, C64}
use Rattle.elf_types.specs.declared.records.Part.{Part}
use Rattle.elf_types.specs.declared.errors.ElfError.{ElfError}
use Rattle.elf_types.specs.declared.errors.ElfError.TheVariants.{Overlap, TooLarge}
use Rattle.elf_types.specs.Answers.{answered}
use Rattle.elf_layout.specs.declared.parts.PartAt.{PartAt}
use Rattle.elf_layout.specs.declared.parts.Places.{Places}
use Rattle.elf_layout.specs.Capping.{capped, IsFirst, CappingLaw}
use Rattle.elf_layout.specs.Layout.{place_of, end_after, in_order_from, standing, length_with, length_from, length_of, places_of, positions, limit_of, some_above, is_too_large, overlap_refusal, refusal_within, refusal_of, placing_within, placing}
use Rattle.elf_layout.specs.Meeting.{has_bytes, end_of}
use Rattle.elf_layout.proofs.Lengths.{length_from_ge}
use Rattle.elf_layout.proofs.Placed.{neither_from}
use Rattle.elf_layout.proofs.CappedMeeting.{capped_same, same_or, overlap_capped}

-- ---- Parts that are as long as can be told, or longer

is_full : PartAt → Bool
is_full p = p.filled && nat_le (2 ^ 64 - 1) p.len

full_capped : (p : PartAt) → is_full (capped p) ≡ is_full p
unfolding is_full capped
full_capped p = ap (λ (b : Bool). p.filled && b) same
  where
    same : nat_le (2 ^ 64 - 1) (min p.len (2 ^ 64 - 1)) ≡ nat_le (2 ^ 64 - 1) p.len
    same =
        elim (cases_lt p.len (2 ^ 64 - 1)) [
          | inl low ↦
              lt-leb (2 ^ 64 - 1) (min p.len (2 ^ 64 - 1)) (omega (arith, low))
              ∙ sym (lt-leb (2 ^ 64 - 1) p.len low)
          | inr high ↦
              le-leb (2 ^ 64 - 1) (min p.len (2 ^ 64 - 1)) (omega (arith, high))
              ∙ sym (le-leb (2 ^ 64 - 1) p.len high)
        ]

some_full : List PartAt → Bool
some_full ps = list_any is_full ps

some_full_capped : (ps : List PartAt) → some_full (map capped ps) ≡ some_full ps
unfolding some_full
some_full_capped [] = refl
some_full_capped (p ∷ ps) =
    same_or (is_full p) (list_any is_full ps) (is_full (capped p))
    (list_any is_full (map capped ps))
    (full_capped p) (some_full_capped ps)

some_full_in_order : (end : ℕ) (ps : List PartAt) → some_full (in_order_from end ps) ≡ some_full ps
unfolding some_full is_full in_order_from
some_full_in_order end [] = refl
some_full_in_order end (p ∷ ps) =
    ap (λ (b : Bool). (p.filled && nat_le (2 ^ 64 - 1) p.len) || b)
    (some_full_in_order (end_after end p) ps)

some_full_standing : (ps : List PartAt) (layout : Bool)
    → some_full (standing ps layout) ≡ some_full ps
unfolding standing
some_full_standing ps true = refl
some_full_standing ps false = some_full_in_order 0 ps

-- such a part ends where no image does
full_with : (n : ℕ) (p : PartAt) → is_full p ≡ true → 2 ^ 64 - 1 ≤ length_with n p
unfolding is_full length_with end_of has_bytes
full_with n p full =
    let both = and_parts p.filled (nat_le (2 ^ 64 - 1) p.len) full in
    let long = leb-true (2 ^ 64 - 1) p.len both.1 in
    let some : (p.filled && nat_lt 0 p.len) ≡ true =
    and_from p.filled (nat_lt 0 p.len) both.0 (lt-ltb 0 p.len (omega (arith, long))) in
    let is = cond-true (p.filled && nat_lt 0 p.len) (max n (p.at + p.len)) n some in
    omega (arith, is, long)

full_ends : (n : ℕ) (ps : List PartAt) → some_full ps ≡ true → 2 ^ 64 - 1 ≤ length_from n ps
unfolding some_full length_from
full_ends n [] full = cc
full_ends n (p ∷ ps) full =
    elim (or_cases (is_full p) (list_any is_full ps) full) [
      | inl here ↦ omega (arith, full_with n p here, length_from_ge (length_with n p) ps)
      | inr later ↦ full_ends (length_with n p) ps later
    ]

limit_below : (class : Class) → limit_of class < 2 ^ 64 - 1
unfolding limit_of
limit_below C32 = omega arith
limit_below C64 = omega arith

too_large_full : (ps : List PartAt) (layout : Bool) (base : ℕ) (class : Class)
    → some_full ps ≡ true → is_too_large ps layout base (limit_of class) ≡ true
unfolding is_too_large length_of
too_large_full ps layout base class full =
    let there = some_full_standing ps layout ∙ full in
    let long = full_ends (cond layout base 0) (standing ps layout) there in
    or_left (nat_lt (limit_of class) (length_from (cond layout base 0) (standing ps layout)))
    (not layout && some_above (limit_of class) (standing ps layout))
    (lt-ltb (limit_of class) (length_from (cond layout base 0) (standing ps layout))
    (omega (arith, long, limit_below class)))

-- ---- Where there is none

-- a part of which the image holds bytes is the same
short : (p : PartAt) → is_full p ≡ false → p.filled ≡ true → p.len < 2 ^ 64
unfolding is_full
short p low filled =
    let test : nat_le (2 ^ 64 - 1) p.len ≡ false =
    sym (ap (λ (b : Bool). b && nat_le (2 ^ 64 - 1) p.len) filled) ∙ low in
    let less = leb-false (2 ^ 64 - 1) p.len test in
    omega (arith, less)

end_capped : (end : ℕ) (p : PartAt) → is_full p ≡ false → end_after end (capped p) ≡ end_after end p
unfolding end_after
end_capped end p low = by_filled p.filled refl
  where
    by_filled : (b : Bool) → p.filled ≡ b → end_after end (capped p) ≡ end_after end p
    by_filled true filled = ap (end_after end) (capped_same p (short p low filled))
    by_filled false bare =
        cond-false (capped p).filled (place_of end (capped p) + (capped p).len) end
        (unfold capped in bare)
        ∙ sym (cond-false p.filled (place_of end p + p.len) end bare)

in_order_capped : (end : ℕ) (ps : List PartAt) → some_full ps ≡ false
    → in_order_from end (map capped ps) ≡ map capped (in_order_from end ps)
unfolding in_order_from some_full capped place_of
in_order_capped end [] none = refl
in_order_capped end (p ∷ ps) none =
    let both = or_parts (is_full p) (list_any is_full ps) none in
    ap (λ (n : ℕ). capped (record p { at = place_of end p }) ∷ in_order_from n (map capped ps))
    (end_capped end p both.0)
    ∙ ap (λ (qs : List PartAt). capped (record p { at = place_of end p }) ∷ qs)
    (in_order_capped (end_after end p) ps both.1)

standing_capped : (ps : List PartAt) (layout : Bool) → some_full ps ≡ false
    → standing (map capped ps) layout ≡ map capped (standing ps layout)
unfolding standing
standing_capped ps true none = refl
standing_capped ps false none = in_order_capped 0 ps none

bare_has_none : (p : PartAt) → p.filled ≡ false → has_bytes p ≡ false
unfolding has_bytes
bare_has_none p bare = ap (λ (b : Bool). b && nat_lt 0 p.len) bare

with_capped : (n : ℕ) (p : PartAt) → is_full p ≡ false → length_with n (capped p) ≡ length_with n p
unfolding length_with
with_capped n p low = by_filled p.filled refl
  where
    by_filled : (b : Bool) → p.filled ≡ b → length_with n (capped p) ≡ length_with n p
    by_filled true filled = ap (length_with n) (capped_same p (short p low filled))
    by_filled false bare =
        cond-false (has_bytes (capped p)) (max n (end_of (capped p))) n
        (bare_has_none (capped p) (unfold capped in bare))
        ∙ sym (cond-false (has_bytes p) (max n (end_of p)) n (bare_has_none p bare))

length_capped : (n : ℕ) (ps : List PartAt) → some_full ps ≡ false
    → length_from n (map capped ps) ≡ length_from n ps
unfolding length_from some_full
length_capped n [] none = refl
length_capped n (p ∷ ps) none =
    let both = or_parts (is_full p) (list_any is_full ps) none in
    ap (λ (m : ℕ). length_from m (map capped ps)) (with_capped n p both.0)
    ∙ length_capped (length_with n p) ps both.1

positions_capped : (ps : List PartAt) → positions (map capped ps) ≡ positions ps
unfolding positions capped
positions_capped [] = refl
positions_capped (p ∷ ps) = ap (λ (l : List ℕ). p.at ∷ l) (positions_capped ps)

above_capped : (limit : ℕ) (ps : List PartAt)
    → some_above limit (map capped ps) ≡ some_above limit ps
unfolding some_above capped
above_capped limit [] = refl
above_capped limit (p ∷ ps) = ap (λ (b : Bool). nat_lt limit p.at || b) (above_capped limit ps)

length_of_capped : (ps : List PartAt) (layout : Bool) (base : ℕ) → some_full ps ≡ false
    → length_of (map capped ps) layout base ≡ length_of ps layout base
unfolding length_of
length_of_capped ps layout base none =
    ap (length_from (cond layout base 0)) (standing_capped ps layout none)
    ∙ length_capped (cond layout base 0) (standing ps layout) (some_full_standing ps layout ∙ none)

places_capped : (ps : List PartAt) (layout : Bool) (base : ℕ) → some_full ps ≡ false
    → places_of (map capped ps) layout base ≡ places_of ps layout base
unfolding places_of
places_capped ps layout base none =
    ap (λ (l : List ℕ). record { at = l; end = length_of (map capped ps) layout base })
    (ap positions (standing_capped ps layout none) ∙ positions_capped (standing ps layout))
    ∙ ap (λ (n : ℕ). record { at = positions (standing ps layout); end = n })
    (length_of_capped ps layout base none)

too_large_capped : (ps : List PartAt) (layout : Bool) (base : ℕ) (class : Class)
    → is_too_large (map capped ps) layout base (limit_of class)
    ≡ is_too_large ps layout base (limit_of class)
too_large_capped ps layout base class = by_test (some_full ps) refl
  where
    by_test : (b : Bool) → some_full ps ≡ b
        → is_too_large (map capped ps) layout base (limit_of class)
        ≡ is_too_large ps layout base (limit_of class)
    by_test true full =
        too_large_full (map capped ps) layout base class (some_full_capped ps ∙ full)
        ∙ sym (too_large_full ps layout base class full)
    by_test false none = unfold is_too_large in
        same_or (nat_lt (limit_of class) (length_of ps layout base))
        (not layout && some_above (limit_of class) (standing ps layout))
        (nat_lt (limit_of class) (length_of (map capped ps) layout base))
        (not layout && some_above (limit_of class) (standing (map capped ps) layout))
        (ap (nat_lt (limit_of class)) (length_of_capped ps layout base none))
        (ap (λ (b : Bool). not layout && b)
        (ap (some_above (limit_of class)) (standing_capped ps layout none)
        ∙ above_capped (limit_of class) (standing ps layout)))

-- ---- The law

refused_capped : (first : PartAt) (others : List PartAt) (layout : Bool) (base : ℕ) (class : Class)
    → IsFirst first → AllByRecursion (λ p. p.at < 2 ^ 64) others
    → refusal_of (map capped (first ∷ others)) layout base class
    ≡ refusal_of (first ∷ others) layout base class
unfolding refusal_of refusal_within
refused_capped first others layout base class is below =
    let parts : List PartAt = first ∷ others in
    let large = is_too_large (map capped parts) layout base (limit_of class) in
    ap (λ (o : Option ElfError). option_or o (cond large (Some TooLarge) None)) (overlaps layout)
    ∙ ap (λ (b : Bool). option_or (overlap_refusal parts layout) (cond b (Some TooLarge) None))
    (too_large_capped parts layout base class)
  where
    overlaps : (by_caller : Bool)
        → overlap_refusal (map capped (first ∷ others)) by_caller
        ≡ overlap_refusal (first ∷ others) by_caller
    overlaps true = unfold overlap_refusal in
        ap (option_map (λ (pair : Part × Part). Overlap pair.0 pair.1))
        (overlap_capped first others is below)
    overlaps false = unfold overlap_refusal in refl

-- a refusal is answered whatever the places are
refused_anyway : (overlaps : Option ElfError) (x y : Places)
    → answered (option_or overlaps (Some TooLarge)) x
    ≡ answered (option_or overlaps (Some TooLarge)) y
refused_anyway None x y = refl
refused_anyway (Some e) x y = refl

placed_capped : (ps : List PartAt) (layout : Bool) (base : ℕ) (class : Class)
    → answered (refusal_of ps layout base class) (places_of (map capped ps) layout base)
    ≡ answered (refusal_of ps layout base class) (places_of ps layout base)
placed_capped ps layout base class = by_test (some_full ps) refl
  where
    x : Places
    x = places_of (map capped ps) layout base

    y : Places
    y = places_of ps layout base

    by_test : (b : Bool) → some_full ps ≡ b
        → answered (refusal_of ps layout base class) (places_of (map capped ps) layout base)
        ≡ answered (refusal_of ps layout base class) (places_of ps layout base)
    by_test true full = unfold refusal_of in unfold refusal_within in
        let large = too_large_full ps layout base class full in
        let given : Places → Bool → Result Places ElfError =
        λ places b.
        answered (option_or (overlap_refusal ps layout) (cond b (Some TooLarge) None)) places in
        ap (given (places_of (map capped ps) layout base)) large
        ∙ refused_anyway (overlap_refusal ps layout) (places_of (map capped ps) layout base)
        (places_of ps layout base)
        ∙ sym (ap (given (places_of ps layout base)) large)
    by_test false none =
        ap (λ (places : Places). answered (refusal_of ps layout base class) places)
        (places_capped ps layout base none)

-- where nothing is refused no part is so long
none_full : (ps : List PartAt) (layout : Bool) (base : ℕ) (class : Class)
    → refusal_of ps layout base class ≡ None → some_full ps ≡ false
none_full ps layout base class passed = by_test (some_full ps) refl
  where
    by_test : (b : Bool) → some_full ps ≡ b → some_full ps ≡ false
    by_test true full = unfold refusal_of in unfold refusal_within in
        let both = neither_from (overlap_refusal ps layout)
        (is_too_large ps layout base (limit_of class)) passed in
        let small = both.1 in
        let clash : true ≡ false = sym (too_large_full ps layout base class full) ∙ small in cc
    by_test false none = none

all_same : (ps : List PartAt) → some_full ps ≡ false
    → AllByRecursion (λ p. p.filled ≡ false → p.len < 2 ^ 64) ps → map capped ps ≡ ps
unfolding some_full
all_same [] none bare = refl
all_same (p ∷ ps) none bare =
    let both = or_parts (is_full p) (list_any is_full ps) none in
    ap (λ (q : PartAt). q ∷ map capped ps) (here p.filled refl both.0)
    ∙ ap (λ (qs : List PartAt). p ∷ qs) (all_same ps both.1 bare.1)
  where
    here : (b : Bool) → p.filled ≡ b → is_full p ≡ false → capped p ≡ p
    here true filled low = capped_same p (short p low filled)
    here false e low = capped_same p (bare.0 e)

-- an answer is its refusal and its places
placing_is : (ps : List PartAt) (layout : Bool) (base : ℕ) (class : Class)
    → placing ps layout base class
    ≡ answered (refusal_of ps layout base class) (places_of ps layout base)
unfolding placing placing_within refusal_of
placing_is ps layout base class = refl

pub capping_law : CappingLaw
capping_law first others layout base class is below =
    let each = recursion_from_All (λ (p : PartAt). p.at < 2 ^ 64) others below in
    let refused = refused_capped first others layout base class is each in
    let parts : List PartAt = first ∷ others in
    record {
      refused = refused;
      placed =
          placing_is (map capped parts) layout base class
          ∙ ap
          (λ (r : Option ElfError). answered r (places_of (map capped parts) layout base)) refused
          ∙ placed_capped parts layout base class ∙ sym (placing_is parts layout base class);
      same = λ passed bare.
          all_same parts (none_full parts layout base class passed) (
            (λ e. is.len),
            recursion_from_All (λ (p : PartAt). p.filled ≡ false → p.len < 2 ^ 64) others bare,
          );
    }

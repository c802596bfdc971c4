-- What an answer of `placing` tells.
use Rattle.std.proofs.Common.{◌≡◌, ℕ, ◌+◌, ◌-◌, ◌%◌, ◌≤◌, max, List, [], ◌∷◌, length, suc, Bool, true, false, cond, nat_lt, Option, Some, None, Result, Ok, Err, IfOk, All, sym, ◌∙◌, ap, refl, subst, arith}
use Rattle.std.specs.Option.{option_map, option_or}
use Rattle.std.specs.List.{AllByRecursion, list_any}
use Rattle.std.proofs.lemmas.Bool.{ltb-false, or_parts, cond-false}
use Rattle.std.proofs.lemmas.List.{length-map}
use Rattle.std.proofs.lemmas.List.Elements.{All-from_recursion}
use Rattle.std.proofs.lemmas.Result.{IfOk-weaker}
use Rattle.elf_types.specs.declared.records.Part.{Part}
use Rattle.elf_types.specs.declared.records.Class.{Class}
use Rattle.elf_types.specs.declared.errors.ElfError.{ElfError}
use Rattle.elf_types.specs.declared.errors.ElfError.TheVariants.{Overlap, TooLarge}
use Rattle.elf_layout.specs.declared.parts.PartAt.{PartAt}
use Rattle.elf_layout.specs.declared.parts.Places.{Places}
use Rattle.elf_layout.specs.Meeting.{IsApart, LiesWithin, overlap_of}
use Rattle.elf_types.specs.Answers.{answered}
use Rattle.elf_layout.specs.Layout.{rounded_up, place_of, end_after, in_order_from, standing, length_of, places_of, positions, limit_of, some_above, is_too_large, overlap_refusal, refusal_within, refusal_of, placing_within, placing, MayWantMemory}
use Rattle.elf_layout.proofs.Apart.{apart_by_caller, apart_in_order, lies_within}

ok_from : (refusal : Option ElfError) (stated places : Places) → answered refusal stated ≡ Ok places → (refusal ≡ None) × (places ≡ stated)
ok_from None stated places e = (refl, cc)
ok_from (Some error) stated places e = cc

err_from : (refusal : Option ElfError) (stated : Places) (error : ElfError) → answered refusal stated ≡ Err error → refusal ≡ Some error
err_from None stated error e = cc
err_from (Some given) stated error e = cc

-- no other refusal is stated of a layout
may_want_from : (layout : Bool) (met : Option (Part × Part)) (too_large : Bool) (places : Places)
    → MayWantMemory (answered (option_or (cond layout (option_map (λ pair. Overlap pair.0 pair.1) met) None) (cond too_large (Some TooLarge) None)) places)
may_want_from true (Some pair) too_large places = tt
may_want_from true None true places = tt
may_want_from true None false places = tt
may_want_from false met true places = tt
may_want_from false met false places = tt

pub may_want : (parts : List PartAt) (layout : Bool) (base : ℕ) (class : Class) → MayWantMemory (placing parts layout base class)
unfolding placing placing_within refusal_within overlap_refusal
may_want parts layout base class = may_want_from layout (overlap_of parts) (is_too_large parts layout base (limit_of class)) (places_of parts layout base)

-- an Ok: nothing is refused, and the places are those of the definition
pub placing_ok : (parts : List PartAt) (layout : Bool) (base : ℕ) (class : Class) (places : Places) → placing parts layout base class ≡ Ok places → (refusal_of parts layout base class ≡ None) × (places ≡ places_of parts layout base)
unfolding placing placing_within refusal_of
placing_ok parts layout base class places e = ok_from _ _ _ e

-- an Err: the refusal
pub placing_err : (parts : List PartAt) (layout : Bool) (base : ℕ) (class : Class) (error : ElfError) → placing parts layout base class ≡ Err error → refusal_of parts layout base class ≡ Some error
unfolding placing placing_within refusal_of
placing_err parts layout base class error e = err_from _ _ _ e

pub neither_from : (overlaps : Option ElfError) (too_large : Bool) → option_or overlaps (cond too_large (Some TooLarge) None) ≡ None → (overlaps ≡ None) × (too_large ≡ false)
neither_from None true e = absurd (let h : ◌≡◌ {A = Option ElfError} (Some TooLarge) None = e in cc)
neither_from None false e = (refl, refl)
neither_from (Some error) too_large e = absurd (let h : ◌≡◌ {A = Option ElfError} (Some error) None = e in cc)

neither : (parts : List PartAt) (layout : Bool) (base : ℕ) (class : Class) (places : Places) → placing parts layout base class ≡ Ok places → (overlap_refusal parts layout ≡ None) × (is_too_large parts layout base (limit_of class) ≡ false)
unfolding refusal_of refusal_within
neither parts layout base class places e = neither_from _ _ (placing_ok parts layout base class places e).0

end_is : (parts : List PartAt) (layout : Bool) (base : ℕ) (class : Class) (places : Places) → placing parts layout base class ≡ Ok places → places.end ≡ length_of parts layout base
unfolding places_of
end_is parts layout base class places e = ap (λ (p : Places). p.end) (placing_ok parts layout base class places e).1

no_overlap : (pair : Option (Part × Part)) → ◌≡◌ {A = Option ElfError} (option_map (λ (p : Part × Part). Overlap p.0 p.1) pair) None → pair ≡ None
no_overlap None e = refl
no_overlap (Some pair) e = cc

-- no byte of the image is one of two parts
pub placing_apart : (parts : List PartAt) (layout : Bool) (base : ℕ) (class : Class) (places : Places) → placing parts layout base class ≡ Ok places → IsApart (standing parts layout)
unfolding standing overlap_refusal
placing_apart parts true base class places e =
    apart_by_caller parts (no_overlap (overlap_of parts) (neither parts true base class places e).0)
placing_apart parts false base class places e = apart_in_order parts

-- and each lies within the image
pub placing_within_length : (parts : List PartAt) (layout : Bool) (base : ℕ) (class : Class) (places : Places) → placing parts layout base class ≡ Ok places → LiesWithin places.end (standing parts layout)
unfolding length_of
placing_within_length parts layout base class places e =
    subst (λ (n : ℕ). LiesWithin n (standing parts layout)) (sym (end_is parts layout base class places e)) (lies_within (cond layout base 0) (standing parts layout))

-- the image keeps its limit
pub placing_length : (parts : List PartAt) (layout : Bool) (base : ℕ) (class : Class) (places : Places) → placing parts layout base class ≡ Ok places → places.end ≤ limit_of class
unfolding is_too_large
placing_length parts layout base class places e =
    let small : nat_lt (limit_of class) (length_of parts layout base) ≡ false = (or_parts _ _ (neither parts layout base class places e).1).0 in
    omega (arith, end_is parts layout base class places e, ltb-false (limit_of class) (length_of parts layout base) small)

length-in_order_from : (end : ℕ) (ps : List PartAt) → length (in_order_from end ps) ≡ length ps
unfolding in_order_from
length-in_order_from end [] = refl
length-in_order_from end (p ∷ ps) = ap suc (length-in_order_from (end_after end p) ps)

length-standing : (parts : List PartAt) (layout : Bool) → length (standing parts layout) ≡ length parts
unfolding standing
length-standing parts true = refl
length-standing parts false = length-in_order_from 0 parts

-- each part has its position
pub placing_count : (parts : List PartAt) (layout : Bool) (base : ℕ) (class : Class) (places : Places) → placing parts layout base class ≡ Ok places → length places.at ≡ length parts
unfolding places_of positions
placing_count parts layout base class places e =
    ap (λ (p : Places). length p.at) (placing_ok parts layout base class places e).1
    ∙ (length-map (standing parts layout) (λ (p : PartAt). p.at) ∙ length-standing parts layout)

none_above : (limit : ℕ) (ps : List PartAt) → some_above limit ps ≡ false → AllByRecursion (λ n. n ≤ limit) (positions ps)
unfolding some_above positions
none_above limit [] none = tt
none_above limit (p ∷ ps) none =
    let parts = or_parts (nat_lt limit p.at) (list_any (λ q. nat_lt limit q.at) ps) none in
    (ltb-false limit p.at parts.0, none_above limit ps parts.1)

-- and where the parts stand one after the other so does each position
pub placing_positions : (parts : List PartAt) (base : ℕ) (class : Class) (places : Places) → placing parts false base class ≡ Ok places → All (λ n. n ≤ limit_of class) places.at
unfolding is_too_large places_of
placing_positions parts base class places e =
    let low = (or_parts _ _ (neither parts false base class places e).1).1 in
    let at_is = ap (λ (p : Places). p.at) (placing_ok parts false base class places e).1 in
    subst (λ (l : List ℕ). All (λ n. n ≤ limit_of class) l) (sym at_is) (All-from_recursion (λ n. n ≤ limit_of class) _ (none_above (limit_of class) (standing parts false) low))

-- the same facts of a result that `place_within` gave
pub of_places : (P : Places → Type 0) (parts given : List PartAt) (layout : Bool) (base limit : ℕ) (class : Class) (result : Result Places ElfError) → given ≡ parts → limit ≡ limit_of class → IfOk result (λ places. placing_within given layout base limit ≡ Ok places) → ((places : Places) → placing parts layout base class ≡ Ok places → P places) → IfOk result P
unfolding placing
of_places P parts given layout base limit class result given_is limit_is placed_is fact =
    IfOk-weaker result (λ places. placing_within given layout base limit ≡ Ok places) P
    (λ places e. fact places (subst (λ (n : ℕ). placing_within parts layout base n ≡ Ok places) limit_is (subst (λ (ps : List PartAt). placing_within ps layout base limit ≡ Ok places) given_is e)))
    placed_is

pub placing_positions_at : (parts : List PartAt) (layout : Bool) (base : ℕ) (class : Class) (places : Places) → layout ≡ false → placing parts layout base class ≡ Ok places → All (λ n. n ≤ limit_of class) places.at
placing_positions_at parts true base class places in_order e = absurd (let h : true ≡ false = in_order in cc)
placing_positions_at parts false base class places in_order e = placing_positions parts base class places e

-- a section of type SHT_NULL, which is not filled and has alignment 1, stands at the end so far and moves nothing
pub place_of-null : (end : ℕ) (p : PartAt) → p.align ≡ 1 → place_of end p ≡ end
unfolding place_of rounded_up
place_of-null end p one =
    let largest : max p.align 1 ≡ 1 = omega arith in
    subst (λ (m : ℕ). end + (m - end % m) % m ≡ end) (sym largest) (omega arith)

pub end_after-null : (end : ℕ) (p : PartAt) → p.filled ≡ false → end_after end p ≡ end
unfolding end_after
end_after-null end p bare = cond-false p.filled (place_of end p + p.len) end bare

-- Parts that share a byte, as neighbours in the order by position and rank.
use Rattle.std.proofs.Common.{◌≡◌, ℕ, ◌+◌, ◌-◌, ◌<◌, ◌≤◌, List, [], ◌∷◌, length, get_or, drop, map, Bool, true, false, cond, ◌||◌, nat_lt, Option, Some, None, MatchOption, sym, ◌∙◌, ap, refl, subst, ⊎_elim, arith}
use Rattle.std.specs.List.{All, AllByRecursion, filter, list_any}
use Rattle.std.proofs.lemmas.List.Elements.{All-map, All-from_recursion}
use Rattle.std.proofs.lemmas.Bool.{cases_lt, lt-ltb, le-ltb, ltb-true, and_parts, and_from, and_right}
use Rattle.std.proofs.lemmas.List.{get_or-drop, drop-drop, length-drop}
use Rattle.elf_types.specs.declared.records.Part.{Part}
use Rattle.elf_layout.specs.declared.parts.PartAt.{PartAt}
use Rattle.elf_layout.specs.declared.meeting.Extent.{Extent}
use Rattle.elf_layout.specs.Meeting.{has_bytes, end_of, meets, sorted_by, ranked_from, ranked_listed, ranks_by_position, parts_by_position, first_met, overlap_of}
use Rattle.elf_layout.specs.Extents.{extent_of, sorted_extents_of, first_close, first_close_or}
use Rattle.elf_layout.proofs.Sorting.{all_weaker, all_map, all-sorted_by, map-sorted_by, Climbs, climbs-sorted_by}

pub has_bytes-len : (p : PartAt) → has_bytes p ≡ true → 0 < p.len
unfolding has_bytes
has_bytes-len p e = ltb-true 0 p.len (and_parts p.filled (nat_lt 0 p.len) e).1

-- of two parts that are not empty the first, which does not begin later, meets the second where this begins before its end
pub meets-in_order : (p q : PartAt) → has_bytes p ≡ true → has_bytes q ≡ true → p.at ≤ q.at → q.at < p.at + p.len → meets p q ≡ true
unfolding meets end_of
meets-in_order p q full full' order close =
    let some = has_bytes-len q full' in
    and_from _ _ (and_from _ _ (and_from _ _ full full') (lt-ltb _ _ (omega arith))) (lt-ltb _ _ close)

-- a part meets none that begins after its end
meets-apart : (p q : PartAt) → p.at + p.len ≤ q.at → meets p q ≡ false
unfolding meets end_of
meets-apart p q apart = and_right _ _ (le-ltb _ _ apart)

meets_none : (p : PartAt) (n : ℕ) (qs : List PartAt) → p.at + p.len ≤ n → AllByRecursion (λ q. n ≤ q.at) qs → list_any (meets p) qs ≡ false
meets_none p n [] apart all = refl
meets_none p n (q ∷ qs) apart all =
    let here = meets-apart p q (omega (arith, all.0)) in
    let rest = meets_none p n qs apart all.1 in
    cc

-- so a part meets a later one exactly where it meets the next: the next begins no later than any other
meets_next : (p q : PartAt) (qs : List PartAt) → has_bytes p ≡ true → has_bytes q ≡ true → p.at ≤ q.at → AllByRecursion (λ r. q.at ≤ r.at) qs → list_any (meets p) (q ∷ qs) ≡ nat_lt (q.at - p.at) p.len
meets_next p q qs full full' order later =
    let some = has_bytes-len p full in
    ⊎_elim
    (λ (close : q.at - p.at < p.len).
    ap (λ b. b || list_any (meets p) qs) (meets-in_order p q full full' order (omega arith)) ∙ sym (lt-ltb _ _ close))
    (λ (apart : p.len ≤ q.at - p.at).
    meets_none p q.at (q ∷ qs) (omega arith) (omega arith, later) ∙ sym (le-ltb _ _ apart))
    (cases_lt (q.at - p.at) p.len)

-- a ranked part is not empty, and is the part with that rank
pub record IsRanked (whole : List PartAt) (x : ℕ × PartAt) : Type 0 where
  pub full : has_bytes x.1 ≡ true
  pub inside : x.0 < length whole
  pub found : (d : PartAt) → get_or whole x.0 d ≡ x.1

-- two ranks name parts of the list
pub record Names (whole : List PartAt) (pair : ℕ × ℕ) (met : Option (Part × Part)) : Type 0 where
  pub first_inside : pair.0 < length whole
  pub second_inside : pair.1 < length whole
  pub named : (d : PartAt) → met ≡ Some ((get_or whole pair.0 d).part, (get_or whole pair.1 d).part)

-- the ranks that are found are those of the pair
abbrev pub IsPairOf : List PartAt → Option (ℕ × ℕ) → Option (Part × Part) → Type 0
IsPairOf whole ranks met = MatchOption ranks (met ≡ None) (λ pair. Names whole pair met)

pair_by_test : (whole : List PartAt) (x y : ℕ × PartAt) (ranks : Option (ℕ × ℕ)) (met : Option (Part × Part)) → IsRanked whole x → IsRanked whole y → IsPairOf whole ranks met → (b : Bool) → IsPairOf whole (cond b (Some (x.0, y.0)) ranks) (cond b (Some (x.1.part, y.1.part)) met)
pair_by_test whole x y ranks met is_x is_y rest true = record {
  first_inside = is_x.inside;
  second_inside = is_y.inside;
  named = λ d. let first = is_x.found d in let second = is_y.found d in cc;
}
pair_by_test whole x y ranks met is_x is_y rest false = rest

first_met_is : (whole : List PartAt) (xs : List (ℕ × PartAt)) → AllByRecursion (IsRanked whole) xs → Climbs (λ x. x.1.at) xs → IsPairOf whole (first_close (map extent_of xs)) (first_met (map (λ x. x.1) xs))
unfolding first_close first_close_or first_met extent_of
first_met_is whole [] ranked climbs = refl
first_met_is whole (x ∷ []) ranked climbs = refl
first_met_is whole (x ∷ y ∷ xs) ranked climbs =
    let rest = first_met_is whole (y ∷ xs) ranked.1 climbs.1 in
    let later = all_map (λ (z : ℕ × PartAt). z.1) (λ r. y.1.at ≤ r.at) xs climbs.1.0 in
    let next = meets_next x.1 y.1 (map (λ (z : ℕ × PartAt). z.1) xs) ranked.0.full ranked.1.0.full climbs.0.0 later in
    subst (λ (b : Bool). IsPairOf whole (first_close (map extent_of (x ∷ y ∷ xs))) (cond b (Some (x.1.part, y.1.part)) (first_met (map (λ (z : ℕ × PartAt). z.1) (y ∷ xs))))) (sym next)
    (pair_by_test whole x y _ _ ranked.0 ranked.1.0 rest (nat_lt (y.1.at - x.1.at) x.1.len))

-- the ranked parts are those of the list
ranked_at : (whole ps : List PartAt) (p : PartAt) (rank : ℕ) → drop rank whole ≡ p ∷ ps → has_bytes p ≡ true → IsRanked whole (rank, p)
ranked_at whole ps p rank rest_is full = record {
  full = full;
  inside = omega (arith, length-drop rank whole, ap length rest_is);
  found = λ d.
      let e : rank + 0 ≡ rank = omega arith in
      sym (ap (λ n. get_or whole n d) e) ∙ (sym (get_or-drop rank whole 0 d) ∙ ap (λ l. get_or l 0 d) rest_is);
}

ranked_if : (whole : List PartAt) (x : ℕ × PartAt) (xs : List (ℕ × PartAt)) (b : Bool) → (b ≡ true → IsRanked whole x) → AllByRecursion (IsRanked whole) xs → AllByRecursion (IsRanked whole) (cond b (x ∷ xs) xs)
ranked_if whole x xs true here rest = (here refl, rest)
ranked_if whole x xs false here rest = rest

ranked_from_all : (whole ps : List PartAt) (rank : ℕ) → drop rank whole ≡ ps → AllByRecursion (IsRanked whole) (ranked_from rank ps)
unfolding ranked_from
ranked_from_all whole [] rank rest_is = tt
ranked_from_all whole (p ∷ ps) rank rest_is =
    ranked_if whole (rank, p) _ (has_bytes p) (ranked_at whole ps p rank rest_is)
    (ranked_from_all whole ps (rank + 1) (sym (drop-drop 1 rank whole) ∙ ap (λ l. drop 1 l) rest_is))

full_parts : (rank : ℕ) (ps : List PartAt) → filter has_bytes ps ≡ map (λ x. x.1) (ranked_from rank ps)
unfolding ranked_from
full_parts rank [] = refl
full_parts rank (p ∷ ps) =
    elim (has_bytes p) as (λ b. cond b (p ∷ filter has_bytes ps) (filter has_bytes ps) ≡ map (λ x. x.1) (cond b ((rank, p) ∷ ranked_from (rank + 1) ps) (ranked_from (rank + 1) ps))) [
      | true ↦ ap (λ qs. p ∷ qs) (full_parts (rank + 1) ps)
      | false ↦ full_parts (rank + 1) ps
    ]

listed_is : (ps : List PartAt) → parts_by_position ps ≡ map (λ x. x.1) (ranked_listed ps)
unfolding parts_by_position
listed_is ps = ap (λ qs. sorted_by (λ p. p.at) qs) (full_parts 0 ps) ∙ sym (map-sorted_by (λ (x : ℕ × PartAt). x.1) (λ p. p.at) (ranked_from 0 ps))

ranked_all : (ps : List PartAt) → AllByRecursion (IsRanked ps) (ranked_listed ps)
ranked_all ps = all-sorted_by (λ (x : ℕ × PartAt). x.1.at) (IsRanked ps) (ranked_from 0 ps) (ranked_from_all ps ps 0 refl)

-- each rank is that of a part
pub ranks_inside : (ps : List PartAt) → All (λ r. r < length ps) (ranks_by_position ps)
unfolding ranks_by_position
ranks_inside ps =
    All-map (λ (r : ℕ). r < length ps) (λ (x : ℕ × PartAt). x.0) (ranked_listed ps)
    (All-from_recursion (λ (x : ℕ × PartAt). x.0 < length ps) (ranked_listed ps) (all_weaker (IsRanked ps) (λ x. x.0 < length ps) (λ x is. is.inside) (ranked_listed ps) (ranked_all ps)))

-- what the search finds among the extents that the sort leaves
overlap_is : (ps : List PartAt) → IsPairOf ps (first_close (sorted_extents_of ps)) (overlap_of ps)
unfolding overlap_of sorted_extents_of
overlap_is ps =
    let found = first_met_is ps (ranked_listed ps) (ranked_all ps) (climbs-sorted_by (λ (x : ℕ × PartAt). x.1.at) (ranked_from 0 ps)) in
    subst (λ (l : List PartAt). IsPairOf ps (first_close (map extent_of (ranked_listed ps))) (first_met l)) (sym (listed_is ps)) found

-- the same as the code calls it
pub overlap_named : (ps : List PartAt) (es : List Extent) (a b : ℕ) → es ≡ sorted_extents_of ps → ◌≡◌ {A = Option (ℕ × ℕ)} (Some (a, b)) (first_close es) → Names ps (a, b) (overlap_of ps)
overlap_named ps es a b es_is found =
    subst (λ (ranks : Option (ℕ × ℕ)). IsPairOf ps ranks (overlap_of ps)) (sym (found ∙ ap first_close es_is)) (overlap_is ps)

pub overlap_none : (ps : List PartAt) (es : List Extent) → es ≡ sorted_extents_of ps → ◌≡◌ {A = Option (ℕ × ℕ)} None (first_close es) → ◌≡◌ {A = Option (Part × Part)} None (overlap_of ps)
overlap_none ps es es_is found =
    sym (subst (λ (ranks : Option (ℕ × ℕ)). IsPairOf ps ranks (overlap_of ps)) (sym (found ∙ ap first_close es_is)) (overlap_is ps))

-- The extents of an image's parts, sorted by position and rank.
use Rattle.std.proofs.Common.{◌≡◌, ℕ, ◌+◌, ◌<◌, ◌≤◌, List, [], ◌∷◌, ◌++◌, length, get_or, drop, map, Bool, true, false, cond, nat_cmp, Ordering, nat_le, sym, ◌∙◌, ap, refl, subst, arith}
use Rattle.std.specs.Bool.{⊤}
use Rattle.std.specs.Ordering.{is_lt, ordering_then}
use Rattle.std.specs.declared.cmp.Ordering.TheVariants.{Less, Equal, Greater}
use Rattle.std.specs.Cmp.{IsTotalOrder}
use Rattle.std.specs.List.{AllByRecursion}
use Rattle.std.specs.List.Sorted.{IsSorted, IsPermutation}
use Rattle.std.proofs.lemmas.Cmp.{nat_cmp_total, then_total, on_total}
use Rattle.std.proofs.lemmas.Map.Lookups.{exact_unsigned}
use Rattle.std.proofs.lemmas.List.Sorted.{sum_by-IsPermutation}
use Rattle.std.proofs.lemmas.List.{append_assoc, append-nil, at_drop_more, at_drop_all}
use Rattle.std.proofs.lemmas.Simd.{map-map}
use Rattle.std.proofs.lemmas.Bool.{leb-true, leb-false}
use Rattle.std.proofs.lemmas.Bool.Decides.{nat_tests}
use Rattle.elf_layout.specs.declared.parts.PartAt.{PartAt}
use Rattle.elf_layout.specs.declared.meeting.Extent.{Extent}
use Rattle.elf_layout.specs.Meeting.{has_bytes, inserted_by, sorted_by, ranked_from, ranked_listed, ranks_by_position}
use Rattle.elf_layout.specs.Extents.{extent_of, extents_of, sorted_extents_of}
use Rattle.elf_layout.proofs.Sorting.{all_weaker, all_both, all-inserted_by, all-sorted_by, sum_by-sorted_by, map-sorted_by}
use Rattle.elf_layout.proofs.Unique.{Rises, Rises-from_sorted, unique}

-- the derived order
abbrev pub extent_cmp : Extent → Extent → Ordering
extent_cmp x y = ordering_then (nat_cmp x.at y.at) (ordering_then (nat_cmp x.rank y.rank) (nat_cmp x.len y.len))

extent_cmp_total : IsTotalOrder extent_cmp
extent_cmp_total =
    then_total (on_total (λ (e : Extent). e.at) nat_cmp_total) (then_total (on_total (λ (e : Extent). e.rank) nat_cmp_total) (on_total (λ (e : Extent). e.len) nat_cmp_total))

then_equal : (r s : Ordering) → ordering_then r s ≡ Equal → (r ≡ Equal) × (s ≡ Equal)
then_equal Less s e = absurd (let h : Less ≡ Equal = e in cc)
then_equal Equal s e = (refl, e)
then_equal Greater s e = absurd (let h : Greater ≡ Equal = e in cc)

same_extent : (at at' rank rank' len len' : ℕ) → at ≡ at' → rank ≡ rank' → len ≡ len' → ◌≡◌ {A = Extent} (record { at = at; rank = rank; len = len }) (record { at = at'; rank = rank'; len = len' })
same_extent at at' rank rank' len len' same_at same_rank same_len = cc

extent_cmp_exact : (x y : Extent) → extent_cmp x y ≡ Equal → x ≡ y
extent_cmp_exact x y e =
    let at = then_equal _ _ e in
    let rest = then_equal _ _ at.1 in
    same_extent _ _ _ _ _ _ (exact_unsigned x.at y.at at.0) (exact_unsigned x.rank y.rank rest.0) (exact_unsigned x.len y.len rest.1)

-- what the order tells of positions and ranks
position_above : (x y : Extent) → y.at < x.at → is_lt (extent_cmp x y) ≡ false
position_above x y above = grind (arith, nat_tests)

rank_above : (x y : Extent) → y.at ≤ x.at → y.rank < x.rank → is_lt (extent_cmp x y) ≡ false
rank_above x y above ranks = grind (arith, nat_tests)

position_from : (x y : Extent) → is_lt (extent_cmp x y) ≡ false → y.at ≤ x.at
position_from x y e = grind (arith, nat_tests)

rises_either : (e f : Extent) (es : List Extent) → AllByRecursion (λ g. e.rank < g.rank) (f ∷ es) → Rises extent_cmp (f ∷ es) → Rises extent_cmp (inserted_by (λ g. g.at) e es) → (b : Bool) → (b ≡ true → e.at ≤ f.at) → (b ≡ false → f.at < e.at) → Rises extent_cmp (cond b (e ∷ f ∷ es) (f ∷ inserted_by (λ g. g.at) e es))
rises_either e f es ranks rises rest true below above =
    let first : e.at ≤ f.at = below refl in (
      (
        rank_above f e first ranks.0,
        all_both (λ g. is_lt (extent_cmp g f) ≡ false) (λ g. e.rank < g.rank) (λ g. is_lt (extent_cmp g e) ≡ false)
            (λ g later rank. let second : f.at ≤ g.at = position_from g f later in rank_above g e (omega arith) rank) es rises.0 ranks.1,
      ),
      rises,
    )
rises_either e f es ranks rises rest false below above =
    (all-inserted_by (λ g. g.at) (λ g. is_lt (extent_cmp g f) ≡ false) e es (position_above e f (above refl)) rises.0, rest)

rises-inserted_by : (e : Extent) (es : List Extent) → AllByRecursion (λ g. e.rank < g.rank) es → Rises extent_cmp es → Rises extent_cmp (inserted_by (λ g. g.at) e es)
rises-inserted_by e [] ranks rises = (tt, tt)
rises-inserted_by e (f ∷ es) ranks rises =
    rises_either e f es ranks rises (rises-inserted_by e es ranks.1 rises.1) (nat_le e.at f.at) (leb-true e.at f.at) (leb-false e.at f.at)

-- extents in the order of their ranks
abbrev Ascends : List Extent → Type 0
Ascends [] = ⊤
Ascends (e ∷ es) = AllByRecursion (λ f. e.rank < f.rank) es × Ascends es

rises-sorted_by : (es : List Extent) → Ascends es → Rises extent_cmp (sorted_by (λ e. e.at) es)
rises-sorted_by [] ascends = tt
rises-sorted_by (e ∷ es) ascends =
    rises-inserted_by e (sorted_by (λ f. f.at) es) (all-sorted_by (λ f. f.at) (λ f. e.rank < f.rank) es ascends.0) (rises-sorted_by es ascends.1)

ranks_from : (rank : ℕ) (ps : List PartAt) → AllByRecursion (λ e. rank ≤ e.rank) (map extent_of (ranked_from rank ps))
unfolding ranked_from extent_of
ranks_from rank [] = tt
ranks_from rank (p ∷ ps) =
    let later = all_weaker (λ e. rank + 1 ≤ e.rank) (λ e. rank ≤ e.rank) (λ e h. omega arith) _ (ranks_from (rank + 1) ps) in
    elim (has_bytes p) as (λ b. AllByRecursion (λ e. rank ≤ e.rank) (map extent_of (cond b ((rank, p) ∷ ranked_from (rank + 1) ps) (ranked_from (rank + 1) ps)))) [
      | true ↦ (omega arith, later)
      | false ↦ later
    ]

ascends-ranked_from : (rank : ℕ) (ps : List PartAt) → Ascends (map extent_of (ranked_from rank ps))
unfolding ranked_from extent_of
ascends-ranked_from rank [] = tt
ascends-ranked_from rank (p ∷ ps) =
    let later = all_weaker (λ e. rank + 1 ≤ e.rank) (λ e. rank < e.rank) (λ e h. omega arith) _ (ranks_from (rank + 1) ps) in
    elim (has_bytes p) as (λ b. Ascends (map extent_of (cond b ((rank, p) ∷ ranked_from (rank + 1) ps) (ranked_from (rank + 1) ps)))) [
      | true ↦ (later, ascends-ranked_from (rank + 1) ps)
      | false ↦ ascends-ranked_from (rank + 1) ps
    ]

-- what the sort leaves
pub sorted_extents : (ps : List PartAt) (es : List Extent) → IsPermutation (extents_of ps) es → IsSorted extent_cmp es → es ≡ sorted_extents_of ps
unfolding extents_of extent_of sorted_extents_of
sorted_extents ps es moved sorted =
    unique extent_cmp extent_cmp_total extent_cmp_exact es (sorted_by (λ e. e.at) (extents_of ps))
    (Rises-from_sorted extent_cmp extent_cmp_total es sorted)
    (rises-sorted_by (extents_of ps) (ascends-ranked_from 0 ps))
    (λ f. sum_by-IsPermutation f (extents_of ps) es moved ∙ sym (sum_by-sorted_by (λ e. e.at) f (extents_of ps)))
    ∙ sym (map-sorted_by extent_of (λ e. e.at) (ranked_from 0 ps))

-- the same as the code calls it
pub sorted_given : (ps : List PartAt) (given es : List Extent) → given ≡ extents_of ps → IsPermutation given es → IsSorted extent_cmp es → es ≡ sorted_extents_of ps
sorted_given ps given es given_is moved sorted = sorted_extents ps es (subst (λ (l : List Extent). IsPermutation l es) given_is moved) sorted

-- the ranks of the sorted extents
pub ranks_are : (ps : List PartAt) → map (λ (e : Extent). e.rank) (sorted_extents_of ps) ≡ ranks_by_position ps
unfolding sorted_extents_of ranks_by_position extent_of
ranks_are ps = map-map (λ (e : Extent). e.rank) extent_of (ranked_listed ps)

-- the same as the code calls it
pub ranks_given : (ps : List PartAt) (es : List Extent) (ranks : List ℕ) → es ≡ sorted_extents_of ps → ranks ≡ map (λ (e : Extent). e.rank) es → ranks ≡ ranks_by_position ps
ranks_given ps es ranks es_is is = is ∙ ap (map (λ (e : Extent). e.rank)) es_is ∙ ranks_are ps

-- the extents of the parts from the rank on, as a loop makes them
rest_more : (ps : List PartAt) (rank : ℕ) (d : PartAt) (b : Bool) → rank < length ps → has_bytes (get_or ps rank d) ≡ b → map extent_of (ranked_from rank (drop rank ps)) ≡ map extent_of (cond b ((rank, get_or ps rank d) ∷ ranked_from (rank + 1) (drop (rank + 1) ps)) (ranked_from (rank + 1) (drop (rank + 1) ps)))
unfolding ranked_from
rest_more ps rank d b inside full =
    at_drop_more (λ l. map extent_of (ranked_from rank l)) ps rank d inside
    ∙ ap (λ b. map extent_of (cond b ((rank, get_or ps rank d) ∷ ranked_from (rank + 1) (drop (rank + 1) ps)) (ranked_from (rank + 1) (drop (rank + 1) ps)))) full

pub extents_none : (ps : List PartAt) (made : List Extent) → made ≡ [] → made ++ map extent_of (ranked_from 0 (drop 0 ps)) ≡ extents_of ps
unfolding extents_of
extents_none ps made made_is = ap (λ l. l ++ map extent_of (ranked_from 0 ps)) made_is

pub extents_more : (ps : List PartAt) (rank : ℕ) (d : PartAt) (made made' : List Extent) → rank < length ps → made ++ map extent_of (ranked_from rank (drop rank ps)) ≡ extents_of ps → has_bytes (get_or ps rank d) ≡ true → made' ≡ made ++ extent_of (rank, get_or ps rank d) ∷ [] → made' ++ map extent_of (ranked_from (rank + 1) (drop (rank + 1) ps)) ≡ extents_of ps
extents_more ps rank d made made' inside so_far full made_is =
    let later = map extent_of (ranked_from (rank + 1) (drop (rank + 1) ps)) in
    ap (λ l. l ++ later) made_is
    ∙ (append_assoc made (extent_of (rank, get_or ps rank d) ∷ []) later
    ∙ (ap (λ l. made ++ l) (sym (rest_more ps rank d true inside full)) ∙ so_far))

pub extents_same : (ps : List PartAt) (rank : ℕ) (d : PartAt) (made made' : List Extent) → rank < length ps → made ++ map extent_of (ranked_from rank (drop rank ps)) ≡ extents_of ps → has_bytes (get_or ps rank d) ≡ false → made' ≡ made → made' ++ map extent_of (ranked_from (rank + 1) (drop (rank + 1) ps)) ≡ extents_of ps
extents_same ps rank d made made' inside so_far empty made_is =
    ap (λ l. l ++ map extent_of (ranked_from (rank + 1) (drop (rank + 1) ps))) made_is
    ∙ (ap (λ l. made ++ l) (sym (rest_more ps rank d false inside empty)) ∙ so_far)

pub extents_all : (ps : List PartAt) (rank : ℕ) (made : List Extent) → length ps ≤ rank → made ++ map extent_of (ranked_from rank (drop rank ps)) ≡ extents_of ps → made ≡ extents_of ps
unfolding ranked_from
extents_all ps rank made outside so_far =
    sym (append-nil made) ∙ (ap (λ l. made ++ l) (sym (at_drop_all (λ l. map extent_of (ranked_from rank l)) ps rank outside)) ∙ so_far)

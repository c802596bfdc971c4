-- What the parts of an image are due, in the order of its plan.
use Rattle.std.proofs.Common.{◌≡◌, ℕ, zero, suc, ◌+◌, ◌-◌, ◌≤◌, Bool, true, false, ◌&&◌, ◌||◌, List, [], ◌∷◌, ◌++◌, length, Option, Some, None, refl, sym, ap, ◌∙◌, subst, arith}
use Rattle.std.specs.Prelude.{nat_lt, if◌then◌else◌, map, slice_get, is_none, sum_by, cond}
use Rattle.std.specs.List.{range_with_len, enumerate_from, filter, AllByRecursion}
use Rattle.std.proofs.lemmas.Bool.{ltb-false}
use Rattle.std.proofs.lemmas.List.{length-map, length-append}
use Rattle.std.proofs.lemmas.List.FromFn.{length-range_with_len}
use Rattle.std.proofs.lemmas.List.Sums.{sum_by-cons}
use Rattle.elf_types.specs.declared.records.Class.{Class}
use Rattle.elf_types.specs.declared.records.Order.{Order}
use Rattle.elf_object.specs.elf_xlate.declared.content.Items.{Items}
use Rattle.elf_object.specs.elf_layout.Layout.{rounded_up, end_after, in_order_from, standing}
use Rattle.elf_object.specs.elf_layout.Meeting.{has_bytes, ranks_by_position}
use Rattle.elf_object.specs.elf_layout.declared.parts.PartAt.{PartAt}
use Rattle.elf_object.specs.Blocks.{block_end, stacked, last_end}
use Rattle.elf_object.specs.Object.{Object, Section, Piece, section_at, has_file_bytes, home_is_clean}
use Rattle.elf_object.specs.Joined.{piece_bytes, aligned_pieces, piece_blocks, pieces_end, file_bytes}
use Rattle.elf_object.specs.Layout.{section_part, table_part, section_numbers, parts_of, placed_parts}
use Rattle.elf_object.specs.Due.{is_loaded, home_due, homes_due}
use Rattle.elf_object.specs.Valid.{IsObject}
use Rattle.law_object.proofs.ImageLaws.{length-joined, file_bytes_from}
use Rattle.law_object.proofs.KeepLaws.{section_at_is}
use Rattle.law_object.proofs.StandLaws.{section_at-past}
use Rattle.law_object.specs.Writing.Plan.{section_due, rank_due}
use Rattle.law_object.specs.Writing.Writing.{PlanDue}
use Rattle.law_object.proofs.writing.LineLaws.{line_within}
use Rattle.law_object.proofs.writing.PieceLaws.{stacked_line}
use Rattle.law_object.proofs.writing.SumLaws.{CountsNone, range_more, first_two, sum_shifted, sum_by_position}

-- ---- A section without bytes is due nothing

-- pieces end behind the first one
first_within : (align : ℕ) (bytes : List ℕ) (ps : List (ℕ × List ℕ))
    → length bytes ≤ last_end 0 (stacked 0 ((align, bytes) ∷ ps))
unfolding stacked last_end block_end
first_within align bytes ps =
    behind_within (rounded_up 0 align) (length bytes) (last_end (rounded_up 0 align + length bytes)
    (stacked (rounded_up 0 align + length bytes) ps))
    (line_within (last_end (rounded_up 0 align + length bytes)
    (stacked (rounded_up 0 align + length bytes) ps))
    (rounded_up 0 align + length bytes) (stacked (rounded_up 0 align + length bytes) ps)
    (stacked_line (rounded_up 0 align + length bytes) ps))
  where
    behind_within : (a b c : ℕ) → a + b ≤ c → b ≤ c
    behind_within a b c h = omega (arith, h)

-- the bytes of a clean home piece are within those of its section
clean_within : (class : Class) (order : Order) (c : Section) → home_is_clean c ≡ true
    → length c.raw ≤ last_end 0 (stacked 0 (aligned_pieces class order c))
unfolding home_is_clean aligned_pieces piece_bytes
clean_within class order c clean = by_pieces c.pieces clean
  where
    by_own : (p : Piece) (ps : List (ℕ × List ℕ)) (own : Option Items) → p.own ≡ own
        → is_none own ≡ true
        → length c.raw ≤ last_end 0 (stacked 0 ((p.align, piece_bytes class order c.raw p) ∷ ps))
    by_own p ps None e clean =
        let same : piece_bytes class order c.raw p ≡ c.raw = rw e refl in
        subst (λ (l : List ℕ). length c.raw ≤ last_end 0 (stacked 0 ((p.align, l) ∷ ps))) (sym same)
        (first_within p.align c.raw ps)
    by_own p ps (Some items) e clean = cc

    by_pieces : (l : List Piece)
        → elim (slice_get l 0) [ None ↦ false | Some p ↦ is_none p.own ] ≡ true
        → length c.raw
        ≤ last_end 0 (stacked 0 (map (λ p. (p.align, piece_bytes class order c.raw p)) l))
    by_pieces [] clean = cc
    by_pieces (p ∷ ps) clean =
        by_own p (map (λ q. (q.align, piece_bytes class order c.raw q)) ps) p.own refl clean

no_raw : (o : Object) (s : ℕ) → has_bytes (section_part o s) ≡ false
    → has_file_bytes s (section_at o s) ≡ true → home_is_clean (section_at o s) ≡ true
    → length (section_at o s).raw ≡ 0
unfolding has_bytes section_part pieces_end piece_blocks
no_raw o s empty filled clean =
    let c : Section = section_at o s in
    let is = file_bytes_from s c filled in
    let none : nat_lt 0 (length (file_bytes o s)) ≡ false =
    ap (λ (b : Bool). b && nat_lt 0 (length (file_bytes o s))) (sym is.1) ∙ empty in
    let size = length-joined o s filled in
    let within = clean_within o.header.class o.header.order c clean in
    let nothing = ltb-false 0 (length (file_bytes o s)) none in
    omega (arith, size, within, nothing)

unread_home : (o : Object) (loaded : List Bool) (s : ℕ) → IsObject o
    → length (section_at o s).raw ≡ 0 → home_due o loaded s ≡ 0
unfolding home_due
unread_home o loaded s is none =
    by_test (is_loaded loaded s) (section_at o s).home.out refl
  where
    by_test : (held out : Bool) → (section_at o s).home.out ≡ out
        → (if held || out then 0 else (section_at o s).home.len) ≡ 0
    by_test true out e = refl
    by_test false true e = refl
    by_test false false e = sym ((section_at_is o s is).home.inside e) ∙ none

empty_section : (o : Object) (loaded : List Bool) (s : ℕ) → IsObject o
    → has_bytes (section_part o s) ≡ false → section_due o loaded s ≡ 0
unfolding section_due
empty_section o loaded s is empty =
    by_test (has_file_bytes s (section_at o s)) (home_is_clean (section_at o s)) refl refl
  where
    by_test : (a b : Bool) → has_file_bytes s (section_at o s) ≡ a
        → home_is_clean (section_at o s) ≡ b → (if a && b then home_due o loaded s else 0) ≡ 0
    by_test true true f c = unread_home o loaded s is (no_raw o s empty f c)
    by_test true false f c = refl
    by_test false b f c = refl

-- no section stands at an index past them
past_due : (o : Object) (loaded : List Bool) (s : ℕ) → length o.sections ≤ s
    → section_due o loaded s ≡ 0
unfolding section_due home_is_clean
past_due o loaded s past =
    let absent = section_at-past o s past in
    ap (λ (c : Section). if has_file_bytes s c && home_is_clean c then home_due o loaded s else 0)
    absent
    ∙ by_test (has_file_bytes s _)
  where
    by_test : (b : Bool) → (if b && false then home_due o loaded s else 0) ≡ 0
    by_test true = refl
    by_test false = refl

-- section 0 has no bytes in the file
first_due : (o : Object) (loaded : List Bool) → section_due o loaded 0 ≡ 0
unfolding section_due has_file_bytes
first_due o loaded = refl

-- ---- Each part

sections_count : (o : Object) (loaded : List Bool) (a n : ℕ) → IsObject o
    → length o.sections ≤ a + n
    → AllByRecursion (CountsNone (rank_due o loaded))
    (enumerate_from (a + 1) (map (section_part o) (range_with_len a n) ++ table_part o ∷ []))
unfolding rank_due
sections_count o loaded a zero is past =
    let at : a + 1 - 1 ≡ a = omega arith in
    ((λ empty. ap (section_due o loaded) at ∙ past_due o loaded a (omega arith)), tt)
sections_count o loaded a (suc n) is past =
    let at : a + 1 - 1 ≡ a = omega arith in (
      (λ empty. ap (section_due o loaded) at ∙ empty_section o loaded a is empty),
      sections_count o loaded (a + 1) n is (omega arith),
    )

all_count : (o : Object) (loaded : List Bool) → IsObject o
    → AllByRecursion (CountsNone (rank_due o loaded)) (enumerate_from 0 (parts_of o))
unfolding parts_of rank_due
all_count o loaded is = (
  (λ empty. first_due o loaded),
  (
    (λ empty. first_due o loaded),
    sections_count o loaded 1 (length o.sections - 1) is (omega arith),
  ),
)

ordered_count : (f : ℕ → ℕ) (n end : ℕ) (ps : List PartAt)
    → AllByRecursion (CountsNone f) (enumerate_from n ps)
    → AllByRecursion (CountsNone f) (enumerate_from n (in_order_from end ps))
unfolding in_order_from has_bytes
ordered_count f n end [] each = tt
ordered_count f n end (p ∷ ps) each = (each.0, ordered_count f (n + 1) (end_after end p) ps each.1)

length-ordered : (end : ℕ) (ps : List PartAt) → length (in_order_from end ps) ≡ length ps
unfolding in_order_from
length-ordered end [] = refl
length-ordered end (p ∷ ps) = ap suc (length-ordered (end_after end p) ps)

-- placing parts changes neither which are empty nor how many there are
record IsStanding (f : ℕ → ℕ) (ps qs : List PartAt) : Type 0 where
  pub none : AllByRecursion (CountsNone f) (enumerate_from 0 qs)
  pub len : length qs ≡ length ps

standing_count : (f : ℕ → ℕ) (layout : Bool) (ps : List PartAt)
    → AllByRecursion (CountsNone f) (enumerate_from 0 ps) → IsStanding f ps (standing ps layout)
unfolding standing
standing_count f true ps each = record { none = each; len = refl }
standing_count f false ps each =
    record { none = ordered_count f 0 0 ps each; len = length-ordered 0 ps }

pub length-parts : (o : Object) → length (parts_of o) ≡ 2 + (length o.sections - 1 + 1)
unfolding parts_of
length-parts o =
    let numbers = length-range_with_len 1 (length o.sections - 1) in
    let sections = length-map (section_numbers o) (section_part o) in
    let all = length-append (map (section_part o) (section_numbers o)) (table_part o ∷ []) in
    omega (arith, numbers, sections, all)

-- a sum over the ranks of the plan is one over all parts, where empty ones count nothing
pub sum_over_plan : (o : Object) (f : ℕ → ℕ)
    → AllByRecursion (CountsNone f) (enumerate_from 0 (parts_of o))
    → sum_by f (ranks_by_position (placed_parts o))
    ≡ sum_by f (range_with_len 0 (2 + (length o.sections - 1 + 1)))
unfolding placed_parts
sum_over_plan o f each =
    let stand = standing_count f o.layout (parts_of o) each in
    sum_by_position f (standing (parts_of o) o.layout) stand.none
    ∙ ap (λ (n : ℕ). sum_by f (range_with_len 0 n)) (stand.len ∙ length-parts o)

-- ---- All sections

all_sections_due : (o : Object) (loaded : List Bool)
    → sum_by (section_due o loaded) (range_with_len 1 (length o.sections - 1 + 1))
    ≡ sum_by (section_due o loaded) (range_with_len 0 (length o.sections))
all_sections_due o loaded = by_count (length o.sections) refl
  where
    by_count : (n : ℕ) → length o.sections ≡ n
        → sum_by (section_due o loaded) (range_with_len 1 (n - 1 + 1))
        ≡ sum_by (section_due o loaded) (range_with_len 0 n)
    by_count zero e =
        let past : length o.sections ≤ 1 = omega (arith, e) in
        sum_by-cons (section_due o loaded) 1 [] ∙ ap (λ (k : ℕ). k + 0) (past_due o loaded 1 past)
    by_count (suc n) e =
        let past : length o.sections ≤ 1 + n = omega (arith, e) in
        let count : suc n - 1 + 1 ≡ n + 1 = omega arith in
        let more = range_more (section_due o loaded) 1 n in
        let last = past_due o loaded (1 + n) past in
        let first = first_due o loaded in
        let all = sum_by-cons (section_due o loaded) 0 (range_with_len 1 n) in
        ap (λ (k : ℕ). sum_by (section_due o loaded) (range_with_len 1 k)) count
        ∙ omega (arith, more, last, first, all)

-- the sections that hand on their homes
clean_due : (o : Object) (loaded : List Bool) (a n : ℕ)
    → sum_by (home_due o loaded)
    (filter (λ s. has_file_bytes s (section_at o s) && home_is_clean (section_at o s))
    (range_with_len a n))
    ≡ sum_by (section_due o loaded) (range_with_len a n)
unfolding section_due
clean_due o loaded a zero = refl
clean_due o loaded a (suc n) =
    by_test (has_file_bytes a (section_at o a) && home_is_clean (section_at o a)) refl
    (clean_due o loaded (a + 1) n)
  where
    test : ℕ → Bool
    test s = has_file_bytes s (section_at o s) && home_is_clean (section_at o s)

    due_is : (b : Bool) → test a ≡ b
        → section_due o loaded a ≡ (if b then home_due o loaded a else 0)
    due_is b e = ap (λ (t : Bool). if t then home_due o loaded a else 0) e

    by_test : (b : Bool) → test a ≡ b
        → sum_by (home_due o loaded) (filter test (range_with_len (a + 1) n))
        ≡ sum_by (section_due o loaded) (range_with_len (a + 1) n)
        → sum_by (home_due o loaded)
        (cond b (a ∷ filter test (range_with_len (a + 1) n))
        (filter test (range_with_len (a + 1) n)))
        ≡ sum_by (section_due o loaded) (range_with_len a (suc n))
    by_test true e rest =
        let here = sum_by-cons (home_due o loaded) a (filter test (range_with_len (a + 1) n)) in
        let there = sum_by-cons (section_due o loaded) a (range_with_len (a + 1) n) in
        let same = due_is true e in
        omega (arith, here, there, same, rest)
    by_test false e rest =
        let there = sum_by-cons (section_due o loaded) a (range_with_len (a + 1) n) in
        let same = due_is false e in
        omega (arith, there, same, rest)

pub plan_due : (o : Object) → PlanDue o
unfolding homes_due rank_due
plan_due o loaded ready =
    let count : ℕ = length o.sections - 1 + 1 in
    let due = rank_due o loaded in
    let front = first_two due count in
    let none = rank_none 0 (omega arith) in
    let nothing = rank_none 1 (omega arith) in
    let shifted = sum_shifted due (section_due o loaded) 1 count (λ k from. rank_of k) in
    sum_over_plan o due (all_count o loaded ready.object)
    ∙ omega (arith, front, none, nothing, shifted)
    ∙ all_sections_due o loaded
    ∙ sym (clean_due o loaded 0 (length o.sections))
  where
    rank_none : (rank : ℕ) → rank ≤ 1 → rank_due o loaded rank ≡ 0
    rank_none rank low =
        let at : rank - 1 ≡ 0 = omega arith in
        ap (section_due o loaded) at ∙ first_due o loaded

    rank_of : (k : ℕ) → rank_due o loaded (k + 1) ≡ section_due o loaded k
    rank_of k =
        let at : k + 1 - 1 ≡ k = omega arith in
        ap (section_due o loaded) at

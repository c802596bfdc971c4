-- Runs of pieces with bytes of their own, and what is noted of blocks of them.
use Rattle.std.proofs.Common.{◌≡◌, ◌≢◌, ◌⊎◌, inl, inr, ℕ, ◌+◌, ◌-◌, ◌*◌, ◌/◌, ◌%◌, ◌<◌, ◌≤◌, Bool, true, false, List, [], ◌∷◌, ◌++◌, length, take, drop, get_or, set, Option, Some, None, Result, Ok, Err, refl, sym, ap, ◌∙◌, subst, add-one, arith, length-append}
use Rattle.std.specs.Prelude.{◌==◌, nat_lt, is_ok, if◌then◌else◌}
use Rattle.std.specs.List.{list_all}
use Rattle.std.proofs.Math.Nat.{div-add-mod, mod-lt, mul-mod_right, mul-le-mul_left}
use Rattle.std.proofs.Math.Seq.{drop-cons}
use Rattle.std.proofs.lemmas.Bool.{and_from, eqb-true, eq-eqb, ltb-true, ltb-false, cases_lt}
use Rattle.std.proofs.lemmas.List.{take_more, take-take, take-append-drop, drop-drop, drop-take, take-append-le, drop-append-le, length-drop, length-set, drop-set-lt, drop-set-add, take-set-le, get_or-set_same, get_or-set_other, get_or_past, get_or_append_left, get_or_push, length_push}
use Rattle.std.proofs.lemmas.List.Folds.{list_all-append, list_all_more}
use Rattle.elf_types.specs.declared.records.Class.{Class}
use Rattle.elf_types.specs.declared.records.Kind.{Kind}
use Rattle.elf_types.specs.declared.records.Kind.TheVariants as kinds
use Rattle.elf_object.specs.elf_xlate.declared.content.Items.{Items}
use Rattle.elf_object.specs.elf_xlate.Translation.{items_kind, items_count, file_size}
use Rattle.elf_object.specs.elf_layout.Layout.{rounded_up}
use Rattle.elf_object.specs.Object.{Piece, home_piece}
use Rattle.elf_object.specs.Answers.{same_kind}
use Rattle.section_data.specs.declared.spans.Span.{Span}
use Rattle.section_data.specs.Sizes.{piece_size, piece_end, stacked_end}
use Rattle.section_data.specs.Spans.{owns_bytes, OwnsBytes, IsRun, IsSpan, IsNoted, AreNoted, AreAllNoted, span_end}

-- ---- Lists

take_both : {X : Type 0} (n m : ℕ) (l : List X) → take (n + m) l ≡ take n l ++ take m (drop n l)
take_both {X} n m l =
    sym (take-append-drop n (take (n + m) l))
    ∙ ap (λ (front : List X). front ++ drop n (take (n + m) l))
    (take-take n (n + m) l (omega arith))
    ∙ ap (λ (rest : List X). take n l ++ rest) (drop-take n m l)

-- ---- Where pieces end

-- pieces behind others
pub stacked_end_append : (class : Class) (len end : ℕ) (a b : List Piece)
    → stacked_end class len end (a ++ b) ≡ stacked_end class len (stacked_end class len end a) b
unfolding stacked_end
stacked_end_append class len end [] b = refl
stacked_end_append class len end (p ∷ a) b =
    stacked_end_append class len (piece_end class len end p) a b

pub stacked_end_none : (class : Class) (len end : ℕ) → stacked_end class len end [] ≡ end
unfolding stacked_end
stacked_end_none class len end = refl

stacked_end_one : (class : Class) (len end : ℕ) (p : Piece)
    → stacked_end class len end (p ∷ []) ≡ rounded_up end p.align + piece_size class len p
unfolding stacked_end piece_end
stacked_end_one class len end p = refl

-- how long bytes are does not rest on the class
pub own_size : (class : Class) (len : ℕ) (p : Piece) (n : ℕ) → OwnsBytes p n
    → piece_size class len p ≡ n
unfolding piece_size
own_size class len p n owns =
    let one : 1 * items_count owns.items ≡ items_count owns.items = omega arith in
    ap (λ (own : Option Items). elim own [
      | None ↦ len
      | Some items ↦ file_size (items_kind items) class (items_count items)
    ]) owns.own
    ∙ ap (λ (k : Kind). file_size k class (items_count owns.items)) owns.of_bytes
    ∙ one
    ∙ owns.count

pub own_bytes : (p : Piece) (n : ℕ) → OwnsBytes p n → owns_bytes p ≡ true
own_bytes p n owns =
    ap (λ (own : Option Items). elim own [
      | None ↦ false
      | Some items ↦ same_kind (items_kind items) kinds.Bytes
    ]) owns.own
    ∙ ap (λ (k : Kind). same_kind k kinds.Bytes) owns.of_bytes

-- ---- A run piece by piece

pub record IsSoFar (s : Span) (pieces : List Piece) (i : ℕ) : Type 0 where
  pub some : 0 < s.align
  pub bytes : list_all owns_bytes (take i pieces) ≡ true
  pub ends : (class : Class) (home_len end : ℕ)
      → stacked_end class home_len end (take i pieces) ≡ span_end s end

pub none_so_far : (s : Span) (pieces : List Piece) → 0 < s.align
    → ((end : ℕ) → span_end s end ≡ end) → IsSoFar s pieces 0
none_so_far s pieces some same = record {
  some = some;
  bytes = refl;
  ends = λ class home_len end. stacked_end_none class home_len end ∙ sym (same end);
}

pub one_more : (s next : Span) (pieces : List Piece) (i n : ℕ) (p : Piece) (align : ℕ)
    → IsSoFar s pieces i → i < length pieces → p ≡ get_or pieces i home_piece → align ≡ p.align
    → OwnsBytes p n → 0 < next.align
    → ((end : ℕ) → span_end next end ≡ rounded_up (span_end s end) align + n)
    → IsSoFar next pieces (i + 1)
one_more s next pieces i n p align so_far there is aligned owns some ends = record {
  some = some;
  bytes =
      list_all_more owns_bytes pieces i home_piece there
      ∙ and_from (list_all owns_bytes (take i pieces)) (owns_bytes (get_or pieces i home_piece))
      so_far.bytes (ap owns_bytes (sym is) ∙ own_bytes p n owns);
  ends = λ class home_len end.
      ap (stacked_end class home_len end) (take_more pieces i home_piece there)
      ∙ stacked_end_append class home_len end (take i pieces) (get_or pieces i home_piece ∷ [])
      ∙ ap (λ (q : Piece).
      stacked_end class home_len (stacked_end class home_len end (take i pieces)) (q ∷ [])) (sym is)
      ∙ stacked_end_one class home_len (stacked_end class home_len end (take i pieces)) p
      ∙ ap (λ (m : ℕ). rounded_up m p.align + piece_size class home_len p)
      (so_far.ends class home_len end)
      ∙ ap (λ (m : ℕ). rounded_up (span_end s end) p.align + m) (own_size class home_len p n owns)
      ∙ ap (λ (a : ℕ). rounded_up (span_end s end) a + n) (sym aligned)
      ∙ sym (ends end);
}

pub all_so_far : (s : Span) (pieces : List Piece) (i : ℕ) → IsSoFar s pieces i
    → take i pieces ≡ pieces → IsSpan s pieces
all_so_far s pieces i so_far all = record {
  bytes = ap (list_all owns_bytes) (sym all) ∙ so_far.bytes;
  ends = λ class home_len end.
      ap (stacked_end class home_len end) (sym all) ∙ so_far.ends class home_len end;
}

-- ---- Blocks

-- the pieces of a block, as they are cut out
pub block_is : (size : ℕ) (pieces : List Piece) (block from to : ℕ) (s : Span) (cut : List Piece)
    → from ≡ size * block → to ≡ from + size → to ≤ length pieces
    → cut ≡ take (to - from) (drop from pieces) → IsSpan s cut → IsNoted size block s pieces
block_is size pieces block from to s cut first last there is span = record {
  there = omega (arith, first, last, there);
  span =
      let count : to - from ≡ size = omega (arith, last) in
      subst (λ (l : List Piece). IsSpan s l)
      (is
      ∙ ap (λ (n : ℕ). take n (drop from pieces)) count
      ∙ ap (λ (n : ℕ). take size (drop n pieces)) first) span;
}

pub none_noted : (size : ℕ) (spans : List (Option Span)) (pieces : List Piece) → spans ≡ []
    → AreNoted size spans pieces
none_noted size spans pieces none i s found =
    let same = sym (ap (λ (l : List (Option Span)). get_or l i None) none) ∙ found in
    cc

-- what is noted stays so behind which pieces are added
pub noted_pushed : (size : ℕ) (spans : List (Option Span)) (pieces : List Piece) (p : Piece)
    → AreNoted size spans pieces → AreNoted size spans (pieces ++ p ∷ [])
noted_pushed size spans pieces p noted i s found =
    let was = noted i s found in
    let there = was.there in
    let longer = length-append pieces (p ∷ []) in
    let rest = length-drop (size * i) pieces in
    record {
      there = omega (arith, there, longer);
      span = subst (λ (l : List Piece). IsSpan s l)
          (sym (ap (take size) (drop-append-le (size * i) pieces (p ∷ []) (omega (arith, there)))
          ∙ take-append-le size (drop (size * i) pieces) (p ∷ []) (omega (arith, there, rest))))
          was.span;
    }

-- the same where there may be no memory for it
noted_pushed_if : {T E : Type 0} (r : Result T E) (size : ℕ) (spans : List (Option Span))
    (pieces after : List Piece) (p : Piece) → AreNoted size spans pieces
    → after ≡ (if is_ok r then pieces ++ p ∷ [] else pieces) → AreNoted size spans after
noted_pushed_if (Ok x) size spans pieces after p noted is =
    subst (λ (l : List Piece). AreNoted size spans l) (sym is)
    (noted_pushed size spans pieces p noted)
noted_pushed_if (Err e) size spans pieces after p noted is =
    subst (λ (l : List Piece). AreNoted size spans l) (sym is) noted

pub all_pushed : {T E : Type 0} (r : Result T E) (short middle long : List (Option Span))
    (pieces after : List Piece) (p : Piece) → AreAllNoted short middle long pieces
    → after ≡ (if is_ok r then pieces ++ p ∷ [] else pieces)
    → AreAllNoted short middle long after
all_pushed r short middle long pieces after p noted is = record {
  shorts = noted_pushed_if r 16 short pieces after p noted.shorts is;
  middles = noted_pushed_if r 512 middle pieces after p noted.middles is;
  longs = noted_pushed_if r 16384 long pieces after p noted.longs is;
}

-- a block is behind another one
behind : (size a b : ℕ) → a < b → size * a + size ≤ size * b
behind size a b less =
    let more : a + 1 ≤ b = omega (arith, less) in
    let scaled = mul-le-mul_left {m = a + 1} {n = b} size more in
    omega (arith, scaled)

-- the block of a place
block_of : (size p i q r : ℕ) → size * q + r ≡ p → r < size → size * i ≤ p → p < size * i + size
    → i ≡ q
block_of size p i q r parts rest from below = by_low (cases_lt i q)
  where
    by_high : q ≤ i → (q < i) ⊎ (i ≤ q) → i ≡ q
    by_high low (inl past) =
        let far = behind size q i past in absurd (omega (arith, far, parts, rest, from))
    by_high low (inr high) = omega (arith, low, high)

    by_low : (i < q) ⊎ (q ≤ i) → i ≡ q
    by_low (inl less) =
        let far = behind size i q less in absurd (omega (arith, far, parts, below))
    by_low (inr low) = by_high low (cases_lt q i)

-- a block without a piece stays where that is written
other_block : (size : ℕ) (pieces : List Piece) (p i : ℕ) (left : Piece) → 0 < size → i ≢ p / size
    → take size (drop (size * i) (set pieces p left)) ≡ take size (drop (size * i) pieces)
other_block size pieces p i left some other = by_place (cases_lt p (size * i))
  where
    past : size * i ≤ p → (p - size * i < size) ⊎ (size ≤ p - size * i) → size ≤ p - size * i
    past from (inl within) =
        let below : p < size * i + size = omega (arith, from, within) in
        absurd (other (block_of size p i (p / size) (p % size) (div-add-mod p size)
        (mod-lt p some) from below))
    past from (inr later) = later

    by_place : (p < size * i) ⊎ (size * i ≤ p)
        → take size (drop (size * i) (set pieces p left)) ≡ take size (drop (size * i) pieces)
    by_place (inl before) = ap (take size) (drop-set-lt (size * i) pieces p left before)
    by_place (inr from) =
        let place : size * i + (p - size * i) ≡ p = omega (arith, from) in
        let later = past from (cases_lt (p - size * i) size) in
        ap (λ (n : ℕ). take size (drop (size * i) (set pieces n left))) (sym place)
        ∙ ap (take size) (drop-set-add (size * i) pieces (p - size * i) left)
        ∙ take-set-le size (drop (size * i) pieces) (p - size * i) left later

pub noted_lent : (size : ℕ) (spans after : List (Option Span)) (pieces : List Piece) (p : ℕ)
    (left : Piece) → 0 < size → AreNoted size spans pieces
    → ((i : ℕ) (s : Span) → get_or after i None ≡ Some s
    → (get_or spans i None ≡ Some s) × (i ≢ p / size))
    → AreNoted size after (set pieces p left)
noted_lent size spans after pieces p left some noted forgets i s found =
    let known = forgets i s found in
    let was = noted i s known.0 in
    let there = was.there in
    let same = length-set pieces p left in
    record {
      there = omega (arith, there, same);
      span =
          subst (λ (l : List Piece). IsSpan s l)
          (sym (other_block size pieces p i left some known.1)) was.span;
    }

-- ---- What is noted, in its list

pub forgotten : (spans : List (Option Span)) (block i : ℕ) (s : Span) → block < length spans
    → get_or (set spans block None) i None ≡ Some s → (get_or spans i None ≡ Some s) × (i ≢ block)
forgotten spans block i s there found = by_place (i == block) refl
  where
    by_place : (b : Bool) → (i == block) ≡ b → (get_or spans i None ≡ Some s) × (i ≢ block)
    by_place true e =
        let same = eqb-true i block e in
        let none = sym (get_or-set_same spans block None None there)
        ∙ ap (λ (n : ℕ). get_or (set spans block None) n None) (sym same)
        ∙ found in
        cc
    by_place false e =
        let other : i ≢ block = λ same. let is = eq-eqb i block same in cc in
        (sym (get_or-set_other spans block i None None other) ∙ found, other)

pub untouched : (spans : List (Option Span)) (block i : ℕ) (s : Span) → length spans ≤ block
    → get_or spans i None ≡ Some s → (get_or spans i None ≡ Some s) × (i ≢ block)
untouched spans block i s past found = (found, λ same. missing same)
  where
    missing : i ≡ block → ⊥
    missing same =
        let none = sym (get_or_past spans i None (omega (arith, past, same))) ∙ found in cc

pub noted_set : (spans : List (Option Span)) (block i : ℕ) (span s : Span) → block < length spans
    → get_or (set spans block (Some span)) i None ≡ Some s
    → (get_or spans i None ≡ Some s) ⊎ ((i ≡ block) × (s ≡ span))
noted_set spans block i span s there found = by_place (i == block) refl
  where
    by_place : (b : Bool) → (i == block) ≡ b
        → (get_or spans i None ≡ Some s) ⊎ ((i ≡ block) × (s ≡ span))
    by_place true e =
        let same = eqb-true i block e in
        let is = sym (get_or-set_same spans block (Some span) None there)
        ∙ ap (λ (n : ℕ). get_or (set spans block (Some span)) n None) (sym same)
        ∙ found in
        inr (same, cc)
    by_place false e =
        let other : i ≢ block = λ same. let is = eq-eqb i block same in cc in
        inl (sym (get_or-set_other spans block i (Some span) None other) ∙ found)

pub noted_push : (spans : List (Option Span)) (block i : ℕ) (span s : Span) → block ≡ length spans
    → get_or (spans ++ Some span ∷ []) i None ≡ Some s
    → (get_or spans i None ≡ Some s) ⊎ ((i ≡ block) × (s ≡ span))
noted_push spans block i span s last found = by_place (cases_lt i (length spans))
  where
    by_end : (i ≡ block) ⊎ (block < i)
        → (get_or spans i None ≡ Some s) ⊎ ((i ≡ block) × (s ≡ span))
    by_end (inl same) =
        let is = sym (get_or_push spans (Some span) None i (sym (same ∙ last))) ∙ found in
        inr (same, cc)
    by_end (inr past) =
        let long = length_push spans (Some span) in
        let none =
        sym (get_or_past (spans ++ Some span ∷ []) i None (omega (arith, past, last, long)))
        ∙ found in
        cc

    by_place : (i < length spans) ⊎ (length spans ≤ i)
        → (get_or spans i None ≡ Some s) ⊎ ((i ≡ block) × (s ≡ span))
    by_place (inl before) =
        inl (sym (get_or_append_left spans (Some span ∷ []) None i before) ∙ found)
    by_place (inr from) = by_end (at_end (nat_lt block i) refl)
      where
        at_end : (b : Bool) → nat_lt block i ≡ b → (i ≡ block) ⊎ (block < i)
        at_end true e = inr (ltb-true block i e)
        at_end false e = let low = ltb-false block i e in inl (omega (arith, low, from, last))

-- the same where there may be no memory for it
pub noted_tried : {T E : Type 0} (r : Result T E) (spans after : List (Option Span)) (block i : ℕ)
    (span s : Span) → block ≡ length spans
    → after ≡ (if is_ok r then spans ++ Some span ∷ [] else spans)
    → get_or after i None ≡ Some s
    → (get_or spans i None ≡ Some s) ⊎ ((i ≡ block) × (s ≡ span))
noted_tried (Ok x) spans after block i span s last is found =
    noted_push spans block i span s last
    (ap (λ (l : List (Option Span)). get_or l i None) (sym is) ∙ found)
noted_tried (Err e) spans after block i span s last is found =
    inl (ap (λ (l : List (Option Span)). get_or l i None) (sym is) ∙ found)

-- after one is noted more
pub noted_more : (size : ℕ) (spans after : List (Option Span)) (pieces : List Piece) (block : ℕ)
    (span : Span) → AreNoted size spans pieces → IsNoted size block span pieces
    → ((i : ℕ) (s : Span) → get_or after i None ≡ Some s
    → (get_or spans i None ≡ Some s) ⊎ ((i ≡ block) × (s ≡ span)))
    → AreNoted size after pieces
noted_more size spans after pieces block span noted is notes i s found =
    by_case (notes i s found)
  where
    by_case : (get_or spans i None ≡ Some s) ⊎ ((i ≡ block) × (s ≡ span))
        → IsNoted size i s pieces
    by_case (inl was) = noted i s was
    by_case (inr new) =
        subst (λ (n : ℕ). IsNoted size n s pieces) (sym new.0)
        (subst (λ (t : Span). IsNoted size block t pieces) (sym new.1) is)

-- ---- Blocks of blocks

-- pieces behind others
span_both : (s next both : Span) (a b : List Piece) → IsSpan s a → IsSpan next b
    → ((end : ℕ) → span_end both end ≡ span_end next (span_end s end)) → IsSpan both (a ++ b)
span_both s next both a b first second ends = record {
  bytes =
      list_all-append owns_bytes a b
      ∙ and_from (list_all owns_bytes a) (list_all owns_bytes b) first.bytes second.bytes;
  ends = λ class home_len end.
      stacked_end_append class home_len end a b
      ∙ ap (λ (n : ℕ). stacked_end class home_len n b) (first.ends class home_len end)
      ∙ second.ends class home_len (span_end s end)
      ∙ sym (ends end);
}

-- what so many blocks from one on do to the end before them
pub record IsJoined (size from part : ℕ) (s : Span) (pieces : List Piece) : Type 0 where
  pub there : 0 < part → size * from + size * part ≤ length pieces
  pub span : IsSpan s (take (size * part) (drop (size * from) pieces))

pub none_joined : (size from : ℕ) (s : Span) (pieces : List Piece)
    → ((end : ℕ) → span_end s end ≡ end) → IsJoined size from 0 s pieces
none_joined size from s pieces same = record {
  there = λ some. omega (arith, some);
  span =
      let none : size * 0 ≡ 0 = omega arith in
      subst (λ (n : ℕ). IsSpan s (take n (drop (size * from) pieces))) (sym none)
      (record {
        bytes = refl;
        ends = λ class home_len end. stacked_end_none class home_len end ∙ sym (same end);
      });
}

pub joined_more : (size from part : ℕ) (s next both : Span) (pieces : List Piece)
    → IsJoined size from part s pieces → IsNoted size (from + part) next pieces
    → ((end : ℕ) → span_end both end ≡ span_end next (span_end s end))
    → IsJoined size from (part + 1) both pieces
joined_more size from part s next both pieces joined noted ends =
    let there = noted.there in
    let count : size * (part + 1) ≡ size * part + size = omega arith in
    let place : size * from + size * part ≡ size * (from + part) = omega arith in
    record {
      there = λ some. omega (arith, there);
      span =
          subst (λ (l : List Piece). IsSpan both l)
          (sym (ap (λ (n : ℕ). take n (drop (size * from) pieces)) count
          ∙ take_both (size * part) size (drop (size * from) pieces)
          ∙ ap (λ (l : List Piece). take (size * part) (drop (size * from) pieces) ++ take size l)
          (drop-drop (size * part) (size * from) pieces
          ∙ ap (λ (n : ℕ). drop n pieces) place)))
          (span_both s next both (take (size * part) (drop (size * from) pieces))
          (take size (drop (size * (from + part)) pieces)) joined.span noted.span ends);
    }

-- all that there are in a block
pub all_joined : (size block from part : ℕ) (s : Span) (pieces : List Piece) → from ≡ block * 32
    → part ≡ 32 → IsJoined size from part s pieces → IsNoted (size * 32) block s pieces
all_joined size block from part s pieces first all joined =
    let there = joined.there (omega (arith, all)) in
    let front : size * from ≡ size * 32 * block =
    ap (λ (n : ℕ). size * n) first ∙ regrouped in
    let count : size * part ≡ size * 32 = ap (λ (n : ℕ). size * n) all in
    record {
      there = omega (arith, there, front, count);
      span =
          subst (λ (n : ℕ). IsSpan s (take n (drop (size * 32 * block) pieces))) count
          (subst (λ (n : ℕ). IsSpan s (take (size * part) (drop n pieces))) front joined.span);
    }
  where
    regrouped : size * (block * 32) ≡ size * 32 * block
    regrouped = omega arith

-- ---- A run block by block

pub run_none : (before : ℕ) (pieces : List Piece) → IsRun before pieces 0 before
run_none before pieces = record {
  few = omega arith;
  bytes = refl;
  ends = λ class home_len. stacked_end_none class home_len before;
}

-- with pieces behind it
run_more : (before : ℕ) (pieces : List Piece) (count more end next : ℕ) (s : Span)
    → IsRun before pieces count end → count + more ≤ length pieces
    → IsSpan s (take more (drop count pieces)) → next ≡ span_end s end
    → IsRun before pieces (count + more) next
run_more before pieces count more end next s run there span is =
    let cut = take_both count more pieces in
    record {
      few = there;
      bytes =
          ap (list_all owns_bytes) cut
          ∙ list_all-append owns_bytes (take count pieces) (take more (drop count pieces))
          ∙ and_from (list_all owns_bytes (take count pieces))
          (list_all owns_bytes (take more (drop count pieces))) run.bytes span.bytes;
      ends = λ class home_len.
          ap (stacked_end class home_len before) cut
          ∙ stacked_end_append class home_len before (take count pieces)
          (take more (drop count pieces))
          ∙ ap (λ (n : ℕ). stacked_end class home_len n (take more (drop count pieces)))
          (run.ends class home_len)
          ∙ span.ends class home_len end
          ∙ sym is;
    }

pub run_block : (size before : ℕ) (pieces : List Piece) (block count end next : ℕ) (s : Span)
    → IsRun before pieces count end → count ≡ size * block → IsNoted size block s pieces
    → next ≡ span_end s end → IsRun before pieces (count + size) next
run_block size before pieces block count end next s run at noted is =
    let there = noted.there in
    run_more before pieces count size end next s run (omega (arith, there, at))
    (subst (λ (n : ℕ). IsSpan s (take size (drop n pieces))) (sym at) noted.span) is

-- the place where the blocks of a length go on
pub first_block : (size count : ℕ) → count % size ≡ 0 → count ≡ size * (count / size)
first_block size count whole =
    let parts = div-add-mod count size in omega (arith, parts, whole)

pub next_whole : (size count block : ℕ) → count ≡ size * block → (count + size) % size ≡ 0
next_whole size count block at =
    let next : count + size ≡ size * (block + 1) = omega (arith, at) in
    ap (λ (n : ℕ). n % size) next ∙ mul-mod_right size (block + 1)

-- ---- A run piece by piece

pub one_span : (s : Span) (p : Piece) (n : ℕ) → OwnsBytes p n → s.before ≡ 0 → s.align ≡ p.align
    → s.len ≡ n → IsSpan s (p ∷ [])
one_span s p n owns none aligned long = record {
  bytes = and_from (owns_bytes p) true (own_bytes p n owns) refl;
  ends = λ class home_len end.
      let start : end + s.before ≡ end = omega (arith, none) in
      stacked_end_one class home_len end p
      ∙ ap (λ (m : ℕ). rounded_up end p.align + m)
      (own_size class home_len p n owns ∙ sym long)
      ∙ ap (λ (a : ℕ). rounded_up end a + s.len) (sym aligned)
      ∙ ap (λ (m : ℕ). rounded_up m s.align + s.len) (sym start);
}

pub run_piece : (before : ℕ) (pieces : List Piece) (i end next : ℕ) (s : Span) (p : Piece)
    → IsRun before pieces i end → i < length pieces → p ≡ get_or pieces i home_piece
    → IsSpan s (p ∷ []) → next ≡ span_end s end → IsRun before pieces (i + 1) next
run_piece before pieces i end next s p run there is span ends =
    let read : drop i pieces ≡ get_or pieces i home_piece ∷ drop (i + 1) pieces =
    rw add-one (drop-cons pieces i home_piece there) in
    let first = read ∙ ap (λ (q : Piece). q ∷ drop (i + 1) pieces) (sym is) in
    run_more before pieces i 1 end next s run (omega (arith, there))
    (subst (λ (l : List Piece). IsSpan s (take 1 l)) (sym first) span) ends

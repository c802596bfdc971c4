-- Ranges of bytes as the pieces of parts.
use Rattle.std.proofs.Common.{◌≡◌, ℕ, zero, suc, ◌+◌, ◌<◌, ◌≤◌, Bool, true, false, List, [], ◌∷◌, length, take, drop, get_or, Option, Some, None, Result, Ok, Err, refl, sym, ap, ◌∙◌, subst, arith, length-take, length-drop}
use Rattle.std.specs.Prelude.{if◌then◌else◌, ◌==◌, is_some, IfSome, IsTrue, OnOk}
use Rattle.std.proofs.lemmas.List.{length-replicate}
use Rattle.elf_types.specs.declared.errors.ElfError.{ElfError}
use Rattle.elf_types.specs.declared.records.Part.{Part}
use Rattle.elf_outside.specs.Asks.{Asks, Leaves}
use Rattle.elf_outside.specs.declared.sources.Source.{Ghosts}
use Rattle.elf_outside.proofs.RangeLemmas.{take-drop-range}
use Rattle.elf_update_to.specs.law_object.Writing.Plan.{places_below}
use Rattle.elf_update_to.specs.elf_descriptor.Views.{source_bytes}
use Rattle.elf_update_to.specs.declared.parts.Origin.{Origin}
use Rattle.elf_update_to.specs.declared.parts.Origin.TheVariants.{Piece, Base}
use Rattle.elf_update_to.specs.declared.parts.PieceExtent.{PieceExtent}
use Rattle.elf_update_to.specs.Origins.{absent_piece, origin_bytes, origin_due, ReadyFor, IsExtent, CopiesBy}
use Rattle.elf_update_to.proofs.CopyLaws.{base_bytes}
use Rattle.elf_update_to.proofs.DescriptorLaws.{one_within, one_copied, one_extent, none_within}
use Rattle.rebuild_image.specs.declared.ranges.ranges.ByteRange.{ByteRange}
use Rattle.rebuild_image.specs.declared.ranges.parts.RangedParts.{RangedParts}
use Rattle.rebuild_image.specs.Ranges.Ranges.{bytes_under, range_bytes, IsInside, range_due, range_at, pieces_at, LiesInside, due_at, range_piece_due, KeptSource, kept_of_source, source_faults, source_taken, KeptRanges, kept_of_parts, ranged_pieces, ranged_base, ranged_due, AreInside, parts_faults, parts_taken}

-- ---- A range

module _ (held base : List ℕ) (range : ByteRange) where
  pub under_held : range.held ≡ true → bytes_under held base range ≡ held
  under_held is = ap (λ (b : Bool). if b then held else base) is

  pub under_base : range.held ≡ false → bytes_under held base range ≡ base
  under_base is = ap (λ (b : Bool). if b then held else base) is

  -- a range of it lies in the bytes that it is one of
  pub part_inside : (bytes : List ℕ) (from n : ℕ) → bytes_under held base range ≡ bytes
      → IsInside held base range → from + n ≤ range.len → range.at + from + n ≤ length bytes
  part_inside bytes from n under inside there =
      let long = ap (λ (l : List ℕ). length l) under in omega (arith, long, inside, there)

  pub part_copied : (bytes : List ℕ) (from n : ℕ) (out : List ℕ)
      → bytes_under held base range ≡ bytes
      → from + n ≤ range.len → out ≡ take n (drop (range.at + from) bytes)
      → out ≡ take n (drop from (range_bytes held base range))
  part_copied bytes from n out under there put =
      put ∙ ap (λ (l : List ℕ). take n (drop (range.at + from) l)) (sym under)
      ∙ sym (take-drop-range (bytes_under held base range) range.at range.len from n there)

  pub range_long : IsInside held base range → length (range_bytes held base range) ≡ range.len
  range_long inside =
      let part = length-take range.len (drop range.at (bytes_under held base range)) in
      let rest = length-drop range.at (bytes_under held base range) in
      omega (arith, part, rest, inside)

pub base_copied : {T : Type 0} (held base : List ℕ) (range : ByteRange) (r : Result T ElfError)
    (from n : ℕ) (out : List ℕ) (told : Type 0) → range.held ≡ false → from + n ≤ range.len
    → (told → OnOk r (out ≡ take n (drop (range.at + from) base)))
    → told → OnOk r (out ≡ take n (drop from (range_bytes held base range)))
base_copied held base range (Ok x) from n out told is there put known =
    part_copied held base range base from n out (under_base held base range is) there (put known)
base_copied held base range (Err e) from n out told is there put known = tt

pub base_due : (range : ByteRange) (n : ℕ) → range.held ≡ false → n ≤ (if range.held then 0 else n)
base_due range n is =
    subst (λ (b : Bool). n ≤ (if b then 0 else n)) (sym is) (let all : n ≤ n = omega arith in all)

-- ---- A piece of a part, of which this is the range

first_is : (bytes : List ℕ) (p from n : ℕ) → 0 < n
    → from + n ≤ length (get_or ((1, bytes) ∷ []) p absent_piece).1 → p ≡ 0
first_is bytes zero from n some there = refl
first_is bytes (suc p) from n some there = absurd (omega (arith, some, there))

module _ (held base : List ℕ) (o : Option ByteRange) (range : ByteRange) (is : o ≡ Some range) where
  pub inside_is : LiesInside held base o → IsInside held base range
  inside_is inside = subst (λ (x : Option ByteRange). LiesInside held base x) is inside

  module _ (p from n : ℕ) (some : 0 < n)
      (there : from + n ≤ length (get_or (pieces_at held base o) p absent_piece).1) where
    in_first : from + n ≤ length (get_or ((1, range_bytes held base range) ∷ []) p absent_piece).1
    in_first =
        subst (λ (x : Option ByteRange). from + n ≤ length (get_or
        (pieces_at held base x) p absent_piece).1)
        is there

    pub piece_within : from + n ≤ range.len
    piece_within =
        let all = one_within (range_bytes held base range) p from n some in_first in
        let long = length-take range.len (drop range.at (bytes_under held base range)) in
        omega (arith, all, long)

    pub piece_copied : {T : Type 0} (r : Result T ElfError) (out : List ℕ) (told : Type 0)
        → (told → OnOk r (out ≡ take n (drop from (range_bytes held base range))))
        → told → OnOk r (out ≡ take n (drop from (get_or (pieces_at held base o) p absent_piece).1))
    piece_copied (Err e) out told put known = tt
    piece_copied (Ok x) out told put known =
        subst (λ (x : Option ByteRange).
        out ≡ take n (drop from (get_or (pieces_at held base x) p absent_piece).1)) (sym is)
        (one_copied (range_bytes held base range) p from n out some in_first (put known))

    pub piece_asked : (if range.held then 0 else n) ≤ range_piece_due o p from (from + n)
    piece_asked =
        let first = first_is (range_bytes held base range) p from n some in_first in
        let due : (if p == 0 then due_at o else 0) ≡ range_due range =
        ap (λ (q : ℕ). if q == 0 then due_at o else 0) first ∙ ap due_at is in
        let within = piece_within in
        subst (λ (m : ℕ). (if range.held then 0 else n) ≤ places_below m from (from + n)) (sym due)
        (by_held range.held)
      where
        by_held : (b : Bool) → (if b then 0 else n) ≤ places_below
            (if b then 0 else range.len) from (from + n)
        by_held true = omega arith
        by_held false = let within = piece_within in omega (arith, within)

pub pieces_count : (held base : List ℕ) (o : Option ByteRange) (range : ByteRange) → o ≡ Some range
    → 1 ≡ length (pieces_at held base o)
pieces_count held base o range is = sym (ap (λ (x : Option ByteRange). length
    (pieces_at held base x)) is)

pub no_pieces : (held base : List ℕ) (o : Option ByteRange) → o ≡ None
    → 0 ≡ length (pieces_at held base o)
no_pieces held base o is = sym (ap (λ (x : Option ByteRange). length (pieces_at held base x)) is)

pub piece_extent : (held base : List ℕ) (o : Option ByteRange) (range : ByteRange) (p : ℕ)
    (extent : PieceExtent) → o ≡ Some range → extent.align ≡ 1 → extent.len ≡ range.len
    → LiesInside held base o → p < length (pieces_at held base o)
    → IsExtent extent (get_or (pieces_at held base o) p absent_piece)
piece_extent held base o range p extent is align len inside there =
    let first = subst (λ (x : Option ByteRange). p < length (pieces_at held base x)) is there in
    let long = range_long held base range (inside_is held base o range is inside) in
    subst (λ (x : Option ByteRange). IsExtent extent (get_or
    (pieces_at held base x) p absent_piece))
    (sym is)
    (one_extent (range_bytes held base range) p extent first align (len ∙ sym long))

pub none_has_no_piece : (held base : List ℕ) (o : Option ByteRange) (p : ℕ) → o ≡ None
    → p < length (pieces_at held base o) → ⊥
none_has_no_piece held base o p is there =
    let none = subst (λ (x : Option ByteRange). p < length (pieces_at held base x)) is there in
    absurd (omega (arith, none))

pub none_there : (held base : List ℕ) (o : Option ByteRange) (p from n : ℕ) → o ≡ None → 0 < n
    → from + n ≤ length (get_or (pieces_at held base o) p absent_piece).1 → ⊥
none_there held base o p from n is some there =
    none_within p from n some
    (subst (λ (x : Option ByteRange). from + n ≤ length (get_or
    (pieces_at held base x) p absent_piece).1)
    is there)

-- ---- A part

pub part_count : (k : KeptRanges) (of : Part) (o : Option ByteRange) (n : ℕ)
    → o ≡ range_at k.ranges of
    → ((held base : List ℕ) → n ≡ length (pieces_at held base o))
    → n ≡ length (ranged_pieces k of)
part_count k of o n range count =
    count k.held k.source.base
    ∙ ap (λ (x : Option ByteRange). length (pieces_at k.held k.source.base x)) range

pub part_extent : (k : KeptRanges) (of : Part) (o : Option ByteRange) (p : ℕ) (extent : PieceExtent)
    → o ≡ range_at k.ranges of → AreInside k → p < length (ranged_pieces k of)
    → ((held base : List ℕ) (i : ℕ) → LiesInside held base o → i < length (pieces_at held base o)
    → IsExtent extent (get_or (pieces_at held base o) i absent_piece))
    → IsExtent extent (get_or (ranged_pieces k of) p absent_piece)
part_extent k of o p extent range inside there is =
    subst (λ (x : Option ByteRange).
    IsExtent extent (get_or (pieces_at k.held k.source.base x) p absent_piece)) range
    (is k.held k.source.base p
    (subst (λ (x : Option ByteRange). LiesInside k.held k.source.base x) (sym range) (inside of))
    (subst (λ (x : Option ByteRange). p < length (pieces_at k.held k.source.base x))
    (sym range) there))

-- ---- Where bytes come from

module _ (k : KeptRanges) (of : Origin) (part : Part) (p : ℕ) (o : Option ByteRange)
    (is : of ≡ Piece part p) (range : o ≡ range_at k.ranges part) where
  pub origin_inside : ReadyFor (AreInside k) of → LiesInside k.held k.source.base o
  origin_inside ready =
      let all : AreInside k = subst (λ (x : Origin). ReadyFor (AreInside k) x) is ready in
      subst (λ (x : Option ByteRange). LiesInside k.held k.source.base x) (sym range) (all part)

  pub origin_within : (n : ℕ) → n ≤ length (origin_bytes (ranged_pieces k) (ranged_base k) of)
      → n ≤ length (get_or (pieces_at k.held k.source.base o) p absent_piece).1
  origin_within n there =
      subst (λ (x : Option ByteRange). n ≤ length (get_or
      (pieces_at k.held k.source.base x) p absent_piece).1)
      (sym range)
      (subst (λ (x : Origin). n ≤ length (origin_bytes (ranged_pieces k)
      (ranged_base k) x)) is there)

  pub origin_copied : {T : Type 0} (r : Result T ElfError) (from n : ℕ) (out : List ℕ)
      (told : Type 0)
      → (told → OnOk r (out ≡ take n (drop from (get_or
      (pieces_at k.held k.source.base o) p absent_piece).1)))
      → told → OnOk r (out ≡ take n (drop from (origin_bytes (ranged_pieces k) (ranged_base k) of)))
  origin_copied r from n out told put known =
      subst (λ (x : Origin).
      OnOk r (out ≡ take n (drop from (origin_bytes (ranged_pieces k) (ranged_base k) x)))) (sym is)
      (subst (λ (x : Option ByteRange).
      OnOk r (out ≡ take n (drop from (get_or (pieces_at k.held k.source.base x) p absent_piece).1)))
      range (put known))

  pub origin_asked : (from to : ℕ) → range_piece_due o p from to
      ≡ places_below (origin_due (ranged_due k) (length (ranged_base k)) of) from to
  origin_asked from to =
      ap (λ (x : Option ByteRange). range_piece_due x p from to) range
      ∙ sym (ap (λ (x : Origin).
      places_below (origin_due (ranged_due k) (length (ranged_base k)) x) from to) is)

module _ (k : KeptRanges) (of : Origin) (is : of ≡ Base) where
  pub between_within : (n : ℕ) → n ≤ length (origin_bytes (ranged_pieces k) (ranged_base k) of)
      → n ≤ length (ranged_base k)
  between_within n there =
      subst (λ (x : Origin). n ≤ length (origin_bytes (ranged_pieces k) (ranged_base k) x)) is there

  pub between_in_base : (n : ℕ) → n ≤ length (origin_bytes (ranged_pieces k) (ranged_base k) of)
      → n ≤ length k.source.base
  between_in_base n there =
      let within = between_within n there in
      let long = length-take k.kept k.source.base in
      omega (arith, within, long)

  pub between_copied : {T : Type 0} (r : Result T ElfError) (from n : ℕ) (out : List ℕ)
      (told : Type 0)
      → from + n ≤ length (origin_bytes (ranged_pieces k) (ranged_base k) of)
      → (told → OnOk r (out ≡ take n (drop from k.source.base)))
      → told → OnOk r (out ≡ take n (drop from (origin_bytes (ranged_pieces k) (ranged_base k) of)))
  between_copied (Err e) from n out told there put known = tt
  between_copied (Ok y) from n out told there put known =
      let within = between_within (from + n) there in
      let long = length-take k.kept k.source.base in
      let place : 0 + from ≡ from = omega arith in
      let same : take n (drop from (ranged_base k)) ≡ take n (drop from k.source.base) =
      take-drop-range k.source.base 0 k.kept from n (omega (arith, within, long))
      ∙ ap (λ (m : ℕ). take n (drop m k.source.base)) place in
      subst (λ (x : Origin).
      out ≡ take n (drop from (origin_bytes (ranged_pieces k) (ranged_base k) x))) (sym is)
      (put known ∙ sym same)

  pub between_asked : (from n : ℕ) → from + n ≤ length (origin_bytes (ranged_pieces k)
      (ranged_base k) of)
      → n ≤ places_below (origin_due (ranged_due k) (length (ranged_base k)) of) from (from + n)
  between_asked from n there =
      subst (λ (x : Origin).
      n ≤ places_below (origin_due (ranged_due k) (length (ranged_base k)) x) from (from + n))
      (sym is)
      (base_bytes n from (length (ranged_base k)) (between_within (from + n) there))

-- ---- Copies

-- a source has as many bytes as it says
pub bytes_long : (holds : Option (List ℕ)) (size : ℕ) → IfSome holds (λ l. length l ≡ size)
    → length (source_bytes holds size) ≡ size
bytes_long None size sized = length-replicate size 0
bytes_long (Some l) size sized = sized

-- what was read is what it tells
pub told_source_copied : {T : Type 0} (holds : Option (List ℕ)) (size : ℕ) (r : Result T ElfError)
    (at n : ℕ) (out : List ℕ) → OnOk r (IfSome holds (λ image. out ≡ take n (drop at image)))
    → IsTrue (is_some holds) → OnOk r (out ≡ take n (drop at (source_bytes holds size)))
told_source_copied holds size (Err e) at n out put told = tt
told_source_copied None size (Ok x) at n out put told = cc
told_source_copied (Some image) size (Ok x) at n out put told = put

module _ {S : Type 0} (g : Ghosts S) where
  abbrev Copies : {T : Type 0} → Result T ElfError → S → S → ℕ → Type 0
  Copies r old new n =
      CopiesBy (kept_of_source g) (source_faults g) (source_taken g) r old new n

  -- nothing was read
  pub still_copies : (s : S) (n : ℕ) → Copies {T = Unit {0}} (Ok tt) s s n
  still_copies s n = record {
    leaves = refl;
    later = omega arith;
    read = tt;
    asks = record { later = omega arith; no_more = omega arith };
  }

  abbrev kept_as : ℕ → Option (List ℕ) → List (List ℕ) → KeptSource
  kept_as size holds rest = record {
    base = source_bytes holds size;
    told = is_some holds;
    size = size;
    holds = holds;
    rest = rest;
  }

  -- a source that is left is kept
  pub kept_same : (old new : S) → Leaves g old new → kept_of_source g new ≡ kept_of_source g old
  kept_same old new leaves =
      ap (λ (m : ℕ). kept_as m (g.holds new) (g.rest new)) leaves.same_len
      ∙ ap (λ (b : Option (List ℕ)). kept_as (g.size old) b (g.rest new)) leaves.same_bytes
      ∙ ap (λ (l : List (List ℕ)). kept_as (g.size old) (g.holds old) l) leaves.same_rest

  -- so many bytes were asked for
  pub read_copies : {T : Type 0} (r : Result T ElfError) (old new : S) (n : ℕ)
      → Asks g r old new n → Copies r old new n
  read_copies r old new n asks = record {
    leaves = kept_same old new asks.leaves;
    later = asks.later;
    read = asks.read;
    asks = asks.taken;
  }

  pub copies_more : {T : Type 0} (r : Result T ElfError) (old new : S) (n m : ℕ) → n ≤ m
      → Copies r old new n → Copies r old new m
  copies_more r old new n m more copies =
      let no_more = copies.asks.no_more in
      record {
        leaves = copies.leaves;
        later = copies.later;
        read = copies.read;
        asks = record { later = copies.asks.later; no_more = omega (arith, no_more, more) };
      }

  -- a copy of the source is one by the parts
  pub copies_by_parts : {T : Type 0} (r : Result T ElfError) (old new : RangedParts S) (n m : ℕ)
      → n ≡ m → new ≡ record old { source = new.source }
      → Copies r old.source new.source n
      → CopiesBy (kept_of_parts g) (parts_faults g) (parts_taken g) r old new m
  copies_by_parts r old new n m same stays copies = record {
    leaves = ap (λ (x : RangedParts S). kept_of_parts g x) stays
        ∙ ap (λ (x : KeptSource). record (kept_of_parts g old) { source = x }) copies.leaves;
    later = copies.later;
    read = copies.read;
    asks = record {
      later = copies.asks.later;
      no_more = subst (λ (k : ℕ). g.taken new.source ≤ g.taken old.source + k) same
          copies.asks.no_more;
    };
  }

-- The parts of what two halves of a program are combined to share no byte.
use Rattle.std.proofs.Common.{◌≡◌, ℕ, ◌+◌, ◌-◌, ◌*◌, ◌<◌, ◌≤◌, Bool, true, false, not, ◌||◌, List, [], ◌∷◌, ◌++◌, length, get_or, Option, Some, None, refl, sym, ap, ◌∙◌, subst, arith, inl, inr, ⊎_elim}
use Rattle.std.specs.Prelude.{nat_lt, if◌then◌else◌, ◌==◌, map}
use Rattle.std.specs.List.{range_with_len, AllByRecursion}
use Rattle.std.proofs.lemmas.Bool.{and_parts, ltb-true, cases_lt}
use Rattle.elf_types.specs.declared.records.Class.{Class}
use Rattle.elf_types.specs.declared.records.Phdr.{Phdr}
use Rattle.elf_types.specs.declared.records.Shdr.{Shdr}
use Rattle.elf_types.specs.declared.constants.TheConstants.{SHT_NOBITS}
use Rattle.elf_xlate.specs.declared.content.Items.{Items}
use Rattle.elf_xlate.specs.declared.content.Items.TheVariants as items
use Rattle.elf_xlate.specs.Headers.{ehdr_size, phdr_size, shdr_size}
use Rattle.elf_layout.specs.declared.parts.PartAt.{PartAt}
use Rattle.elf_layout.specs.Layout.{in_order_from}
use Rattle.elf_layout.specs.Meeting.{has_bytes}
use Rattle.elf_object.specs.Object.{Object, Section, section_at, occupies_file, is_null}
use Rattle.elf_object.specs.Layout.{header_part, segments_part, section_part, table_part, parts_of}
use Rattle.law_rebuild.proofs.law_object.PlaceLaws.{Pairs}
use Rattle.law_rebuild.proofs.law_object.StandLaws.{length-row}
use Rattle.elf_object.specs.Sections.{is_allocated, is_program, header_at}
use Rattle.rebuild_model.specs.Followed.{followed_header}
use Rattle.rebuild_model.specs.Arranged.{base_end, movable, place_from, placed_from}
use Rattle.rebuild_model.specs.Rebuilt.{rebuilt_header}
use Rattle.rebuild_model.specs.Split.{combined_object}
use Rattle.law_rebuild.proofs.strip.MadeSections.{header_made, allocated_items, allocated_kept, section_placed, section_moved}
use Rattle.law_rebuild.proofs.strip.PlaceLaws.{moved_behind, table_behind, unmoved_allocated}
use Rattle.law_rebuild.proofs.strip.WrittenLaws.{written_known}
use Rattle.law_split.specs.Halves.{origin_number}
use Rattle.law_split.proofs.Combined.{IsMadeWhole, combined_whole, placed_whole}
use Rattle.law_split.proofs.CombineLaws.{AreHalves, whole_raw}
use Rattle.law_split.proofs.Counterparts.{counterpart_some}
use Rattle.law_split.proofs.Extents.{extent_at, table_stored, tail_row, extent_allocated, extent_moved, extent_table, placed_index, row_apart, moved_inside, table_inside}
use Rattle.law_split.proofs.Matching.{stripped_of_split, debug_loaded, same_allocated}
use Rattle.law_split.proofs.Overlaps.{NoneShared, SameExtent, EndsBy, BeginsFrom, none_shared_back, none_shared_as, same_extents, ends_as, before_behind, empty_shares_none, each_at, pair_at, parts_pairs}
use Rattle.law_split.proofs.Placed.{IsMadeAs}
use Rattle.law_split.proofs.StrippedHalf.{IsMadeWithout, made_without, stripped_reopened}
use Rattle.law_split.proofs.TailBounds.{header_before, segments_before, section_before}
use Rattle.law_split.proofs.Whole.{HasRaw}
use Rattle.law_split.proofs.LaidParts.{IsLaid, IsLoadedPart, IsMovedPart, StandsAs, laid_of, row_part, lengthless_apart, times_none}

module _ (removed : List ℕ) (whole stripped debug : Object)
    (are : AreHalves removed whole stripped debug) (program : is_program whole ≡ true) where
  abbrev tail : ℕ
  tail = base_end stripped stripped.sections

  abbrev p : Object
  p = combined_object stripped debug

  abbrev q : Object
  q = placed_from (combined_object stripped debug) (base_end stripped stripped.sections)

  abbrev r0 : Object
  r0 = are.split.made.object

  made : IsMadeWhole whole (combined_object stripped debug)
  made = combined_whole removed whole stripped debug are.kept are.half are.listed

  made_q : IsMadeWhole whole q
  made_q = placed_whole whole (combined_object stripped debug) tail made

  made_0 : IsMadeWithout whole removed r0
  made_0 = made_without whole removed are.split.made are.split.is_made

  laid : IsLaid r0 (length stripped.base)
  laid =
      let one = stripped_reopened removed whole stripped
      (stripped_of_split removed whole stripped debug are.split are.stays) in
      let known = written_known r0 are.split.out are.split.is_out in
      laid_of r0 are.split.out stripped one.dirty (made_0.layout program) known.0 known.1
      are.split.is_stripped

  -- ---- The front

  header_same : SameExtent (header_part q) (header_part r0)
  header_same = record {
    at = refl;
    len = ap ehdr_size (sym made_q.header.class ∙ made_0.header.class);
    filled = refl;
  }

  segments_same : SameExtent (segments_part q) (segments_part r0)
  segments_same = record {
    at = made_q.phoff program ∙ sym made_0.phoff;
    len = ap (λ (l : List Phdr). length l * phdr_size q.header.class)
        (made_q.phdrs ∙ sym made_0.phdrs)
        ∙ ap (λ (c : Class). length r0.phdrs * phdr_size c)
        (sym made_q.header.class ∙ made_0.header.class);
    filled = refl;
  }

  header_ends : EndsBy tail (header_part q)
  unfolding has_bytes parts_of
  header_ends full =
      let class : stripped.header.class ≡ q.header.class =
      sym are.kept.header.class ∙ made_q.header.class in
      let size : ehdr_size stripped.header.class ≡ ehdr_size q.header.class =
      ap ehdr_size class in
      let end : 0 + ehdr_size q.header.class ≤ length stripped.base =
      ends_as (length stripped.base) (header_part q) (header_part r0) header_same laid.ends.0 full
      in
      omega (
        arith,
        size,
        header_before stripped stripped.sections (omega (arith, end, size)),
      )

  segments_ends : EndsBy tail (segments_part q)
  unfolding parts_of
  segments_ends full =
      let class : stripped.header.class ≡ q.header.class =
      sym are.kept.header.class ∙ made_q.header.class in
      let phdrs : stripped.phdrs ≡ q.phdrs = are.kept.phdrs ∙ sym made_q.phdrs in
      let size : length stripped.phdrs * phdr_size stripped.header.class
      ≡ length q.phdrs * phdr_size q.header.class =
      ap (λ (l : List Phdr). length l * phdr_size stripped.header.class) phdrs
      ∙ ap (λ (c : Class). length q.phdrs * phdr_size c) class in
      let at : stripped.header.phoff ≡ q.header.phoff =
      are.kept.phoff program ∙ sym (made_q.phoff program) in
      let end : q.header.phoff + length q.phdrs * phdr_size q.header.class ≤ length stripped.base =
      ends_as (length stripped.base) (segments_part q) (segments_part r0) segments_same
      laid.ends.1.0 full in
      let before = segments_before stripped stripped.sections
      (subst (λ (n : ℕ). n ≤ length stripped.base)
      (ap (λ (n : ℕ). n + length q.phdrs * phdr_size q.header.class) (sym at)
      ∙ ap (λ (n : ℕ). stripped.header.phoff + n) (sym size)) end) in
      subst (λ (n : ℕ). n ≤ tail)
      (ap (λ (n : ℕ). stripped.header.phoff + n) size
      ∙ ap (λ (n : ℕ). n + length q.phdrs * phdr_size q.header.class) at) before

  -- ---- A section

  -- one of the stripped half
  stripped_extent : (t : ℕ) → 1 ≤ t → t < length stripped.sections
      → is_allocated (header_at whole (origin_number whole removed t)) ≡ true
      → HasRaw whole (origin_number whole removed t)
      → SameExtent (section_part r0 t)
      (extent_at (header_at whole (origin_number whole removed t)).offset
      (header_at whole (origin_number whole removed t))
      (section_at whole (origin_number whole removed t)).raw)
  unfolding rebuilt_header followed_header
  stripped_extent t from below allocated raw =
      let n = origin_number whole removed t in
      let count = are.kept.count in
      let number = are.numbers t from below in
      extent_allocated (Unit {0}) r0 t
      (rebuilt_header whole removed (origin_number whole removed t))
      (section_at whole n).raw (omega (arith, from))
      (subst (λ (l : Items). IsMadeAs (Unit {0}) (section_at r0 t)
      (rebuilt_header whole removed (origin_number whole removed t)) l)
      (allocated_items whole removed n allocated)
      (made_0.sections t from (omega (arith, below, count)) number.0)) raw.bytes tt
      (allocated_kept whole removed n ∙ allocated)

  loaded_ends : (s t : ℕ) → 1 ≤ t → t < length stripped.sections → t < length r0.sections
      → origin_number whole removed t ≡ s → is_allocated (header_at whole s) ≡ true
      → HasRaw whole s
      → SameExtent (section_part r0 t)
      (extent_at (header_at whole s).offset (header_at whole s) (section_at whole s).raw)
      → EndsBy tail
      (extent_at (header_at whole s).offset (header_at whole s) (section_at whole s).raw)
  unfolding has_bytes parts_of
  loaded_ends s t from below inside origin allocated raw same full =
      let both = and_parts (occupies_file (header_at whole s))
      (nat_lt 0
      (length (if occupies_file (header_at whole s) then (section_at whole s).raw else [])))
      full in
      let long : length (if occupies_file (header_at whole s) then (section_at whole s).raw else [])
      ≡ (header_at whole s).size =
      ap (λ (b : Bool). length (if b then (section_at whole s).raw else [])) both.0
      ∙ raw.filled both.0 in
      let loaded : is_allocated (header_at whole (origin_number whole removed t)) ≡ true =
      ap (λ (n : ℕ). is_allocated (header_at whole n)) origin ∙ allocated in
      let headers = are.kept.headers t from below loaded in
      let offset : (header_at stripped t).offset ≡ (header_at whole s).offset =
      are.kept.places t from below program loaded
      ∙ ap (λ (n : ℕ). (header_at whole n).offset) origin in
      let size : (header_at stripped t).size ≡ (header_at whole s).size =
      ap (λ (h : Shdr). h.size) headers ∙ ap (λ (n : ℕ). (header_at whole n).size) origin in
      let filled : occupies_file (header_at stripped t) ≡ true =
      ap (λ (h : Shdr). occupies_file h) headers
      ∙ ap (λ (n : ℕ). occupies_file (header_at whole n)) origin ∙ both.0 in
      let flags = same_allocated (header_at stripped t)
      (header_at whole (origin_number whole removed t)) (are.kept.flags t from below) in
      let row = each_at (EndsBy (length stripped.base))
      (map (section_part r0) (range_with_len 1 (length r0.sections - 1)) ++ table_part r0 ∷ [])
      (t - 1) (table_part r0) laid.ends.1.1
      (omega (
        arith,
        from,
        inside,
        length-row (section_part r0) (length r0.sections - 1) (table_part r0),
      )) in
      let part : EndsBy (length stripped.base) (section_part r0 t) =
      subst (EndsBy (length stripped.base)) (row_part r0 t (table_part r0) from inside) row in
      let there : (header_at whole s).offset
      + length (if occupies_file (header_at whole s) then (section_at whole s).raw else [])
      ≤ length stripped.base =
      ends_as (length stripped.base)
      (extent_at (header_at whole s).offset (header_at whole s) (section_at whole s).raw)
      (section_part r0 t)
      (record { at = sym same.at; len = sym same.len; filled = sym same.filled }) part full in
      let some = ltb-true 0
      (length (if occupies_file (header_at whole s) then (section_at whole s).raw else [])) both.1
      in
      let before = section_before are.split.out stripped t are.split.is_stripped below
      (flags ∙ loaded) filled (omega (arith, some, long, size))
      (omega (arith, there, long, size, offset)) in
      omega (arith, before, long, size, offset)

  loaded_part : (s : ℕ) → 1 ≤ s → s < length whole.sections
      → is_allocated (header_at whole s) ≡ true → IsLoadedPart removed whole q r0 tail s
  loaded_part s from below allocated =
      let raw = whole_raw removed whole stripped debug are s from below in
      let flags = same_allocated (header_at debug s) (header_at whole s)
      (debug_loaded (header_at debug s) (header_at whole s)
      (are.half.headers s from below)).flags in
      let other = counterpart_some removed whole stripped debug s are.listed from
      (omega (arith, below, are.half.count)) (flags ∙ allocated) in
      let t = other.number in
      let E : ℕ → Type 0 = λ n. SameExtent (section_part r0 other.number)
      (extent_at (header_at whole n).offset (header_at whole n) (section_at whole n).raw) in
      let there : SameExtent (section_part r0 other.number)
      (extent_at (header_at whole s).offset (header_at whole s) (section_at whole s).raw) =
      subst E other.origin
      (stripped_extent t other.from other.below
      (ap (λ (n : ℕ). is_allocated (header_at whole n)) other.origin ∙ allocated)
      (subst (λ (n : ℕ). HasRaw whole n) (sym other.origin) raw)) in
      let here : SameExtent (section_part q s)
      (extent_at (header_at whole s).offset (header_at whole s) (section_at whole s).raw) =
      extent_allocated (is_program whole ≡ true) q s (header_at whole s) (section_at whole s).raw
      (omega (arith, from)) (made_q.sections s from below) raw.bytes program allocated in
      let inside : other.number < length r0.sections =
      omega (arith, other.below, are.kept.count, made_0.count) in
      record {
        number = other.number;
        from = other.from;
        below = inside;
        origin = other.origin;
        same = same_extents (section_part q s) (section_part r0 other.number)
            (extent_at (header_at whole s).offset (header_at whole s) (section_at whole s).raw)
            here there;
        ends = ends_as tail (section_part q s)
            (extent_at (header_at whole s).offset (header_at whole s) (section_at whole s).raw)
            here (loaded_ends s other.number other.from other.below inside other.origin allocated
            raw there);
      }

  moved_begins : (s place : ℕ) → s < length (combined_object stripped debug).sections
      → place_from p tail s ≡ Some place → tail ≤ (section_part q s).at
  unfolding section_part
  moved_begins s place inside moved =
      let at = ap (λ (c : Section). c.header.offset) (section_placed p tail s inside)
      ∙ section_moved p tail s place (section_at p s) moved in
      omega (arith, at, moved_behind p tail s place moved)

  moved_part : (s place : ℕ) → 1 ≤ s → s < length whole.sections
      → place_from p tail s ≡ Some place → IsMovedPart p q tail s
  moved_part s place from below moved =
      let raw = whole_raw removed whole stripped debug are s from below in
      let inside : s < length (combined_object stripped debug).sections =
      omega (arith, below, made.count) in
      let row = placed_index p tail s place moved in
      let same = extent_moved (is_program whole ≡ true) p tail s row.0 place (header_at whole s)
      (section_at whole s).raw (table_part p) (omega (arith, from)) inside moved row.1
      (made.sections s from below) (made_q.sections s from below) raw.bytes in
      record {
        index = row.0;
        inside = row.1.inside;
        number = row.1.number;
        same = same;
        begins = λ full. moved_begins s place inside moved;
      }

  null_unfilled : (s place : ℕ)
      → (section_at q s).header ≡ record (header_at whole s) { offset = place }
      → is_null (header_at whole s) ≡ true → (section_part q s).filled ≡ false
  unfolding section_part
  null_unfilled s place header null =
      ap (λ (h : Shdr). occupies_file h) header
      ∙ ap (λ (b : Bool). not (b || (header_at whole s).stype == SHT_NOBITS)) null

  stands_as : (s : ℕ) → 1 ≤ s → s < length whole.sections
      → StandsAs removed whole p q r0 tail s
  stands_as s from below = by_flags (is_allocated (header_at whole s)) refl
    where
      header : (section_at p s).header
          ≡ record (header_at whole s) { offset = (made.sections s from below).place }
      header = ap (λ (c : Section). c.header) (made.sections s from below).is
          ∙ header_made
          (record (header_at whole s) { offset = (made.sections s from below).place })
          (items.Bytes (section_at whole s).raw)

      header_q : (section_at q s).header
          ≡ record (header_at whole s) { offset = (made_q.sections s from below).place }
      header_q = ap (λ (c : Section). c.header) (made_q.sections s from below).is
          ∙ header_made
          (record (header_at whole s) { offset = (made_q.sections s from below).place })
          (items.Bytes (section_at whole s).raw)

      by_null : is_allocated (header_at whole s) ≡ false → place_from p tail s ≡ None
          → (b : Bool) → is_null (header_at p s) ≡ b → StandsAs removed whole p q r0 tail s
      by_null other unmoved true e =
          inr (inr (null_unfilled s (made_q.sections s from below).place header_q
          (sym (ap (λ (h : Shdr). is_null h) header) ∙ e)))
      by_null other unmoved false e =
          let allocated = unmoved_allocated p tail s unmoved (omega (arith, from))
          (omega (arith, below, made.count)) e in
          let flags : is_allocated (header_at p s) ≡ is_allocated (header_at whole s) =
          same_allocated (header_at p s) (header_at whole s)
          (ap (λ (h : Shdr). h.flags) header) in
          let clash : true ≡ false = sym allocated ∙ flags ∙ other in cc

      by_place : is_allocated (header_at whole s) ≡ false → (place : Option ℕ)
          → place_from p tail s ≡ place → StandsAs removed whole p q r0 tail s
      by_place other (Some place) moved = inr (inl (moved_part s place from below moved))
      by_place other None unmoved = by_null other unmoved (is_null (header_at p s)) refl

      by_flags : (b : Bool) → is_allocated (header_at whole s) ≡ b
          → StandsAs removed whole p q r0 tail s
      by_flags true e = inl (loaded_part s from below e)
      by_flags false e = by_place e (place_from p tail s) refl

  -- ---- Any two parts

  front_apart : (a b : PartAt) → SameExtent a b → EndsBy tail a
      → AllByRecursion (NoneShared b)
      (map (section_part r0) (range_with_len 1 (length r0.sections - 1)) ++ table_part r0 ∷ [])
      → (s : ℕ) → 1 ≤ s → s < length whole.sections → NoneShared a (section_part q s)
  front_apart a b same ends apart s from below = by_kind (stands_as s from below)
    where
      by_kind : StandsAs removed whole p q r0 tail s → NoneShared a (section_part q s)
      by_kind (inl is) =
          let row = each_at (NoneShared b)
          (map (section_part r0) (range_with_len 1 (length r0.sections - 1))
          ++ table_part r0 ∷ []) (is.number - 1) (table_part r0) apart
          (omega (
            arith,
            is.from,
            is.below,
            length-row (section_part r0) (length r0.sections - 1) (table_part r0),
          )) in
          none_shared_as a (section_part q s) b (section_part r0 is.number) same is.same
          (subst (NoneShared b) (row_part r0 is.number (table_part r0) is.from is.below) row)
      by_kind (inr (inl is)) = before_behind tail a (section_part q s) ends is.begins
      by_kind (inr (inr unfilled)) =
          none_shared_back (section_part q s) a (empty_shares_none (section_part q s) a unfilled)

  table_begins : 0 < length (combined_object stripped debug).sections
      → BeginsFrom tail (table_part q)
  table_begins some full =
      omega (arith, table_stored p tail some, table_behind p tail some)

  -- two that were in the stripped half
  loaded_apart : (s t : ℕ) → s < t → IsLoadedPart removed whole q r0 tail s
      → IsLoadedPart removed whole q r0 tail t
      → NoneShared (section_part q s) (section_part q t)
  unfolding parts_of
  loaded_apart s t less one other =
      none_shared_as (section_part q s) (section_part q t) (section_part r0 one.number)
      (section_part r0 other.number) one.same other.same
      (⊎_elim
      (λ lower. rows_apart one.number other.number one.from lower other.below)
      (λ higher.
      none_shared_back (section_part r0 other.number) (section_part r0 one.number)
      (rows_apart other.number one.number other.from
      (differ one.number other.number higher (λ same.
      omega (
        arith,
        less,
        one.origin,
        other.origin,
        ap (origin_number whole removed) same,
      ))) one.below))
      (cases_lt one.number other.number))
    where
      differ : (a b : ℕ) → b ≤ a → (a ≡ b → ⊥) → b < a
      differ a b less other = omega (arith, less, other)

      rows_apart : (a b : ℕ) → 1 ≤ a → a < b → b < length r0.sections
          → NoneShared (section_part r0 a) (section_part r0 b)
      rows_apart a b from lower below =
          let row = map (section_part r0) (range_with_len 1 (length r0.sections - 1))
          ++ table_part r0 ∷ [] in
          let pair = pair_at row (a - 1) (b - 1) (table_part r0) laid.pairs.1.1
          (omega (arith, from, lower))
          (omega (
            arith,
            from,
            lower,
            below,
            length-row (section_part r0) (length r0.sections - 1) (table_part r0),
          )) in
          subst (λ (x : PartAt). NoneShared x (section_part r0 b))
          (row_part r0 a (table_part r0) from (omega (arith, lower, below)))
          (subst (NoneShared (get_or row (a - 1) (table_part r0)))
          (row_part r0 b (table_part r0) (omega (arith, from, lower)) below) pair)

  -- two that are placed from the tail on
  moved_apart : (s t : ℕ) → s < t → 0 < length (combined_object stripped debug).sections
      → IsMovedPart p q tail s → IsMovedPart p q tail t
      → NoneShared (section_part q s) (section_part q t)
  moved_apart s t less some one other =
      none_shared_as (section_part q s) (section_part q t)
      (get_or (in_order_from tail (tail_row p)) one.index (table_part p))
      (get_or (in_order_from tail (tail_row p)) other.index (table_part p)) one.same other.same
      (row_apart p tail one.index other.index (table_part p)
      (moved_inside p one.index some one.inside) (moved_inside p other.index some other.inside)
      (λ same.
      omega (
        arith,
        less,
        one.number,
        other.number,
        ap (λ (i : ℕ). get_or (movable p) i 0) same,
      )))

  sections_apart : (s t : ℕ) → 1 ≤ s → s < t → t < length whole.sections
      → NoneShared (section_part q s) (section_part q t)
  sections_apart s t from less below =
      by_kinds (stands_as s from (omega (arith, less, below)))
      (stands_as t (omega (arith, from, less)) below)
    where
      some : 0 < length (combined_object stripped debug).sections
      some = omega (arith, less, below, made.count)

      by_kinds : StandsAs removed whole p q r0 tail s → StandsAs removed whole p q r0 tail t
          → NoneShared (section_part q s) (section_part q t)
      by_kinds (inr (inr unfilled)) other =
          empty_shares_none (section_part q s) (section_part q t) unfilled
      by_kinds (inl one) (inl other) = loaded_apart s t less one other
      by_kinds (inl one) (inr (inl other)) =
          before_behind tail (section_part q s) (section_part q t) one.ends other.begins
      by_kinds (inl one) (inr (inr unfilled)) =
          none_shared_back (section_part q t) (section_part q s)
          (empty_shares_none (section_part q t) (section_part q s) unfilled)
      by_kinds (inr (inl one)) (inl other) =
          none_shared_back (section_part q t) (section_part q s)
          (before_behind tail (section_part q t) (section_part q s) other.ends one.begins)
      by_kinds (inr (inl one)) (inr (inl other)) = moved_apart s t less some one other
      by_kinds (inr (inl one)) (inr (inr unfilled)) =
          none_shared_back (section_part q t) (section_part q s)
          (empty_shares_none (section_part q t) (section_part q s) unfilled)

  table_apart : (s : ℕ) → 1 ≤ s → s < length whole.sections
      → NoneShared (section_part q s) (table_part q)
  table_apart s from below = by_kind (stands_as s from below)
    where
      some : 0 < length (combined_object stripped debug).sections
      some = omega (arith, below, made.count)

      by_kind : StandsAs removed whole p q r0 tail s → NoneShared (section_part q s) (table_part q)
      by_kind (inl is) =
          before_behind tail (section_part q s) (table_part q) is.ends (table_begins some)
      by_kind (inr (inl is)) =
          none_shared_as (section_part q s) (table_part q)
          (get_or (in_order_from tail (tail_row p)) is.index (table_part p))
          (get_or (in_order_from tail (tail_row p)) (length (movable p)) (table_part p)) is.same
          (extent_table p tail (table_part p) some)
          (row_apart p tail is.index (length (movable p)) (table_part p)
          (moved_inside p is.index some is.inside) (table_inside p some)
          (λ same. omega (arith, same, is.inside)))
      by_kind (inr (inr unfilled)) =
          empty_shares_none (section_part q s) (table_part q) unfilled

  -- the table of an object without sections is empty
  table_free : (a : PartAt) → EndsBy tail a → NoneShared a (table_part q)
  table_free a ends = ⊎_elim
      (λ some. before_behind tail a (table_part q) ends (table_begins some))
      (λ none.
      none_shared_back (table_part q) a (lengthless_apart (table_part q) a
      (times_none (length q.sections) (shdr_size q.header.class)
      (omega (arith, none, made.count, made_q.count)))))
      (cases_lt 0 (length (combined_object stripped debug).sections))

  pub parts_apart : Pairs NoneShared (parts_of q)
  unfolding parts_of
  parts_apart =
      let count = made_q.count in
      parts_pairs (section_part q) (table_part q) (header_part q) (segments_part q)
      (length q.sections - 1)
      (none_shared_as (header_part q) (segments_part q) (header_part r0) (segments_part r0)
      header_same segments_same laid.pairs.0.0)
      (λ s from below.
      front_apart (header_part q) (header_part r0) header_same header_ends laid.pairs.0.1 s from
      (omega (arith, from, below, count)))
      (table_free (header_part q) header_ends)
      (λ s from below.
      front_apart (segments_part q) (segments_part r0) segments_same segments_ends
      laid.pairs.1.0 s from (omega (arith, from, below, count)))
      (table_free (segments_part q) segments_ends)
      (λ s t from less below.
      sections_apart s t from less (omega (arith, from, less, below, count)))
      (λ s from below. table_apart s from (omega (arith, from, below, count)))

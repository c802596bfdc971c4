-- Sections that are placed behind a tail, one after the other.
use Rattle.std.proofs.Common.{◌≡◌, ◌⊎◌, inl, inr, ◌+◌, ◌<◌, ◌≤◌, ℕ, Bool, true, false, List, [], ◌∷◌, ◌++◌, length, get_or, Option, Some, None, refl, sym, ap, ◌∙◌, subst, arith, ⊎_elim, length-append}
use Rattle.std.specs.Prelude.{if◌then◌else◌, map}
use Rattle.std.specs.List.{enumerate_from}
use Rattle.std.specs.Option.{SomeIff}
use Rattle.std.proofs.Math.Seq.{get_or-append_seam}
use Rattle.std.proofs.lemmas.Bool.{cases_lt, ne_eqb}
use Rattle.std.proofs.lemmas.List.{get_or_append_left, get_or_default, length-map, get_or-map}
use Rattle.std.proofs.lemmas.List.FromFn.{get_or-enumerate_from, length-enumerate_from}
use Rattle.elf_types.specs.declared.records.Ehdr.{Ehdr}
use Rattle.elf_types.specs.declared.records.Shdr.{Shdr}
use Rattle.elf_types.specs.declared.errors.ElfError.{ElfError}
use Rattle.elf_types.specs.declared.errors.ElfError.TheVariants.{Memory, TooLarge}
use Rattle.rebuild_model.specs.elf_ident.Front.{zero_shdr}
use Rattle.elf_layout.specs.Layout.{place_of, rounded_up, some_above, limit_of}
use Rattle.rebuild_model.specs.elf_object.Blocks.{stacked, last_end, spread}
use Rattle.rebuild_model.specs.elf_object.Joined.{aligned_pieces, piece_blocks, pieces_end, file_bytes}
use Rattle.rebuild_model.specs.elf_object.Object.{Object, Section, section_at, absent_section, has_file_bytes, header_of}
use Rattle.rebuild_model.specs.elf_object.Steps.{with_ehdr, stored_ehdr}
use Rattle.rebuild_model.specs.elf_object.Layout.{section_part, table_part, table_alignment}
use Rattle.rebuild_model.specs.elf_object.Sections.{header_at}
use Rattle.rebuild_model.specs.Arranged.{place_from, section_from, parts_from, placed_from, table_place_from, tail_refusal}
use Rattle.rebuild_making.specs.Placing.{is_movable, end_below, sections_from, MayStand}
use Rattle.rebuild_making.proofs.TailLaws.{walk_begins, walk_goes_on, walk_stops, section_stands, section_keeps, first_keeps, table_found}
use Rattle.rebuild_making.proofs.PlaceLaws.{tail_passes, tail_refused}
use Rattle.rebuild_image.specs.declared.listed.listed.HeaderListing.{HeaderListing}
use Rattle.rebuild_image.specs.Listed.Listing.{IsHeaderListing}
use Rattle.rebuild_image.specs.Places.{header_behind, StandsBehind}
use Rattle.rebuild_image.specs.Arranging.{ArePlacedBehind, IsAbove, IsArrangedBehind, IsRefusedBehind}

-- ---- The header of a section

from_none : (o : Object) (tail s : ℕ) (c : Section) → place_from o tail s ≡ None
    → section_from o tail s c ≡ c
unfolding section_from
from_none o tail s c is =
    ap (λ (r : Option ℕ). elim r [
      | None ↦ c
      | Some place ↦ record c { header = record c.header { offset = place }; marked = true }
    ]) is

from_some : (o : Object) (tail s place : ℕ) (c : Section) → place_from o tail s ≡ Some place
    → section_from o tail s c ≡ record c {
      header = record c.header { offset = place };
      marked =
          true;
    }
unfolding section_from
from_some o tail s place c is =
    ap (λ (r : Option ℕ). elim r [
      | None ↦ c
      | Some p ↦ record c { header = record c.header { offset = p }; marked = true }
    ]) is

header_from : (o : Object) (tail s : ℕ) → 1 ≤ s → s < length o.sections
    → header_behind o (end_below o tail s) s ≡ (section_from o tail s (section_at o s)).header
header_from o tail s first there = by_test (is_movable o s) refl
  where
    by_test : (b : Bool) → is_movable o s ≡ b
        → header_behind o (end_below o tail s) s ≡ (section_from o tail s (section_at o s)).header
    by_test true is =
        ap (λ (t : Bool). if t
        then record (header_at o s) { offset = place_of (end_below o tail s) (section_part o s) }
        else header_at o s) is
        ∙ sym (ap (λ (c : Section). c.header)
        (from_some o tail s (place_of (end_below o tail s) (section_part o s)) (section_at o s)
        (section_stands o tail (omega (arith, there)) s first there is)))
    by_test false is =
        ap (λ (t : Bool). if t
        then record (header_at o s) { offset = place_of (end_below o tail s) (section_part o s) }
        else header_at o s) is
        ∙ sym (ap (λ (c : Section). c.header)
        (from_none o tail s (section_at o s) (section_keeps o tail s is)))

-- ---- How many there are

pub first_as_many : (empty headers : List Shdr) (h : Shdr) → empty ≡ [] → headers ≡ empty ++ h ∷ []
    → length headers ≡ 1
first_as_many empty headers h none put =
    ap (λ (l : List Shdr). length l) (put ∙ ap (λ (l : List Shdr). l ++ h ∷ []) none)

pub next_as_many : (headers next : List Shdr) (h : Shdr) (s : ℕ) → length headers ≡ s
    → next ≡ headers ++ h ∷ [] → length next ≡ s + 1
next_as_many headers next h s count more =
    ap (λ (l : List Shdr). length l) more ∙ length-append headers (h ∷ [])
    ∙ ap (λ (k : ℕ). k + 1) count

-- ---- One after the other

pub first_behind : (o : Object) (x : HeaderListing) (tail limit : ℕ) (listed empty headers : List Shdr)
    (d : Shdr)
    → listed ≡ x.headers → 0 < length x.headers → empty ≡ [] → headers
    ≡ empty ++ get_or listed 0 d ∷ []
    → IsHeaderListing o x → ArePlacedBehind o tail limit 1 headers tail
first_behind o x tail limit listed empty headers d same some none put is =
    let all : headers ≡ get_or listed 0 d ∷ [] =
    put ∙ ap (λ (l : List Shdr). l ++ get_or listed 0 d ∷ []) none in
    let within : 0 < length o.sections = omega (arith, some, is.count) in
    record {
      stands = walk_begins o tail limit;
      count = ap (λ (l : List Shdr). length l) all;
      each = λ s below. let zero : 0 ≡ s = omega (arith, below) in
          subst (λ (k : ℕ). get_or headers k zero_shdr ≡ (section_from o tail k
          (section_at o k)).header) zero
          (ap (λ (l : List Shdr). get_or l 0 zero_shdr) all
          ∙ ap (λ (l : List Shdr). get_or l 0 d) same
          ∙ get_or_default x.headers 0 d zero_shdr some ∙ is.headers 0 within
          ∙ sym (ap (λ (c : Section). c.header)
          (from_none o tail 0 (section_at o 0) (first_keeps o tail))));
    }

pub next_behind_is : (o : Object) (tail limit s end after : ℕ) (headers next : List Shdr) (h : Shdr)
    → 1 ≤ s → s < length o.sections → ArePlacedBehind o tail limit s headers end
    → StandsBehind o s end limit (h, after) → next ≡ headers ++ h ∷ []
    → ArePlacedBehind o tail limit (s + 1) next after
next_behind_is o tail limit s end after headers next h first there so_far found more = record {
  stands = walk_goes_on o tail limit end s first so_far.stands after found.may found.end_is;
  count = ap (λ (l : List Shdr). length l) more ∙ length-append headers (h ∷ [])
      ∙ ap (λ (k : ℕ). k + 1) so_far.count;
  each = λ i below. ap (λ (l : List Shdr). get_or l i zero_shdr) more
      ∙ ⊎_elim (λ less. get_or_append_left headers (h ∷ []) zero_shdr i
      (omega (arith, less, so_far.count)) ∙ so_far.each i less)
      (λ last. let same : s ≡ i = omega (arith, below, last) in
      subst (λ (k : ℕ). get_or (headers ++ h ∷ []) k zero_shdr
      ≡ (section_from o tail k (section_at o k)).header) same (at_end ∙ put)) (cases_lt i s);
}
  where
    at_end : get_or (headers ++ h ∷ []) s zero_shdr ≡ h
    at_end =
        ap (λ (k : ℕ). get_or (headers ++ h ∷ []) k zero_shdr) (sym so_far.count)
        ∙ get_or-append_seam headers h [] zero_shdr

    put : h ≡ (section_from o tail s (section_at o s)).header
    put =
        found.header ∙ ap (λ (n : ℕ). header_behind o n s) so_far.stands.end_is
        ∙ header_from o tail s first there

pub some_is_above : (o : Object) (tail limit s end : ℕ) (headers : List Shdr) → 1 ≤ s
    → s < length o.sections → ArePlacedBehind o tail limit s headers end
    → (MayStand o limit end s → ⊥) → some_above limit (parts_from o tail) ≡ true
some_is_above o tail limit s end headers first there so_far never =
    walk_stops o tail limit end s first so_far.stands there never

-- ---- The object with these places

module _ (o : Object) (tail : ℕ) (some : 0 < length o.sections) where
  arranged_is : placed_from o tail ≡ with_ehdr (record o { sections = sections_from o tail })
      (record o.header { shoff = table_place_from o tail })
  unfolding placed_from sections_from
  arranged_is =
      ap (λ (b : Bool). if b then o else with_ehdr
      (record o {
        sections = map (λ row. section_from o tail row.0 row.1) (enumerate_from 0 o.sections);
      }) (record o.header { shoff = table_place_from o tail }))
      (ne_eqb (length o.sections) 0 (λ none. omega (arith, none, some)))

  arranged_count : length (sections_from o tail) ≡ length o.sections
  unfolding sections_from
  arranged_count =
      length-map (enumerate_from 0 o.sections) (λ row. section_from o tail row.0 row.1)
      ∙ length-enumerate_from 0 o.sections

  arranged_at : (s : ℕ) → s < length o.sections
      → get_or (sections_from o tail) s absent_section ≡ section_from o tail s (section_at o s)
  unfolding sections_from section_at
  arranged_at s there =
      let count = length-enumerate_from 0 o.sections in
      let number : 0 + s ≡ s = omega arith in
      let row = get_or-enumerate_from 0 o.sections s (0, absent_section) there in
      get_or-map (λ (row : ℕ × Section). section_from o tail row.0 row.1)
      (enumerate_from 0 o.sections)
      s (0, absent_section) absent_section (omega (arith, count, there))
      ∙ ap (λ (row : ℕ × Section). section_from o tail row.0 row.1) row
      ∙ ap (λ (n : ℕ). section_from o tail n (get_or o.sections s absent_section)) number

  -- the bytes of a section stay
  abbrev bytes_by : ℕ → Section → List ℕ
  bytes_by s c =
      if has_file_bytes s c
      then spread (last_end 0 (stacked 0 (aligned_pieces o.header.class o.header.order c)))
      (λ _. o.fill)
      (stacked 0 (aligned_pieces o.header.class o.header.order c))
      else []

  bytes_from : (s : ℕ) (c : Section) → bytes_by s (section_from o tail s c) ≡ bytes_by s c
  unfolding has_file_bytes aligned_pieces
  bytes_from s c = by_place (place_from o tail s) refl
    where
      by_place : (r : Option ℕ) → place_from o tail s ≡ r
          → bytes_by s (section_from o tail s c) ≡ bytes_by s c
      by_place None is = ap (bytes_by s) (from_none o tail s c is)
      by_place (Some place) is = ap (bytes_by s) (from_some o tail s place c is)

  bytes_stay : (s : ℕ) → s < length o.sections → file_bytes (placed_from o tail) s ≡ file_bytes o s
  unfolding file_bytes pieces_end piece_blocks section_at with_ehdr stored_ehdr
  bytes_stay s there =
      ap (λ (q : Object). file_bytes q s) arranged_is
      ∙ ap (bytes_by s) (arranged_at s there)
      ∙ bytes_from s (section_at o s)

  header_stays : (place : ℕ) → place ≡ table_place_from o tail
      → record (header_of o) { shoff = place } ≡ header_of (placed_from o tail)
  unfolding header_of with_ehdr stored_ehdr
  header_stays place is =
      ap (λ (n : ℕ). record (header_of o) { shoff = n }) is
      ∙ ap (λ (n : ℕ). record (header_of o) { shoff = table_place_from o tail; shnum = n })
      (sym arranged_count)
      ∙ sym (ap header_of arranged_is)

  pub listed_from : (x next : HeaderListing) (limit place : ℕ) (behind : List Shdr) (end : ℕ)
      → IsHeaderListing o x
      → ArePlacedBehind o tail limit (length o.sections) behind end
      → place ≡ table_place_from o tail
      → next.header ≡ record x.header { shoff = place } → next.headers ≡ behind
      → next.sizes ≡ x.sizes
      → IsHeaderListing (placed_from o tail) next
  unfolding section_at with_ehdr
  listed_from x next limit place behind end is placed known header headers sizes =
      let count : length (placed_from o tail).sections ≡ length o.sections =
      ap (λ (q : Object). length q.sections) arranged_is ∙ arranged_count in
      record {
        header = header ∙ ap (λ (h : Ehdr). record h { shoff = place }) is.header
            ∙ header_stays place known;
        count = ap (λ (l : List Shdr). length l) headers ∙ placed.count ∙ sym count;
        sized = ap (λ (l : List ℕ). length l) sizes ∙ is.sized ∙ sym count;
        headers = λ s there.
            let within : s < length o.sections = omega (arith, there, count) in
            ap (λ (l : List Shdr). get_or l s zero_shdr) headers ∙ placed.each s within
            ∙ ap (λ (c : Section). c.header) (sym (arranged_at s within))
            ∙ sym (ap (λ (q : Object). (get_or q.sections s absent_section).header) arranged_is);
        sizes = λ s there.
            let within : s < length o.sections = omega (arith, there, count) in
            ap (λ (l : List ℕ). get_or l s 0) sizes ∙ is.sizes s within
            ∙ ap (λ (l : List ℕ). length l) (sym (bytes_stay s within));
        small = λ s there.
            let within : s < length o.sections = omega (arith, there, count) in
            let same = ap (λ (l : List ℕ). length l) (bytes_stay s within) in
            let small = is.small s within in
            omega (arith, same, small);
      }

-- ---- The whole step

pub limit_listed : (o : Object) (x : HeaderListing) (limit : ℕ) → IsHeaderListing o x
    → limit ≡ limit_of x.header.class
    → limit ≡ limit_of o.header.class
unfolding header_of
limit_listed o x limit is same = same ∙ ap (λ (h : Ehdr). limit_of h.class) is.header

pub above_refused : (x : HeaderListing) (tail limit : ℕ) (e : ElfError) → limit ≡ limit_of x.header.class
    → (e ≡ Memory) ⊎ IsAbove x tail limit e → (e ≡ Memory) ⊎ IsRefusedBehind x tail e
above_refused x tail limit e same (inl wanted) = inl wanted
above_refused x tail limit e same (inr above) =
    inr (record {
      error = above.error;
      refused = λ o is.
          let known = limit_listed o x limit is same in
          tail_refused o tail limit known
          (λ none. let past = above.above o is known in let clash : false ≡ true = sym none
          ∙ past in cc);
    })

module _ (o : Object) (x : HeaderListing) (tail limit end align : ℕ) (behind : List Shdr)
    (same : limit ≡ limit_of x.header.class) (first : 0 < length x.headers)
    (aligned : align ≡ table_alignment x.header.class) (is : IsHeaderListing o x)
    (placed : ArePlacedBehind o tail limit (length o.sections) behind end) where
  some : 0 < length o.sections
  some = omega (arith, first, is.count)

  table_aligned : align ≡ (table_part o).align
  unfolding header_of
  table_aligned = aligned ∙ ap (λ (h : Ehdr). table_alignment h.class) is.header

  found_is : (r : Option ℕ) → SomeIff r (rounded_up end align ≤ limit) (rounded_up end align)
      → SomeIff r (some_above limit (parts_from o tail) ≡ false) (table_place_from o tail)
  found_is r found =
      table_found o tail limit end (length o.sections) align r some refl placed.stands
      table_aligned found

  pub all_arranged : (next : HeaderListing) (place : ℕ)
      → SomeIff (Some place) (rounded_up end align ≤ limit) (rounded_up end align)
      → next.header ≡ record x.header { shoff = place } → next.headers ≡ behind
      → next.sizes ≡ x.sizes
      → IsArrangedBehind o tail next
  all_arranged next place found header headers sizes =
      let at = found_is (Some place) found in
      record {
        passed = tail_passes o tail limit (limit_listed o x limit is same) at.0;
        listed = listed_from o tail some x next limit place behind end is placed at.1 header
            headers sizes;
      }

  pub table_refused : SomeIff None (rounded_up end align ≤ limit) (rounded_up end align)
      → tail_refusal o tail ≡ Some TooLarge
  table_refused found =
      tail_refused o tail limit (limit_listed o x limit is same) (found_is None found)

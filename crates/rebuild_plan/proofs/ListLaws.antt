-- What was kept is listed of the object that is made of it, and its ranges are those of the
-- object's sections.
use Rattle.std.proofs.Common.{◌≡◌, ◌+◌, ◌<◌, ◌≤◌, ℕ, zero, suc, Bool, true, false, List, [], ◌∷◌, ◌++◌, length, take, get_or, Option, Some, None, if◌then◌else◌, refl, sym, ap, ◌∙◌, inl, inr, arith}
use Rattle.std.specs.Prelude.{IsTrue, IfSome, is_some, unwrap_or, slice_get}
use Rattle.std.proofs.Math.ListN.{replicate}
use Rattle.std.proofs.lemmas.Bool.{cases_eq, eq-eqb, ne_eqb}
use Rattle.std.proofs.lemmas.List.{length-map, length-take-le, get_or-map}
use Rattle.std.proofs.lemmas.Option.{slice_get-get_or}
use Rattle.elf_types.specs.declared.records.Class.{Class}
use Rattle.elf_types.specs.declared.records.Order.{Order}
use Rattle.elf_types.specs.declared.records.Ehdr.{Ehdr}
use Rattle.elf_types.specs.declared.records.Shdr.{Shdr}
use Rattle.elf_xlate.specs.declared.content.Items.{Items}
use Rattle.elf_xlate.specs.Translation.{encoded}
use Rattle.law_rebuild.specs.elf_ident.Front.{zero_shdr}
use Rattle.law_rebuild.specs.elf_object.Object.{Object, Section, header_of, section_at, absent_section, new_section, occupies_file, has_file_bytes}
use Rattle.law_rebuild.specs.elf_object.Open.{created_over}
use Rattle.law_rebuild.specs.elf_object.Joined.{aligned_pieces, file_bytes}
use Rattle.law_rebuild.specs.elf_object.Steps.{stored_ehdr, with_ehdr, with_phdrs}
use Rattle.law_rebuild.proofs.law_object.ImageLaws.{joined-none}
use Rattle.law_rebuild.proofs.law_object.StandLaws.{file_bytes_when}
use Rattle.rebuild_tables.specs.elf_descriptor.State.{State}
use Rattle.law_rebuild.specs.rebuild_model.Arranged.{over_base}
use Rattle.law_rebuild.specs.rebuild_model.Followed.{kept_from_1}
use Rattle.law_rebuild.specs.rebuild_model.Rebuilt.{made_section, assembled}
use Rattle.law_rebuild.proofs.strip.MadeSections.{header_made, made_bytes}
use Rattle.rebuild_tables.specs.rebuild_making.Making.{sections_by}
use Rattle.rebuild_tables.specs.rebuild_image.Listed.Listing.{IsHeaderListing}
use Rattle.rebuild_tables.specs.rebuild_image.declared.ranges.ranges.ByteRange.{ByteRange}
use Rattle.rebuild_tables.specs.rebuild_image.Ranges.Ranges.{range_bytes, pieces_at}
use Rattle.rebuild_tables.specs.rebuild_keep.declared.keepers.Keeper.{Keeper}
use Rattle.rebuild_tables.specs.rebuild_keep.Keepers.{header_by, items_by, index_by}
use Rattle.rebuild_tables.specs.rebuild_keep.Answers.{filled_sections, sections_of}
use Rattle.rebuild_tables.proofs.rebuild_image.HomeLaws.{made_pieces}
use Rattle.rebuild_plan.specs.declared.contents.Contents.{Contents}
use Rattle.rebuild_plan.specs.Ranges.{bytes_by}
use Rattle.rebuild_plan.specs.Contents.{kept_size, AreKeptSections, HasKept, HasContents}
use Rattle.rebuild_plan.specs.Plans.{new_header, HasRanges, listed_of, IsGatheredOf}

-- ---- An object of section 0 and of sections that are made

no_bytes_first : (c : Section) → has_file_bytes 0 c ≡ false
unfolding has_file_bytes
no_bytes_first c = refl

module _ (p : Object) (header : ℕ → Shdr) (made : ℕ → Items) (numbers : List ℕ)
    (sections : p.sections ≡ new_section ∷ sections_by header made numbers) where
  first_at : section_at p 0 ≡ new_section
  unfolding section_at
  first_at = ap (λ (l : List Section). get_or l 0 absent_section) sections

  later_at : (j : ℕ) → j < length numbers
      → section_at p (suc j)
      ≡ made_section (header (get_or numbers j 0)) (made (get_or numbers j 0))
  unfolding section_at sections_by
  later_at j there =
      ap (λ (l : List Section). get_or l (suc j) absent_section) sections
      ∙ get_or-map (λ s. made_section (header s) (made s)) numbers j 0 absent_section there

  later_header : (j : ℕ) → j < length numbers
      → (section_at p (suc j)).header ≡ header (get_or numbers j 0)
  later_header j there =
      ap (λ (c : Section). c.header) (later_at j there)
      ∙ header_made (header (get_or numbers j 0)) (made (get_or numbers j 0))

  section_count : length p.sections ≡ length numbers + 1
  unfolding sections_by
  section_count =
      let all = ap (λ (l : List Section). length l) sections in
      let long = length-map numbers (λ s. made_section (header s) (made s)) in
      omega (arith, all, long)

  abbrev bytes_of : ℕ → List ℕ
  bytes_of s = encoded p.header.class p.header.order (made s)

  first_size : length (file_bytes p 0) ≡ 0
  first_size =
      ap (λ (l : List ℕ). length l) (joined-none p 0 (no_bytes_first (section_at p 0)))

  later_size : (j : ℕ) → j < length numbers
      → length (file_bytes p (suc j))
      ≡ kept_size (header (get_or numbers j 0)) (length (bytes_of (get_or numbers j 0)))
  later_size j there =
      let t = get_or numbers j 0 in by_kind (occupies_file (header t)) refl
    where
      by_kind : (b : Bool) → occupies_file (header (get_or numbers j 0)) ≡ b
          → length (file_bytes p (suc j))
          ≡ kept_size (header (get_or numbers j 0)) (length (bytes_of (get_or numbers j 0)))
      by_kind true is =
          ap (λ (l : List ℕ). length l)
          (made_bytes p (suc j) (header (get_or numbers j 0)) (made (get_or numbers j 0))
          (later_at j there) (omega arith) is)
          ∙ sym (ap (λ (b : Bool).
          if b then length (bytes_of (get_or numbers j 0)) else 0) is)
      by_kind false is =
          ap (λ (l : List ℕ). length l)
          (joined-none p (suc j)
          (file_bytes_when (suc j) (section_at p (suc j)) (omega arith)
          ∙ ap (λ (h : Shdr). occupies_file h) (later_header j there)
          ∙ is))
          ∙ sym (ap (λ (b : Bool).
          if b then length (bytes_of (get_or numbers j 0)) else 0) is)

  -- ---- What was kept of it

  module _ (told : Bool) (t : IsTrue told) (base : List ℕ) (bytes : ℕ → List ℕ) (x : Contents)
      (kept : AreKeptSections told base header bytes numbers x)
      (bytes_are : (s : ℕ) → bytes s ≡ bytes_of s) where
    below_from : (j : ℕ) → suc j < length p.sections → j < length numbers
    below_from j there = let count = section_count in omega (arith, there, count)

    header_kept : (s : ℕ) → s < length p.sections
        → get_or x.headers s zero_shdr ≡ (section_at p s).header
    header_kept zero there =
        ap (λ (l : List Shdr). get_or l 0 zero_shdr) kept.headers
        ∙ sym (ap (λ (c : Section). c.header) first_at)
    header_kept (suc j) there =
        ap (λ (l : List Shdr). get_or l (suc j) zero_shdr) kept.headers
        ∙ get_or-map header numbers j 0 zero_shdr (below_from j there)
        ∙ sym (later_header j (below_from j there))

    size_kept : (s : ℕ) → s < length p.sections → get_or x.sizes s 0 ≡ length (file_bytes p s)
    size_kept zero there =
        ap (λ (l : List ℕ). get_or l 0 0) (kept.sizes t) ∙ sym first_size
    size_kept (suc j) there =
        ap (λ (l : List ℕ). get_or l (suc j) 0) (kept.sizes t)
        ∙ get_or-map (λ s. kept_size (header s) (length (bytes s))) numbers j 0 0
        (below_from j there)
        ∙ ap (λ (l : List ℕ). kept_size (header (get_or numbers j 0)) (length l))
        (bytes_are (get_or numbers j 0))
        ∙ sym (later_size j (below_from j there))

    pub kept_listed : (h : Ehdr) → h ≡ header_of p
        → IsHeaderListing p (record { header = h; headers = x.headers; sizes = x.sizes })
    kept_listed h header_is =
        let count = section_count in
        let all = ap (λ (l : List Shdr). length l) kept.headers in
        let long = length-map numbers header in
        let sized = kept.sized in
        record {
          header = header_is;
          count = omega (arith, count, all, long);
          sized = omega (arith, count, sized);
          headers = header_kept;
          sizes = size_kept;
          small = λ s there.
              let same = size_kept s there in
              let below = kept.small s 0 (omega (arith, there, count, sized)) in
              omega (arith, same, below);
        }

    abbrev no_range : ByteRange
    no_range = record { held = true; at = 0; len = 0 }

    range_count : (later : List ℕ) → length x.ranges ≡ length numbers + 1
    range_count later =
        let all = ap (λ (l : List (List ℕ)). length l) (kept.ranges t later) in
        let ranges = length-map x.ranges (range_bytes (x.held ++ later) base) in
        let stated = length-map numbers bytes in
        omega (arith, all, ranges, stated)

    range_kept : (j : ℕ) (later : List ℕ) → suc j < length p.sections
        → pieces_at (x.held ++ later) base (slice_get x.ranges (suc j))
        ≡ (1, bytes_of (get_or numbers j 0)) ∷ []
    range_kept j later there =
        let put = range_bytes (x.held ++ later) base in
        let long = range_count later in
        let within = below_from j there in
        let below : suc j < length x.ranges = omega (arith, long, within) in
        let one : List ℕ → List (ℕ × List ℕ) = λ l. (1, l) ∷ [] in
        ap (pieces_at (x.held ++ later) base) (slice_get-get_or x.ranges (suc j) no_range below)
        ∙ ap one (sym (get_or-map put x.ranges (suc j) no_range [] below)
        ∙ ap (λ (l : List (List ℕ)). get_or l (suc j) []) (kept.ranges t later)
        ∙ get_or-map bytes numbers j 0 [] within
        ∙ bytes_are (get_or numbers j 0))

    kept_range : (s : ℕ) → 0 < s → s < length p.sections
        → occupies_file (section_at p s).header ≡ true → (later : List ℕ)
        → pieces_at (x.held ++ later) base (slice_get x.ranges s)
        ≡ aligned_pieces p.header.class p.header.order (section_at p s)
    kept_range zero first there filled later = absurd (omega (arith, first))
    kept_range (suc j) first there filled later =
        range_kept j later there
        ∙ sym (ap (aligned_pieces p.header.class p.header.order)
        (later_at j (below_from j there))
        ∙ made_pieces p.header.class p.header.order (header (get_or numbers j 0))
        (made (get_or numbers j 0))
        (ap (λ (h : Shdr). occupies_file h) (sym (later_header j (below_from j there)))
        ∙ filled))

    pub kept_ranges : HasRanges p base x.held x.ranges
    kept_ranges = record { each = kept_range }

-- ---- An object without sections

module _ (p : Object) (none : p.sections ≡ []) where
  count_none : length p.sections ≡ 0
  count_none = ap (λ (l : List Section). length l) none

  pub none_listed : (x : Contents) (h : Ehdr) → x.headers ≡ [] → x.sizes ≡ [] → h ≡ header_of p
      → IsHeaderListing p (record { header = h; headers = x.headers; sizes = x.sizes })
  none_listed x h headers sizes header_is =
      let count = count_none in
      record {
        header = header_is;
        count = ap (λ (l : List Shdr). length l) headers ∙ sym count;
        sized = ap (λ (l : List ℕ). length l) sizes ∙ sym count;
        headers = λ s there. absurd (omega (arith, there, count));
        sizes = λ s there. absurd (omega (arith, there, count));
        small = λ s there. absurd (omega (arith, there, count));
      }

  pub none_ranges : (base held : List ℕ) (ranges : List ByteRange) → HasRanges p base held ranges
  none_ranges base held ranges = record {
    each = λ s first there filled later.
        let count = count_none in absurd (omega (arith, there, count));
  }

-- ---- The object that is made

record IsMadeFront (o p : Object) (tail : Option ℕ) (index : ℕ) (sections : List Section)
    : Type 0 where
  class : p.header.class ≡ o.header.class
  order : p.header.order ≡ o.header.order
  header : new_header o index (length sections) ≡ header_of p
  sections_are : p.sections ≡ sections
  layout : p.layout ≡ is_some tail
  base : take (unwrap_or tail 0) o.base ≡ p.base
  pad : p.pad ≡ replicate 7 0
  phdrs : p.phdrs ≡ o.phdrs
  fill : p.fill ≡ 0

made_front : (o : Object) (tail : Option ℕ) (index : ℕ) (sections : List Section)
    → IsMadeFront o (assembled (over_base o tail) o index sections) tail index sections
unfolding assembled over_base created_over with_ehdr stored_ehdr with_phdrs new_header header_of
made_front o None index sections = record {
  class = refl;
  order = refl;
  header = refl;
  sections_are = refl;
  layout = refl;
  base = refl;
  pad = refl;
  phdrs = refl;
  fill = refl;
}
made_front o (Some n) index sections = record {
  class = refl;
  order = refl;
  header = refl;
  sections_are = refl;
  layout = refl;
  base = refl;
  pad = refl;
  phdrs = refl;
  fill = refl;
}

base_long : (o : Object) (tail : Option ℕ) → IfSome tail (λ n. n ≤ length o.base)
    → length (take (unwrap_or tail 0) o.base) ≡ unwrap_or tail 0
base_long o None within = refl
base_long o (Some n) within = length-take-le n o.base within

-- ---- What was kept is what an object has that is made of it

module _ (o : Object) (tail : Option ℕ) (index : ℕ) (header : ℕ → Shdr) (made : ℕ → Items)
    (numbers : List ℕ) (count : ℕ) (sections : List Section) (empty : count ≡ 0 → sections ≡ [])
    (filled : (count ≡ 0 → ⊥) → sections ≡ new_section ∷ sections_by header made numbers)
    (told : Bool) (base : List ℕ) (bytes : ℕ → List ℕ) (x : Contents)
    (has : HasKept told base header bytes numbers count x) where
  pub kept_count : length x.headers ≡ length sections
  unfolding sections_by
  kept_count = elim (cases_eq count 0) [
    | inl none ↦
        ap (λ (l : List Shdr). length l) (has.none none).0
        ∙ sym (ap (λ (l : List Section). length l) (empty none))
    | inr some ↦
        let all = ap (λ (l : List Shdr). length l) (has.some some).headers in
        let long = length-map numbers header in
        let stated = ap (λ (l : List Section). length l) (filled some) in
        let each = length-map numbers (λ n. made_section (header n) (made n)) in
        omega (arith, all, long, stated, each)
  ]

  abbrev p : Object
  p = assembled (over_base o tail) o index sections

  front : IsMadeFront o p tail index sections
  front = made_front o tail index sections

  new_header_is : new_header o index (length x.headers) ≡ header_of p
  new_header_is = ap (new_header o index) kept_count ∙ front.header

  module _ (t : IsTrue told)
      (made_as : (n : ℕ) → bytes n ≡ encoded o.header.class o.header.order (made n))
      (within : IfSome tail (λ n. n ≤ length o.base))
      (below : take (unwrap_or tail 0) base ≡ take (unwrap_or tail 0) o.base) where
    made_in : (n : ℕ) → bytes n ≡ encoded p.header.class p.header.order (made n)
    made_in n =
        made_as n
        ∙ sym (ap (λ (c : Class). encoded c p.header.order (made n)) front.class
        ∙ ap (λ (d : Order). encoded o.header.class d (made n)) front.order)

    gathered_by : IsHeaderListing p (listed_of o index x) → HasRanges p base x.held x.ranges
        → IsGatheredOf o index x tail base p
    gathered_by listed ranges = record {
      listed = listed;
      layout = front.layout;
      long = ap (λ (l : List ℕ). length l) (sym front.base) ∙ base_long o tail within;
      pad = front.pad;
      segments = front.phdrs;
      fill = front.fill;
      below = below ∙ front.base;
      ranges = ranges;
    }

    pub gathered_over : IsGatheredOf o index x tail base p
    gathered_over = elim (cases_eq count 0) [
      | inl none ↦
          let no_sections : p.sections ≡ [] = front.sections_are ∙ empty none in
          gathered_by
          (none_listed p no_sections x (new_header o index (length x.headers))
          (has.none none).0 (has.none none).1 new_header_is)
          (none_ranges p no_sections base x.held x.ranges)
      | inr some ↦
          let are = front.sections_are ∙ filled some in
          gathered_by
          (kept_listed p header made numbers are told t base bytes x (has.some some) made_in
          (new_header o index (length x.headers)) new_header_is)
          (kept_ranges p header made numbers are told t base bytes x (has.some some) made_in)
    ]

-- ---- The sections that are made with these headers and items

module _ (o : Object) (header : ℕ → Shdr) (made : ℕ → Items) (numbers : List ℕ) where
  pub filled_none : length o.sections ≡ 0 → filled_sections o header made numbers ≡ []
  unfolding filled_sections
  filled_none none =
      ap (λ (b : Bool). if b then [] else new_section ∷ sections_by header made numbers)
      (eq-eqb (length o.sections) 0 none)

  pub filled_some : (length o.sections ≡ 0 → ⊥)
      → filled_sections o header made numbers ≡ new_section ∷ sections_by header made numbers
  unfolding filled_sections
  filled_some some =
      ap (λ (b : Bool). if b then [] else new_section ∷ sections_by header made numbers)
      (ne_eqb (length o.sections) 0 some)

-- by a keeper
module _ {S : Type 0} (k : Keeper) (s : State S) (x : Contents) (has : HasContents k s x) where
  abbrev numbers : List ℕ
  numbers = kept_from_1 s.o k.removed.now

  none : length s.o.sections ≡ 0 → sections_of k s.o ≡ []
  none = filled_none s.o (header_by k s.o) (items_by k s.o) numbers

  some : (length s.o.sections ≡ 0 → ⊥) → sections_of k s.o
      ≡ new_section ∷ sections_by (header_by k s.o) (items_by k s.o) numbers
  some = filled_some s.o (header_by k s.o) (items_by k s.o) numbers

  pub contents_count : length x.headers ≡ length (sections_of k s.o)
  contents_count =
      kept_count s.o None 0 (header_by k s.o) (items_by k s.o) numbers (length s.o.sections)
      (sections_of k s.o) none some s.told s.o.base (bytes_by k s.o) x has

  made_by : (n : ℕ)
      → bytes_by k s.o n ≡ encoded s.o.header.class s.o.header.order (items_by k s.o n)
  unfolding bytes_by
  made_by n = refl

  pub gathered : (tail : Option ℕ) → IsTrue s.told → IfSome tail (λ n. n ≤ length s.o.base)
      → IsGatheredOf s.o (index_by k s.o) x tail s.o.base
      (assembled (over_base s.o tail) s.o (index_by k s.o) (sections_of k s.o))
  gathered tail told within =
      gathered_over s.o tail (index_by k s.o) (header_by k s.o) (items_by k s.o) numbers
      (length s.o.sections) (sections_of k s.o) none some s.told s.o.base (bytes_by k s.o) x has
      told made_by within refl

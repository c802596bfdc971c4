-- The object of a plan over the bytes that were read is an object, and it was created and filled
-- with items of the planned kinds.
use Rattle.std.proofs.Common.{◌≡◌, ◌⊎◌, inl, inr, ℕ, zero, suc, ◌+◌, ◌-◌, ◌^◌, ◌<◌, ◌≤◌, ◌&&◌, Bool, true, false, List, [], length, take, drop, get_or, Option, None, Some, if◌then◌else◌, refl, sym, ap, ◌∙◌, subst, arith, lit<}
use Rattle.std.specs.Prelude.{All}
use Rattle.std.proofs.lemmas.List.{length-drop, length-replicate, length-take, length-take-le}
use Rattle.std.proofs.lemmas.List.Elements.{All-drop, All-from_get_or, All-nil, All-replicate, All-take}
use Rattle.elf_types.specs.declared.constants.TheConstants.{MAX_SECTIONS}
use Rattle.elf_types.specs.declared.records.Class.{Class}
use Rattle.elf_types.specs.declared.records.Kind.{Kind}
use Rattle.elf_types.specs.declared.records.Kind.TheVariants as kinds
use Rattle.elf_types.specs.declared.records.Shdr.{Shdr}
use Rattle.elf_types.specs.Lists.{AreBytes}
use Rattle.elf_xlate.specs.declared.content.Items.{Items}
use Rattle.elf_xlate.specs.declared.content.Items.TheVariants as items
use Rattle.elf_xlate.specs.Fields.{fits}
use Rattle.elf_xlate.specs.Headers.{ehdr_fits}
use Rattle.elf_xlate.specs.Items.{sym_fits, rel_fits, rela_fits, dyn_fits, IsSym, IsRel, IsRela, IsDyn}
use Rattle.elf_xlate.specs.Translation.{AreItems, first_unfit, is_whole, items_kind}
use Rattle.elf_xlate.proofs.Pieces.{all_pass}
use Rattle.elf_object.specs.Object.{Object, Section, absent_section, new_section, occupies_file, section_at}
use Rattle.elf_object.specs.Open.{created_over}
use Rattle.elf_object.specs.Steps.{stored_ehdr, with_ehdr, with_layout, with_phdrs, with_sections}
use Rattle.elf_object.specs.Valid.{IsObject, IsSection}
use Rattle.law_rebuild.proofs.law_object.KeepLaws.{new_section_is}
use Rattle.law_rebuild.proofs.strip.SectionLaws.{made_section_is}
use Rattle.rebuild_model.specs.Arranged.{over_base}
use Rattle.rebuild_model.specs.Rebuilt.{made_section}
use Rattle.rebuild_plan.specs.rebuild_image.declared.ranges.ranges.ByteRange.{ByteRange}
use Rattle.rebuild_plan.specs.rebuild_image.Ranges.Ranges.{IsInside, bytes_under, range_bytes}
use Rattle.rebuild_plan.specs.rebuild_keep.Homes.{decoded_items}
use Rattle.rebuild_plan.specs.declared.arranged.Arranged.{Arranged}
use Rattle.rebuild_object.specs.Objects.{Bases, AreBasesOf, arranged_header, arranged_kind, bases_of, items_over, kind_at, object_from_arranged, object_over, range_in, sections_over}
use Rattle.rebuild_object.specs.Planned.{IsCreatedWith, IsMadeWith}
use Rattle.rebuild_object.specs.Fitting.{IsArrangementReady, IsSectionReady}
use Rattle.rebuild_object.proofs.CreatedLaws.{made_with}
use Rattle.rebuild_object.proofs.FillLaws.{fits_parts, long_over, some_over}
use Rattle.rebuild_object.proofs.ItemLaws.{something_over}
use Rattle.rebuild_object.proofs.PlanLaws.{made_without}
pub use Rattle.rebuild_object.proofs.ReadItemLaws.{AreReadItems, read_items}
use Rattle.rebuild_object.proofs.ReadLaws.{chosen}
use Rattle.rebuild_object.proofs.StatedLaws.{stated_at}

-- where the object's base was read
pub from_over : (o : Object) (x : Arranged)
    → object_from_arranged o x ≡ object_over (bases_of o.base) o x
from_over o x = refl

-- ---- The bytes of a range

module _ (held base over : List ℕ) (range : ByteRange) (inside : IsInside held base range)
    (long : length over ≡ length base) where
  pub range_long : length (range_bytes held over range) ≡ range.len
  range_long = by range.held inside
    where
      by : (t : Bool) → range.at + range.len ≤ length (if t then held else base)
          → length (take range.len (drop range.at (if t then held else over))) ≡ range.len
      by true within =
          length-take-le range.len (drop range.at held)
          (omega (arith, within, length-drop range.at held))
      by false within =
          length-take-le range.len (drop range.at over)
          (omega (arith, within, long, length-drop range.at over))

  pub range_are : AreBytes held → AreBytes over → AreBytes (range_bytes held over range)
  range_are some others =
      All-take (λ n. n < 2 ^ 8) range.len (drop range.at (bytes_under held over range))
      (All-drop (λ n. n < 2 ^ 8) range.at (bytes_under held over range)
      (chosen range.held AreBytes held over some others))

-- ---- No items

-- of a kind, of which there are none
abbrev pub nothing_of : Kind → Items
nothing_of kinds.Empty = items.Empty
nothing_of kinds.Bytes = items.Bytes []
nothing_of kinds.Half = items.Half []
nothing_of kinds.Word = items.Word []
nothing_of kinds.Addr = items.Addr []
nothing_of kinds.Sym = items.Sym []
nothing_of kinds.Rel = items.Rel []
nothing_of kinds.Rela = items.Rela []
nothing_of kinds.Dyn = items.Dyn []

pub nothing_is : (class : Class) (kind : Kind) → (items_kind (nothing_of kind) ≡ kind)
    × AreItems (nothing_of kind)
    × (first_unfit class (nothing_of kind) ≡ None)
unfolding first_unfit
nothing_is class kinds.Empty = (refl, tt, refl)
nothing_is class kinds.Bytes = (refl, All-nil (λ n. n < 2 ^ 8), refl)
nothing_is class kinds.Half = (refl, All-nil (λ n. n < 2 ^ 16), refl)
nothing_is class kinds.Word = (refl, All-nil (λ n. n < 2 ^ 32), refl)
nothing_is class kinds.Addr =
    (refl, All-nil (λ n. n < 2 ^ 64), all_pass (fits class) [] (All-nil (λ n. fits class n ≡ true)))
nothing_is class kinds.Sym =
    (refl, All-nil IsSym, all_pass (sym_fits class) [] (All-nil (λ n. sym_fits class n ≡ true)))
nothing_is class kinds.Rel =
    (refl, All-nil IsRel, all_pass (rel_fits class) [] (All-nil (λ n. rel_fits class n ≡ true)))
nothing_is class kinds.Rela =
    (refl, All-nil IsRela, all_pass (rela_fits class) [] (All-nil (λ n. rela_fits class n ≡ true)))
nothing_is class kinds.Dyn =
    (refl, All-nil IsDyn, all_pass (dyn_fits class) [] (All-nil (λ n. dyn_fits class n ≡ true)))

-- ---- The object of a plan

module _ (o : Object) (b : Bases) (x : Arranged) (is : IsObject o) (suit : AreBasesOf o b)
    (ready : IsArrangementReady o x) where
  abbrev made : List Section
  made = sections_over b o x

  count : length made ≡ length x.listed.headers
  count = long_over b o x

  some_made : (i : ℕ) → i < length made → length x.listed.headers ≡ 0 → ⊥
  some_made i below none = let long = count in omega (arith, below, none, long)

  pub first_made : 0 < length made → get_or made 0 absent_section ≡ new_section
  first_made below =
      ap (λ (l : List Section). get_or l 0 absent_section) (some_over b o x (some_made 0 below))

  pub other_made : (j : ℕ) → suc j < length made → get_or made (suc j) absent_section
      ≡ made_section (arranged_header x (suc j)) (items_over b o x (suc j))
  other_made j below =
      let long = count in
      let low : j < length x.listed.headers - 1 = omega (arith, below, long) in
      let next : 1 + j ≡ suc j = omega arith in
      ap (λ (l : List Section). get_or l (suc j) absent_section)
      (some_over b o x (some_made (suc j) below))
      ∙ stated_at (arranged_header x) (items_over b o x) (length x.listed.headers - 1) j low next

  ready_at : (s : ℕ) → s < length made
      → IsSectionReady o x.held (arranged_header x s) (range_in x s) (arranged_kind x s)
  ready_at s below = let long = count in ready.sections s (omega (arith, below, long))

  -- ---- It is an object

  section_is : (i : ℕ) → i < length made
      → IsSection o.header.class (get_or made i absent_section)
  section_is zero below =
      subst (IsSection o.header.class) (sym (first_made below)) (new_section_is o.header.class)
  section_is (suc j) below =
      let here = ready_at (suc j) below in
      subst (IsSection o.header.class) (sym (other_made j below))
      (made_section_is o.header.class (arranged_header x (suc j)) (items_over b o x (suc j))
      here.shdr here.fits)

  all_are : All (IsSection o.header.class) made
  all_are = All-from_get_or (IsSection o.header.class) made absent_section section_is

  few_made : length made ≤ MAX_SECTIONS
  few_made = let long = count in let few = ready.counted.few in omega (arith, long, few)

  index_none : made ≡ [] → x.listed.header.shstrndx ≡ 0
  index_none none = by ready.header.index
    where
      by : (x.listed.header.shstrndx ≡ 0) ⊎ (x.listed.header.shstrndx < length x.listed.headers)
          → x.listed.header.shstrndx ≡ 0
      by (inl zero_is) = zero_is
      by (inr below) =
          let long = count in
          let nothing : length made ≡ 0 = ap (λ (l : List Section). length l) none in
          absurd (omega (arith, below, long, nothing))

  header_fits : (fits o.header.class x.listed.header.entry
      && fits o.header.class x.listed.header.phoff
      && fits o.header.class x.listed.header.shoff) ≡ true
  header_fits =
      ap (λ (c : Class). fits c x.listed.header.entry && fits c x.listed.header.phoff
      && fits c x.listed.header.shoff) (sym ready.header.class)
      ∙ fits_parts x.listed.header ready.header.fits

  over_bytes : (base : List ℕ) (layout : Bool) → AreBytes base → length base < 2 ^ 64
      → IsObject (with_ehdr (with_phdrs (with_sections
      (with_layout (created_over o.header.class o.header.order base) layout) made) o.phdrs)
      x.listed.header)
  unfolding with_ehdr stored_ehdr with_phdrs created_over ehdr_fits
  over_bytes base layout are small =
      let h = ready.header.ehdr in
      let segments = is.phdr_count in
      let few : length made ≤ 2 ^ 20 = few_made in
      record {
        header = record {
          osabi = h.osabi;
          abiversion = h.abiversion;
          etype = h.etype;
          machine = h.machine;
          version = lit< tt;
          entry = h.entry;
          phoff = h.phoff;
          shoff = h.shoff;
          flags = h.flags;
          ehsize = lit< tt;
          phentsize = lit< tt;
          phnum = omega (arith, segments);
          shentsize = lit< tt;
          shnum = omega (arith, few);
          shstrndx = h.shstrndx;
        };
        fitting = header_fits;
        phnum = refl;
        shnum = refl;
        pad = length-replicate {A = ℕ} 7 0;
        pad_bytes = All-replicate (λ n. n < 2 ^ 8) 7 0 (lit< tt);
        phdr_count = segments;
        sections = all_are;
        section_count = few;
        string_index = index_none;
        base = are;
        base_length = small;
        fill = lit< tt;
      }

  over_tail : (tail : Option ℕ) → IsObject (with_ehdr (with_phdrs (with_sections
      (over_base (record o { base = b.front }) tail) made) o.phdrs) x.listed.header)
  unfolding over_base created_over
  over_tail None = over_bytes [] false (All-nil (λ n. n < 2 ^ 8)) (lit< tt)
  over_tail (Some tail) =
      let size = length-take tail b.front in
      let long = suit.front_long in
      let small = is.base_length in
      over_bytes (take tail b.front) true
      (All-take (λ n. n < 2 ^ 8) tail b.front suit.front_bytes)
      (omega (arith, size, long, small))

  pub over_is_object : IsObject (object_over b o x)
  unfolding object_over
  over_is_object = over_tail x.tail

  -- ---- It was created and filled with items of the planned kinds

  module _ (j : ℕ) (below : suc j < length made) where
    abbrev h : Shdr
    h = arranged_header x (suc j)

    abbrev kind : Kind
    kind = arranged_kind x (suc j)

    abbrev bytes : List ℕ
    bytes = range_bytes x.held (b.each (suc j)) (range_in x (suc j))

    here : IsSectionReady o x.held h (range_in x (suc j)) kind
    here = ready_at (suc j) below

    whole : is_whole kind o.header.class (length bytes) ≡ true
    whole =
        ap (λ (n : ℕ). is_whole kind o.header.class n)
        (range_long x.held o.base (b.each (suc j)) (range_in x (suc j)) here.inside
        (suit.long (suc j)))
        ∙ here.whole

    are_bytes : AreBytes bytes
    are_bytes =
        range_are x.held o.base (b.each (suc j)) (range_in x (suc j)) here.inside
        (suit.long (suc j)) ready.held (suit.bytes (suc j))

    by_bytes : (t : Bool) → occupies_file h ≡ t
        → IsMadeWith o.header.class kind (get_or made (suc j) absent_section)
    by_bytes true filled =
        let read = read_items kind o.header.class o.header.order bytes whole are_bytes
        (here.kind_is filled) in
        made_with o.header.class kind (get_or made (suc j) absent_section) h
        (decoded_items kind o.header.class o.header.order bytes)
        (other_made j below
        ∙ ap (made_section h) (something_over o.header.class o.header.order x.held
        (b.each (suc j)) h (range_in x (suc j)) kind filled))
        read.kind_is read.are read.fits
    by_bytes false none =
        let nothing = nothing_is o.header.class kind in
        made_with o.header.class kind (get_or made (suc j) absent_section) h (nothing_of kind)
        (other_made j below ∙ made_without h (items_over b o x (suc j)) (nothing_of kind) none)
        nothing.0 nothing.1 nothing.2

    other_with : IsMadeWith o.header.class kind (get_or made (suc j) absent_section)
    other_with = by_bytes (occupies_file h) refl

  others_with : (s : ℕ) → 0 < s → s < length made
      → IsMadeWith o.header.class (kind_at x.kinds s) (get_or made s absent_section)
  others_with zero some below = absurd (omega (arith, some))
  others_with (suc j) some below = other_with j below

  created_over_tail : (tail : Option ℕ) → IsCreatedWith o x.kinds (with_ehdr (with_phdrs
      (with_sections (over_base (record o { base = b.front }) tail) made) o.phdrs)
      x.listed.header)
  unfolding over_base created_over with_ehdr with_phdrs stored_ehdr section_at
  created_over_tail None = record {
    class = refl;
    order = refl;
    header = record { version = refl; ehsize = refl; phentsize = refl; shentsize = refl };
    front = refl;
    marked = refl;
    header_marked = refl;
    segments_marked = refl;
    first = first_made;
    others = others_with;
  }
  created_over_tail (Some n) = record {
    class = refl;
    order = refl;
    header = record { version = refl; ehsize = refl; phentsize = refl; shentsize = refl };
    front = refl;
    marked = refl;
    header_marked = refl;
    segments_marked = refl;
    first = first_made;
    others = others_with;
  }

  pub over_is_created : IsCreatedWith o x.kinds (object_over b o x)
  unfolding object_over
  over_is_created = created_over_tail x.tail

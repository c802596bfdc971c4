-- What an object can be made of lists that object: its headers, and a range for each section.
use Rattle.std.proofs.Common.{◌≡◌, ◌+◌, ◌<◌, ◌≤◌, ◌^◌, ℕ, zero, suc, Bool, true, false, List, [], ◌∷◌, ◌++◌, length, take, drop, get_or, Option, None, Some, if◌then◌else◌, refl, sym, ap, ◌∙◌, arith}
use Rattle.std.specs.Prelude.{IfSome, nat_le, slice_index, unwrap_or, is_some}
use Rattle.std.proofs.Math.ListN.{replicate}
use Rattle.std.proofs.lemmas.List.{append-nil, drop-take, length-take-le}
use Rattle.std.proofs.lemmas.Option.{unwrap_or-slice_get}
use Rattle.elf_types.specs.declared.constants.TheConstants.{EV_CURRENT, PN_XNUM, SHT_STRTAB}
use Rattle.elf_types.specs.declared.records.Class.{Class}
use Rattle.elf_types.specs.declared.records.Order.{Order}
use Rattle.elf_types.specs.declared.records.Ehdr.{Ehdr}
use Rattle.elf_types.specs.declared.records.Kind.{Kind}
use Rattle.elf_types.specs.declared.records.Kind.TheVariants as kinds
use Rattle.elf_types.specs.declared.records.Phdr.{Phdr}
use Rattle.elf_types.specs.declared.records.Shdr.{Shdr}
use Rattle.elf_types.specs.declared.errors.ElfError.TheVariants.{TooMany}
use Rattle.elf_xlate.specs.declared.content.Items.{Items}
use Rattle.elf_xlate.specs.Translation.{AreItems, items_kind, encoded, first_unfit, is_whole}
use Rattle.elf_ident.specs.Front.{zero_shdr}
use Rattle.elf_object.specs.Object.{Object, Section, header_of, section_at, absent_section, new_section, occupies_file}
use Rattle.elf_object.specs.Open.{created_over, new_ehdr}
use Rattle.elf_object.specs.Steps.{own_piece, stored_ehdr, with_ehdr, with_phdrs, with_sections}
use Rattle.elf_object.specs.Valid.{IsObject}
use Rattle.elf_object.proofs.PassedLaws.{not_refused}
use Rattle.rebuild_model.specs.Arranged.{over_base}
use Rattle.rebuild_model.specs.Rebuilt.{made_section}
use Rattle.rebuild_plan.specs.rebuild_image.declared.ranges.ranges.ByteRange.{ByteRange}
use Rattle.rebuild_plan.specs.rebuild_image.Ranges.Ranges.{range_bytes, IsInside}
use Rattle.rebuild_plan.specs.rebuild_keep.Homes.{decoded_items}
use Rattle.rebuild_plan.specs.declared.arranged.Arranged.{Arranged}
use Rattle.rebuild_plan.specs.Contents.{kept_size}
use Rattle.rebuild_object.specs.Objects.{Bases, AreBasesOf, no_range, arranged_header, range_in, arranged_kind, items_over, sections_over, object_over}
use Rattle.rebuild_object.specs.Fitting.{IsSectionReady, IsHeaderReady, IsArrangementReady}
use Rattle.rebuild_object.specs.Planned.{IsCreatedWith}
use Rattle.rebuild_object.proofs.FillLaws.{long_over}
use Rattle.rebuild_object.proofs.ItemLaws.{something_over}
use Rattle.rebuild_object.proofs.PlanLaws.{made_without}
use Rattle.rebuild_object.proofs.OverLaws.{AreReadItems, read_items, range_long, range_are, nothing_of, nothing_is, first_made, other_made, over_is_object, over_is_created}
use Rattle.rebuild_copy.specs.Rows.{empty_held_range, gathered_header, size_in, gathered_range, gathered_kind, IsGatheredSection, RowOf, HasFrameOf, IsListedAs}
use Rattle.rebuild_copy.specs.Plans.{origin_over}
use Rattle.rebuild_copy.proofs.RowLaws.{zero_empty, row_as, class_as, segments_same}

-- ---- Lists

pub get_or_same : {X : Type 0} (l : List X) (s : ℕ) (d e : X) → s < length l
    → get_or l s d ≡ get_or l s e
get_or_same [] s d e below = absurd (omega (arith, below))
get_or_same (x ∷ l) zero d e below = refl
get_or_same (x ∷ l) (suc s) d e below = get_or_same l s d e (omega (arith, below))

take_left : (n : ℕ) (l m : List ℕ) → n ≤ length l → take n (l ++ m) ≡ take n l
take_left zero l m le = refl
take_left (suc n) [] m le = absurd (omega (arith, le))
take_left (suc n) (x ∷ l) m le = ap (λ (r : List ℕ). x ∷ r) (take_left n l m (omega (arith, le)))

middle_left : (at n : ℕ) (l m : List ℕ) → at + n ≤ length l
    → take n (drop at (l ++ m)) ≡ take n (drop at l)
middle_left at n l m le =
    sym (drop-take at n (l ++ m)) ∙ ap (drop at) (take_left (at + n) l m le) ∙ drop-take at n l

-- a range stays, whatever is held behind what is held
range_stays : (held base over later : List ℕ) (range : ByteRange) → IsInside held base range
    → range_bytes (held ++ later) over range ≡ range_bytes held over range
range_stays held base over later range inside = by range.held inside
  where
    by : (t : Bool) → range.at + range.len ≤ length (if t then held else base)
        → take range.len (drop range.at (if t then held ++ later else over))
        ≡ take range.len (drop range.at (if t then held else over))
    by true within = middle_left range.at range.len held later within
    by false within = refl

kept_none : (h : Shdr) (n : ℕ) → occupies_file h ≡ false → kept_size h n ≡ 0
kept_none h n none = ap (λ (b : Bool). if b then n else 0) none

kept_some : (h : Shdr) (n : ℕ) → occupies_file h ≡ true → kept_size h n ≡ n
kept_some h n some = ap (λ (b : Bool). if b then n else 0) some

-- ---- One section

new_made : (own : Items) → new_section ≡ made_section zero_shdr own
unfolding made_section
new_made own =
    ap (λ (b : Bool). record (made_section zero_shdr own) {
      pieces = if b then own_piece own 1 ∷ [] else [];
    }) (sym zero_empty)

made_header : (h : Shdr) (own : Items) → (made_section h own).header ≡ h
unfolding made_section
made_header h own = refl

-- a section that is made with a header and items
module _ (class : Class) (order : Order) (base held : List ℕ) (c : Section) (h : Shdr) (size : ℕ)
    (range : ByteRange) (kind : Kind) (own : Items) (is : c ≡ made_section h own)
    (kind_is : items_kind own ≡ kind) (are : AreItems own) (fits : first_unfit class own ≡ None)
    (strings : h.stype ≡ SHT_STRTAB → items_kind own ≡ kinds.Bytes)
    (sized : size ≡ kept_size h (length (encoded class order own))) (small : size < 2 ^ 64)
    (bytes : occupies_file h ≡ true → (later : List ℕ)
    → range_bytes (held ++ later) base range ≡ encoded class order own) where
  head_is : h ≡ c.header
  head_is = sym (ap (λ (d : Section). d.header) is ∙ made_header h own)

  row_made : IsGatheredSection class order base held c h size range kind
  row_made = record {
    header = head_is;
    own = own;
    section = is ∙ ap (λ (k : Shdr). made_section k own) head_is;
    kind_is = kind_is;
    are = are;
    fits = fits;
    strings = λ typed. strings (ap (λ (k : Shdr). k.stype) head_is ∙ typed);
    size_is = sized
        ∙ ap (λ (k : Shdr). kept_size k (length (encoded class order own))) head_is;
    small = small;
    range_is = λ filled later. bytes (ap occupies_file head_is ∙ filled) later;
  }

-- ---- The front

-- a header that is new has the stored fields of itself
header_back : (o : Object) (e : Ehdr) (n : ℕ) → IsHeaderReady o e n → (k : ℕ) → n ≡ k
    → e ≡ record (stored_ehdr (new_ehdr o.header.class o.header.order) e) {
      phnum = length o.phdrs;
      shnum = k;
    }
unfolding stored_ehdr
header_back o e n is k same =
    ap (λ (c : Class). record e { class = c }) is.class
    ∙ ap (λ (d : Order). record e { class = o.header.class; order = d }) is.order
    ∙ ap (λ (v : ℕ). record e {
      class = o.header.class;
      order = o.header.order;
      version = v;
    }) is.new.version
    ∙ ap (λ (v : ℕ). record e {
      class = o.header.class;
      order = o.header.order;
      version = EV_CURRENT;
      ehsize = v;
    }) is.new.ehsize
    ∙ ap (λ (v : ℕ). record e {
      class = o.header.class;
      order = o.header.order;
      version = EV_CURRENT;
      ehsize = 0;
      phentsize = v;
    }) is.new.phentsize
    ∙ ap (λ (v : ℕ). record e {
      class = o.header.class;
      order = o.header.order;
      version = EV_CURRENT;
      ehsize = 0;
      phentsize = 0;
      shentsize = v;
    }) is.new.shentsize
    ∙ ap (λ (v : ℕ). record e {
      class = o.header.class;
      order = o.header.order;
      version = EV_CURRENT;
      ehsize = 0;
      phentsize = 0;
      shentsize = 0;
      phnum = v;
    }) is.phnum
    ∙ ap (λ (v : ℕ). record e {
      class = o.header.class;
      order = o.header.order;
      version = EV_CURRENT;
      ehsize = 0;
      phentsize = 0;
      shentsize = 0;
      phnum = length o.phdrs;
      shnum = v;
    }) (is.shnum ∙ same)

-- what follows from the tail
record HasBaseOf (b : Bases) (tail : Option ℕ) (q : Object) : Type 0 where
  layout : q.layout ≡ is_some tail
  long : length q.base ≡ unwrap_or tail 0
  base : take (unwrap_or tail 0) b.front ≡ q.base
  pad : q.pad ≡ replicate 7 0
  fill : q.fill ≡ 0

-- ---- All sections

module _ (o : Object) (b : Bases) (x : Arranged) (is : IsObject o) (suit : AreBasesOf o b)
    (ready : IsArrangementReady o x) where
  abbrev p : Object
  p = object_over b o x

  created : IsCreatedWith o x.kinds p
  created = over_is_created o b x is suit ready

  sections_are : p.sections ≡ sections_over b o x
  unfolding object_over with_ehdr with_phdrs
  sections_are = refl

  section_is : (s : ℕ) → section_at p s ≡ get_or (sections_over b o x) s absent_section
  unfolding section_at
  section_is s = ap (λ (l : List Section). get_or l s absent_section) sections_are

  long_is : length (sections_over b o x) ≡ length p.sections
  long_is = ap (λ (l : List Section). length l) (sym sections_are)

  count : length x.listed.headers ≡ length p.sections
  count = sym (long_over b o x) ∙ long_is

  abbrev RowBy : ℕ → Type 0
  RowBy s =
      IsGatheredSection o.header.class o.header.order (b.each s) x.held (section_at p s)
      (arranged_header x s) (slice_index x.listed.sizes s) (range_in x s) (arranged_kind x s)

  module _ (s : ℕ) (there : s < length p.sections) where
    abbrev h : Shdr
    h = arranged_header x s

    abbrev range : ByteRange
    range = range_in x s

    abbrev kind : Kind
    kind = arranged_kind x s

    abbrev bytes : List ℕ
    bytes = range_bytes x.held (b.each s) range

    below : s < length x.listed.headers
    below = let same = count in omega (arith, there, same)

    at : IsSectionReady o x.held h range kind
    at = ready.sections s below

    long : length bytes ≡ range.len
    long = range_long x.held o.base (b.each s) range at.inside (suit.long s)

    -- the range is as long as what it lies in at most
    short : range.len < 2 ^ 64
    short = by range.held at.inside
      where
        by : (t : Bool) → range.at + range.len ≤ length (if t then x.held else o.base)
            → range.len < 2 ^ 64
        by true within = let small = ready.small in omega (arith, within, small)
        by false within = let small = is.base_length in omega (arith, within, small)

    -- with bytes in the file
    row_filled : occupies_file h ≡ true
        → section_at p s ≡ made_section h (items_over b o x s) → RowBy s
    row_filled filled made =
        let read : AreReadItems kind o.header.class o.header.order bytes
        (decoded_items kind o.header.class o.header.order bytes) =
        read_items kind o.header.class o.header.order bytes
        (ap (λ (n : ℕ). is_whole kind o.header.class n) long ∙ at.whole)
        (range_are x.held o.base (b.each s) range at.inside (suit.long s) ready.held
        (suit.bytes s))
        (at.kind_is filled) in
        let short = short in
        let sized = ready.sizes s below ∙ kept_some h range.len filled in
        row_made o.header.class o.header.order (b.each s) x.held (section_at p s) h
        (slice_index x.listed.sizes s) range kind
        (decoded_items kind o.header.class o.header.order bytes)
        (made ∙ ap (made_section h) (something_over o.header.class o.header.order x.held
        (b.each s) h range kind filled))
        read.kind_is read.are read.fits (λ typed. read.kind_is ∙ at.strings typed)
        (sized ∙ sym long ∙ ap (λ (l : List ℕ). length l) (sym read.again)
        ∙ sym (kept_some h _ filled))
        (omega (arith, short, sized))
        (λ full later.
        range_stays x.held o.base (b.each s) later range at.inside ∙ sym read.again)

    -- without
    row_empty : occupies_file h ≡ false → section_at p s ≡ made_section h (nothing_of kind)
        → RowBy s
    row_empty none made =
        let nothing = nothing_is o.header.class kind in
        let sized = ready.sizes s below ∙ kept_none h range.len none in
        row_made o.header.class o.header.order (b.each s) x.held (section_at p s) h
        (slice_index x.listed.sizes s) range kind (nothing_of kind) made
        nothing.0 nothing.1 nothing.2 (λ typed. nothing.0 ∙ at.strings typed)
        (sized ∙ sym (kept_none h _ none)) (omega (arith, sized))
        (λ full later. let clash : true ≡ false = sym full ∙ none in cc)

  first_is : 0 < length p.sections → section_at p 0 ≡ new_section
  first_is some =
      let same = long_is in
      section_is 0 ∙ first_made o b x is suit ready (omega (arith, some, same))

  row_by : (s : ℕ) → s < length p.sections → RowBy s
  row_by zero there =
      let same = count in
      let zero_is = ready.first (omega (arith, there, same)) in
      row_empty 0 there (ap occupies_file zero_is ∙ zero_empty)
      (first_is there
      ∙ new_made (nothing_of (arranged_kind x 0))
      ∙ ap (λ (k : Shdr). made_section k (nothing_of (arranged_kind x 0))) (sym zero_is))
  row_by (suc j) there = by (occupies_file (arranged_header x (suc j))) refl
    where
      made : section_at p (suc j)
          ≡ made_section (arranged_header x (suc j)) (items_over b o x (suc j))
      made =
          let same = long_is in
          section_is (suc j) ∙ other_made o b x is suit ready j (omega (arith, there, same))

      by : (t : Bool) → occupies_file (arranged_header x (suc j)) ≡ t → RowBy (suc j)
      by true filled = row_filled (suc j) there filled made
      by false none =
          row_empty (suc j) there none
          (made ∙ made_without (arranged_header x (suc j)) (items_over b o x (suc j))
          (nothing_of (arranged_kind x (suc j))) none)

  row_of : (s : ℕ) → s < length p.sections → RowOf p (b.each s) x s
  row_of s there =
      let same = count in
      let ranged = ready.counted.ranges in
      class_as o.header.class p.header.class o.header.order p.header.order (b.each s) x.held
      (section_at p s) (gathered_header x s) (size_in x s) (gathered_range x s)
      (gathered_kind x s) created.class created.order
      (row_as o.header.class o.header.order (b.each s) x.held x.held (section_at p s)
      (section_at p s) (arranged_header x s) (gathered_header x s)
      (slice_index x.listed.sizes s) (size_in x s) (range_in x s) (gathered_range x s)
      (arranged_kind x s) (gathered_kind x s) [] refl
      (unwrap_or-slice_get x.listed.headers s zero_shdr)
      (unwrap_or-slice_get x.listed.sizes s 0)
      (unwrap_or-slice_get x.ranges s empty_held_range
      ∙ get_or_same x.ranges s empty_held_range no_range (omega (arith, there, same, ranged)))
      (unwrap_or-slice_get x.kinds s kinds.Empty)
      (sym (append-nil x.held)) (row_by s there))

  -- ---- The front

  -- the header that is listed
  by_tail : (tail : Option ℕ) → x.listed.header ≡ header_of (with_ehdr (with_phdrs (with_sections
      (over_base (record o { base = b.front }) tail) (sections_over b o x)) o.phdrs)
      x.listed.header)
  unfolding over_base created_over with_ehdr with_phdrs header_of stored_ehdr
  by_tail None =
      header_back o x.listed.header (length x.listed.headers) ready.header
      (length (sections_over b o x)) (sym (long_over b o x))
  by_tail (Some n) =
      header_back o x.listed.header (length x.listed.headers) ready.header
      (length (sections_over b o x)) (sym (long_over b o x))

  header_is : x.listed.header ≡ header_of p
  unfolding object_over
  header_is = by_tail x.tail

  phdrs_are : p.phdrs ≡ o.phdrs
  unfolding object_over with_ehdr with_phdrs
  phdrs_are = refl

  over_tail : (tail : Option ℕ) → IfSome tail (λ n. n ≤ length o.base)
      → HasBaseOf b tail (with_ehdr (with_phdrs (with_sections
      (over_base (record o { base = b.front }) tail) (sections_over b o x)) o.phdrs)
      x.listed.header)
  unfolding over_base created_over with_ehdr with_phdrs
  over_tail None within =
      record { layout = refl; long = refl; base = refl; pad = refl; fill = refl }
  over_tail (Some n) within = record {
    layout = refl;
    long = let same = suit.front_long in length-take-le n b.front (omega (arith, within, same));
    base = refl;
    pad = refl;
    fill = refl;
  }

  based : HasBaseOf b x.tail p
  unfolding object_over
  based = over_tail x.tail ready.front.below

  frame : HasFrameOf (origin_over o b x.tail) p
  frame =
      let base = based in
      record {
        class = created.class;
        order = created.order;
        new = created.header;
        layout = base.layout;
        long = base.long;
        pad = base.pad;
        phdrs = phdrs_are;
        fill = base.fill;
        base = base.base;
        front = created.front;
        unmarked = created.marked;
        marked = created.header_marked;
        segments_marked = created.segments_marked;
        few = ap (λ (l : List Phdr). nat_le PN_XNUM (length l)) phdrs_are
            ∙ not_refused (nat_le PN_XNUM (length o.phdrs)) TooMany ready.front.segments;
        segments = segments_same o p created.class phdrs_are ∙ ready.front.fit;
      }

  pub listed_over : IsListedAs (origin_over o b x.tail) p x
  listed_over = record {
    object = over_is_object o b x is suit ready;
    frame = frame;
    tail_is = refl;
    header = header_is;
    count = count;
    counted = record {
      sized = ready.counted.sized;
      ranged = ready.counted.ranges;
      of_kinds = ready.counted.kinds_are;
    };
    first = first_is;
    rows = row_of;
  }

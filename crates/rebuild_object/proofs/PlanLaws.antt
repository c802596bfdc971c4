-- What is made of a plan is the object that it was stated of.
use Rattle.std.proofs.Common.{◌≡◌, ℕ, zero, ◌+◌, ◌-◌, ◌<◌, suc, Bool, true, false, List, [], ◌∷◌, length, map, take, get_or, append-nil, Option, None, Some, if◌then◌else◌, refl, sym, ap, ◌∙◌, arith}
use Rattle.std.specs.Prelude.{slice_get, unwrap_or, is_some}
use Rattle.std.proofs.lemmas.List.{ext_get_or}
use Rattle.std.proofs.lemmas.Option.{get_or_from_slice_get}
use Rattle.std.proofs.Math.ListN.{replicate}
use Rattle.elf_types.specs.declared.records.Class.{Class}
use Rattle.elf_types.specs.declared.records.Order.{Order}
use Rattle.elf_types.specs.declared.records.Ehdr.{Ehdr}
use Rattle.elf_types.specs.declared.records.Kind.{Kind}
use Rattle.elf_types.specs.declared.constants.TheConstants.{EV_CURRENT}
use Rattle.elf_types.specs.declared.records.Phdr.{Phdr}
use Rattle.elf_types.specs.declared.records.Shdr.{Shdr}
use Rattle.elf_xlate.specs.declared.content.Items.{Items}
use Rattle.elf_xlate.specs.declared.content.Items.TheVariants as items
use Rattle.elf_xlate.specs.Translation.{AreItems, items_kind, first_unfit, decoded, encoded}
use Rattle.elf_xlate.proofs.Translated.{decodes_as_encoded}
use Rattle.elf_object.specs.Object.{Object, Section, Piece, WrittenFront, no_home, section_at, absent_section, occupies_file, header_of}
use Rattle.elf_object.specs.Joined.{aligned_pieces, piece_bytes}
use Rattle.elf_object.specs.Open.{created_over, no_front, new_ehdr}
use Rattle.elf_object.specs.Steps.{stored_ehdr, with_ehdr, with_phdrs, with_sections, own_piece}
use Rattle.rebuild_model.specs.Arranged.{over_base}
use Rattle.rebuild_model.specs.Rebuilt.{made_section}
use Rattle.rebuild_plan.specs.rebuild_image.declared.ranges.ranges.ByteRange.{ByteRange}
use Rattle.rebuild_plan.specs.rebuild_image.Ranges.Ranges.{range_bytes, pieces_at}
use Rattle.rebuild_plan.specs.rebuild_keep.Homes.{or_empty_items, decoded_items}
use Rattle.rebuild_plan.specs.declared.arranged.Arranged.{Arranged}
use Rattle.rebuild_plan.specs.Plans.{IsRangedBy}
use Rattle.elf_object.specs.Valid.{IsObject}
use Rattle.rebuild_object.specs.Objects.{Bases, no_range, bases_of, arranged_header, range_in, arranged_kind, range_items, items_over, sections_over, object_over}
use Rattle.rebuild_object.specs.Planned.{IsMadeWith, IsCreatedWith, PlansMakeObjects}
use Rattle.rebuild_object.proofs.ItemLaws.{something_over}
use Rattle.rebuild_object.proofs.FillLaws.{some_over, long_over}
use Rattle.rebuild_object.proofs.StatedLaws.{stated_at}

-- ---- One section

-- items are read as they were written
read_again : (class : Class) (order : Order) (kind : Kind) (own : Items) (bytes : List ℕ)
    → items_kind own ≡ kind → AreItems own → first_unfit class own ≡ None
    → bytes ≡ encoded class order own → decoded_items kind class order bytes ≡ own
unfolding decoded_items
read_again class order kind own bytes kind_is are fits is =
    ap (λ (b : List ℕ). or_empty_items (decoded kind class order b)) is
    ∙ ap (λ (k : Kind). or_empty_items (decoded k class order (encoded class order own)))
    (sym kind_is)
    ∙ ap or_empty_items (decodes_as_encoded class order own are fits)

-- without bytes in the file items do not count
with_pieces : Shdr → List Piece → Section
with_pieces h l = record { header = h; home = no_home; raw = []; pieces = l; marked = true }

made_as : (h : Shdr) (a : Items)
    → made_section h a ≡ with_pieces h (if occupies_file h then own_piece a 1 ∷ [] else [])
unfolding made_section with_pieces
made_as h a = refl

pub made_without : (h : Shdr) (a b : Items) → occupies_file h ≡ false
    → made_section h a ≡ made_section h b
made_without h a b is =
    made_as h a
    ∙ ap (λ (t : Bool). with_pieces h (if t then own_piece a 1 ∷ [] else [])) is
    ∙ sym (ap (λ (t : Bool). with_pieces h (if t then own_piece b 1 ∷ [] else [])) is)
    ∙ sym (made_as h b)

aligned_made : (class : Class) (order : Order) (h : Shdr) (own : Items)
    → occupies_file h ≡ true
    → aligned_pieces class order (made_section h own) ≡ (1, encoded class order own) ∷ []
unfolding aligned_pieces made_section piece_bytes
aligned_made class order h own is =
    ap (λ (t : Bool). map (λ (p : Piece). (p.align, piece_bytes class order [] p))
    (if t then own_piece own 1 ∷ [] else [])) is

first_bytes : List (ℕ × List ℕ) → List ℕ
first_bytes [] = []
first_bytes (p ∷ others) = p.1

range_found : (held base bytes : List ℕ) (x : Arranged) (s : ℕ) (found : Option ByteRange)
    → slice_get x.ranges s ≡ found → pieces_at held base found ≡ (1, bytes) ∷ []
    → range_bytes held base (range_in x s) ≡ bytes
unfolding first_bytes
range_found held base bytes x s None at is = cc
range_found held base bytes x s (Some range) at is =
    let same : range_bytes held base range ≡ bytes = ap first_bytes is in
    ap (range_bytes held base) (get_or_from_slice_get x.ranges s range no_range at) ∙ same

-- over these bytes the plan has the headers and the bytes of an object that was created and filled
pub record IsShownOver (o : Object) (b : Bases) (q : Object) (x : Arranged)
    (created : IsCreatedWith o x.kinds q) : Type 0 where
  pub object : IsObject q
  pub header : x.listed.header ≡ header_of q
  pub count : length x.listed.headers ≡ length q.sections
  pub headers : (s : ℕ) → s < length q.sections → arranged_header x s ≡ (section_at q s).header
  pub bytes : (s : ℕ) (some : 0 < s) (there : s < length q.sections)
      → occupies_file (section_at q s).header ≡ true
      → range_bytes x.held (b.each s) (range_in x s)
      ≡ encoded q.header.class q.header.order (created.others s some there).own
  pub layout : q.layout ≡ is_some x.tail
  pub pad : q.pad ≡ replicate 7 0
  pub segments : q.phdrs ≡ o.phdrs
  pub fill : q.fill ≡ 0
  pub below : take (unwrap_or x.tail 0) b.front ≡ q.base

module _ (o : Object) (b : Bases) (q : Object) (x : Arranged)
    (created : IsCreatedWith o x.kinds q) (shown : IsShownOver o b q x created) where
  module _ (s : ℕ) (some : 0 < s) (there : s < length q.sections) where
    made : IsMadeWith q.header.class (arranged_kind x s) (section_at q s)
    made = created.others s some there

    head : Shdr
    head = (section_at q s).header

    over : Shdr → Items
    over h =
        range_items q.header.class q.header.order x.held (b.each s) h (range_in x s)
        (arranged_kind x s)

    bytes_are : occupies_file head ≡ true
        → range_bytes x.held (b.each s) (range_in x s)
        ≡ encoded q.header.class q.header.order made.own
    unfolding head made
    bytes_are is = shown.bytes s some there is

    by_bytes : (t : Bool) → occupies_file head ≡ t
        → made_section head (over head) ≡ made_section head made.own
    unfolding over
    by_bytes true is =
        ap (made_section head)
        (something_over q.header.class q.header.order x.held (b.each s) head (range_in x s)
        (arranged_kind x s) is
        ∙ read_again q.header.class q.header.order (arranged_kind x s) made.own
        (range_bytes x.held (b.each s) (range_in x s)) made.kind_is made.are made.fits
        (bytes_are is))
    by_bytes false is = made_without head (over head) made.own is

    section_is : made_section (arranged_header x s) (items_over b o x s) ≡ section_at q s
    unfolding over head
    section_is =
        ap (λ (c : Class). made_section (arranged_header x s)
        (range_items c o.header.order x.held (b.each s) (arranged_header x s) (range_in x s)
        (arranged_kind x s))) (sym created.class)
        ∙ ap (λ (d : Order). made_section (arranged_header x s)
        (range_items q.header.class d x.held (b.each s) (arranged_header x s) (range_in x s)
        (arranged_kind x s))) (sym created.order)
        ∙ ap (λ (h : Shdr). made_section h (over h)) (shown.headers s there)
        ∙ by_bytes (occupies_file head) refl
        ∙ sym made.section

  -- ---- All sections

  count : length x.listed.headers ≡ length q.sections
  count = shown.count

  each_is : (i : ℕ) → i < length q.sections
      → get_or (sections_over b o x) i absent_section ≡ section_at q i
  each_is zero below =
      let some : length x.listed.headers ≡ 0 → ⊥ = λ none. omega (arith, count, none, below) in
      ap (λ (l : List Section). get_or l 0 absent_section) (some_over b o x some)
      ∙ sym (created.first below)
  each_is (suc j) below =
      let some : length x.listed.headers ≡ 0 → ⊥ = λ none. omega (arith, count, none, below) in
      let low : j < length x.listed.headers - 1 = omega (arith, count, below) in
      let next : 1 + j ≡ suc j = omega arith in
      ap (λ (l : List Section). get_or l (suc j) absent_section)
      (some_over b o x some)
      ∙ stated_at (arranged_header x) (items_over b o x) (length x.listed.headers - 1) j low next
      ∙ section_is (suc j) (omega arith) below

  sections_are : sections_over b o x ≡ q.sections
  unfolding section_at
  sections_are =
      let long = long_over b o x in
      ext_get_or absent_section (sections_over b o x) q.sections (long ∙ count)
      (λ i below. each_is i (omega (arith, below, long, count)))

  -- ---- The header

  header_is : stored_ehdr
      (record (new_ehdr o.header.class o.header.order) {
        phnum = length o.phdrs;
        shnum = length q.sections;
      }) x.listed.header ≡ q.header
  unfolding stored_ehdr header_of
  header_is =
      let e = q.header in
      let n : length o.phdrs ≡ e.phnum =
      sym (shown.object.phnum ∙ ap (λ (l : List Phdr). length l) shown.segments) in
      let k : length q.sections ≡ e.shnum = sym shown.object.shnum in
      ap (λ (h : Ehdr). stored_ehdr (record (new_ehdr o.header.class o.header.order) {
        phnum = length o.phdrs;
        shnum = length q.sections;
      }) h) shown.header
      ∙ ap (λ (c : Class). record e {
        class = c;
        order = o.header.order;
        version = EV_CURRENT;
        ehsize = 0;
        phentsize = 0;
        shentsize = 0;
        phnum = length o.phdrs;
        shnum = length q.sections;
      }) (sym created.class)
      ∙ ap (λ (d : Order). record e {
        order = d;
        version = EV_CURRENT;
        ehsize = 0;
        phentsize = 0;
        shentsize = 0;
        phnum = length o.phdrs;
        shnum = length q.sections;
      }) (sym created.order)
      ∙ ap (λ (v : ℕ). record e {
        version = v;
        ehsize = 0;
        phentsize = 0;
        shentsize = 0;
        phnum = length o.phdrs;
        shnum = length q.sections;
      }) (sym created.header.version)
      ∙ ap (λ (v : ℕ). record e {
        ehsize = v;
        phentsize = 0;
        shentsize = 0;
        phnum = length o.phdrs;
        shnum = length q.sections;
      }) (sym created.header.ehsize)
      ∙ ap (λ (v : ℕ). record e {
        phentsize = v;
        shentsize = 0;
        phnum = length o.phdrs;
        shnum = length q.sections;
      }) (sym created.header.phentsize)
      ∙ ap (λ (v : ℕ). record e {
        shentsize = v;
        phnum = length o.phdrs;
        shnum = length q.sections;
      }) (sym created.header.shentsize)
      ∙ ap (λ (v : ℕ). record e { phnum = v; shnum = length q.sections }) n
      ∙ ap (λ (v : ℕ). record e { shnum = v }) k

  -- ---- The object

  object_of_fields : Ehdr → List ℕ → List Phdr → List Section → List ℕ → WrittenFront → Bool
      → ℕ → Bool → Object
  object_of_fields h pad phdrs sections base front layout fill marked = record {
    header = h;
    pad = pad;
    phdrs = phdrs;
    sections = sections;
    base = base;
    written_front = front;
    layout = layout;
    fill = fill;
    marked = marked;
    header_marked = true;
    segments_marked = true;
  }

  filled_is : (tail : Option ℕ) (l : List Section)
      → with_ehdr (with_phdrs (with_sections (over_base (record o { base = b.front }) tail) l)
      o.phdrs) x.listed.header
      ≡ object_of_fields (stored_ehdr (record (new_ehdr o.header.class o.header.order) {
        phnum = length o.phdrs;
        shnum = length l;
      }) x.listed.header) (replicate 7 0) o.phdrs l (take (unwrap_or tail 0) b.front) no_front
      (is_some tail) 0 false
  unfolding with_ehdr with_phdrs over_base created_over object_of_fields
  filled_is None l = refl
  filled_is (Some n) l = refl

  fields_are : q ≡ object_of_fields q.header q.pad q.phdrs q.sections q.base q.written_front
      q.layout q.fill q.marked
  unfolding object_of_fields
  fields_are =
      ap (λ (b : Bool). record q { header_marked = b }) created.header_marked
      ∙ ap (λ (b : Bool). record q { header_marked = true; segments_marked = b })
      created.segments_marked

  pub made_is : object_over b o x ≡ q
  unfolding object_over
  made_is =
      ap (λ (l : List Section). with_ehdr
      (with_phdrs (with_sections (over_base (record o { base = b.front }) x.tail) l) o.phdrs)
      x.listed.header) sections_are
      ∙ filled_is x.tail q.sections
      ∙ ap (λ (h : Ehdr). object_of_fields h (replicate 7 0) o.phdrs q.sections
      (take (unwrap_or x.tail 0) b.front) no_front (is_some x.tail) 0 false) header_is
      ∙ ap (λ (l : List ℕ). object_of_fields q.header l o.phdrs q.sections
      (take (unwrap_or x.tail 0) b.front) no_front (is_some x.tail) 0 false) (sym shown.pad)
      ∙ ap (λ (l : List Phdr). object_of_fields q.header q.pad l q.sections
      (take (unwrap_or x.tail 0) b.front) no_front (is_some x.tail) 0 false) (sym shown.segments)
      ∙ ap (λ (l : List ℕ). object_of_fields q.header q.pad q.phdrs q.sections
      l no_front (is_some x.tail) 0 false) shown.below
      ∙ ap (λ (f : WrittenFront). object_of_fields q.header q.pad q.phdrs q.sections
      q.base f (is_some x.tail) 0 false) (sym created.front)
      ∙ ap (λ (b : Bool). object_of_fields q.header q.pad q.phdrs q.sections
      q.base q.written_front b 0 false) (sym shown.layout)
      ∙ ap (λ (n : ℕ). object_of_fields q.header q.pad q.phdrs q.sections
      q.base q.written_front q.layout n false) (sym shown.fill)
      ∙ ap (λ (b : Bool). object_of_fields q.header q.pad q.phdrs q.sections
      q.base q.written_front q.layout q.fill b) (sym created.marked)
      ∙ sym fields_are

-- of what was planned over one base
module _ (o q : Object) (x : Arranged) (ranged : IsRangedBy o.phdrs o.base q x)
    (created : IsCreatedWith o x.kinds q) where
  bytes_ranged : (s : ℕ) (some : 0 < s) (there : s < length q.sections)
      → occupies_file (section_at q s).header ≡ true
      → range_bytes x.held o.base (range_in x s)
      ≡ encoded q.header.class q.header.order (created.others s some there).own
  bytes_ranged s some there is =
      let made = created.others s some there in
      range_found x.held o.base (encoded q.header.class q.header.order made.own) x s
      (slice_get x.ranges s) refl
      (ap (λ (l : List ℕ). pieces_at l o.base (slice_get x.ranges s)) (sym (append-nil x.held))
      ∙ ranged.ranges.each s some there is []
      ∙ ap (aligned_pieces q.header.class q.header.order) made.section
      ∙ aligned_made q.header.class q.header.order (section_at q s).header made.own is)

  ranged_shown : IsShownOver o (bases_of o.base) q x created
  ranged_shown = record {
    object = ranged.laid.object;
    header = ranged.laid.listed.header;
    count = ranged.laid.listed.count;
    headers = ranged.laid.listed.headers;
    bytes = bytes_ranged;
    layout = ranged.laid.layout_is;
    pad = ranged.pad;
    segments = ranged.segments;
    fill = ranged.fill;
    below = ranged.below;
  }

pub plans_make : PlansMakeObjects
plans_make o q x ranged created =
    made_is o (bases_of o.base) q x created (ranged_shown o q x ranged created)

-- What was gathered, with one row that is set.
use Rattle.std.proofs.Common.{◌≡◌, ◌≢◌, ◌<◌, ℕ, zero, suc, true, false, List, [], ◌∷◌, ◌++◌, length, if◌then◌else◌, refl, sym, ap, ◌∙◌, subst, inl, inr, arith, append_assoc}
use Rattle.std.specs.Prelude.{not, nat_le, slice_get, slice_set, unwrap_or}
use Rattle.std.specs.List.{position}
use Rattle.std.specs.Option.{option_map}
use Rattle.std.proofs.Math.ListN.{length-set}
use Rattle.std.proofs.lemmas.Bool.{cases_eq}
use Rattle.std.proofs.lemmas.List.{append-nil, get_or-set_same, get_or-set_other, set-get_or}
use Rattle.std.proofs.lemmas.Option.{unwrap_or-slice_get}
use Rattle.elf_types.specs.declared.constants.TheConstants.{PN_XNUM, SHT_STRTAB}
use Rattle.elf_types.specs.declared.records.Class.{Class}
use Rattle.elf_types.specs.declared.records.Kind.{Kind}
use Rattle.elf_types.specs.declared.records.Kind.TheVariants as kinds
use Rattle.elf_types.specs.declared.records.Order.{Order}
use Rattle.elf_types.specs.declared.records.Part.TheVariants as part
use Rattle.elf_types.specs.declared.records.Ehdr.{Ehdr}
use Rattle.elf_types.specs.declared.records.Phdr.{Phdr}
use Rattle.elf_types.specs.declared.records.Shdr.{Shdr}
use Rattle.elf_types.specs.declared.errors.ElfError.TheVariants.{Unfit}
use Rattle.elf_xlate.specs.Headers.{phdr_fits}
use Rattle.elf_ident.specs.Front.{zero_shdr}
use Rattle.elf_object.specs.Object.{Object, Section, header_of, section_at, new_section, occupies_file}
use Rattle.elf_object.specs.Refusal.{unfit_segment}
use Rattle.elf_object.specs.Steps.{own_piece, with_section}
use Rattle.elf_object.specs.Valid.{IsObject}
use Rattle.elf_object.proofs.StepLaws.{section_count-with_section, section_at-with_section, section_at-with_section_other}
use Rattle.law_object.proofs.StandLaws.{section_at-past}
use Rattle.elf_object.specs.Sections.{header_at}
use Rattle.rebuild_model.specs.Rebuilt.{made_section}
use Rattle.rebuild_edits.specs.Edits.Steps.{IsPresentSection}
use Rattle.rebuild_plan.specs.rebuild_image.declared.ranges.ranges.ByteRange.{ByteRange}
use Rattle.rebuild_plan.specs.rebuild_image.Ranges.Ranges.{range_bytes}
use Rattle.rebuild_plan.specs.declared.arranged.Arranged.{Arranged}
use Rattle.rebuild_copy.specs.Rows.{empty_held_range, gathered_header, size_in, gathered_range, gathered_kind, IsGatheredSection, Origin, HasFrameOf, IsListedAs, IsContents}

-- ---- Lists

module _ {X : Type 0} (l : List X) (n : ℕ) (x d : X) where
  pub at_here : n < length l → unwrap_or (slice_get (slice_set l n x) n) d ≡ x
  at_here below = unwrap_or-slice_get (slice_set l n x) n d ∙ get_or-set_same l n x d below

  pub at_other : (t : ℕ) → t ≢ n
      → unwrap_or (slice_get (slice_set l n x) t) d ≡ unwrap_or (slice_get l t) d
  at_other t other =
      unwrap_or-slice_get (slice_set l n x) t d
      ∙ get_or-set_other l n t x d other
      ∙ sym (unwrap_or-slice_get l t d)

pub set_same : {X : Type 0} (l : List X) (n : ℕ) (d : X)
    → slice_set l n (unwrap_or (slice_get l n) d) ≡ l
set_same l n d = ap (slice_set l n) (unwrap_or-slice_get l n d) ∙ set-get_or l n d

-- ---- One row

-- what it says of the section
module _ {class : Class} {order : Order} {base held : List ℕ} {c : Section} {h : Shdr} {size : ℕ}
    {range : ByteRange} {kind : Kind}
    (is : IsGatheredSection class order base held c h size range kind) where
  pub row_inside : c.home.out ≡ false
  unfolding made_section
  row_inside = ap (λ (d : Section). d.home.out) is.section

  pub row_pieces : c.pieces ≡ (if occupies_file c.header then own_piece is.own 1 ∷ [] else [])
  unfolding made_section
  row_pieces = ap (λ (d : Section). d.pieces) is.section

-- as it is, with more that is held
pub row_as : (class : Class) (order : Order) (base held after : List ℕ) (c d : Section)
    (h k : Shdr) (size long : ℕ) (range found : ByteRange) (kind sort : Kind) (more : List ℕ)
    → d ≡ c → k ≡ h → long ≡ size → found ≡ range → sort ≡ kind → after ≡ held ++ more
    → IsGatheredSection class order base held c h size range kind
    → IsGatheredSection class order base after d k long found sort
row_as class order base held after c d h k size long range found kind sort more same_c same_h
    same_size same_range same_kind behind is =
    subst (λ (e : Section). IsGatheredSection class order base after e k long found sort)
    (sym same_c)
    (subst (λ (j : Shdr). IsGatheredSection class order base after c j long found sort)
    (sym same_h)
    (subst (λ (n : ℕ). IsGatheredSection class order base after c h n found sort) (sym same_size)
    (subst (λ (r : ByteRange). IsGatheredSection class order base after c h size r sort)
    (sym same_range)
    (subst (λ (s : Kind). IsGatheredSection class order base after c h size range s)
    (sym same_kind) (record {
      header = is.header;
      own = is.own;
      section = is.section;
      kind_is = is.kind_is;
      are = is.are;
      fits = is.fits;
      strings = is.strings;
      size_is = is.size_is;
      small = is.small;
      range_is = λ filled later.
          ap (λ (l : List ℕ). range_bytes (l ++ later) base range) behind
          ∙ ap (λ (l : List ℕ). range_bytes l base range) (append_assoc held more later)
          ∙ is.range_is filled (more ++ later);
    })))))

pub class_as : (class other : Class) (order way : Order) (base held : List ℕ) (c : Section)
    (h : Shdr) (size : ℕ) (range : ByteRange) (kind : Kind) → other ≡ class → way ≡ order
    → IsGatheredSection class order base held c h size range kind
    → IsGatheredSection other way base held c h size range kind
class_as class other order way base held c h size range kind same_class same_order is =
    subst (λ (k : Class). IsGatheredSection k way base held c h size range kind) (sym same_class)
    (subst (λ (d : Order). IsGatheredSection class d base held c h size range kind)
    (sym same_order) is)

-- ---- The frame

pub segments_same : (p q : Object) → q.header.class ≡ p.header.class → q.phdrs ≡ p.phdrs
    → unfit_segment q ≡ unfit_segment p
unfolding unfit_segment
segments_same p q class phdrs =
    ap (λ (c : Class).
    option_map (Unfit part.Segments) (position (λ s. not (phdr_fits c s)) q.phdrs)) class
    ∙ ap (λ (l : List Phdr).
    option_map (Unfit part.Segments) (position (λ s. not (phdr_fits p.header.class s)) l)) phdrs

-- two objects have the same of what no change changes
pub record HasSameFrame (p q : Object) : Type 0 where
  pub class : q.header.class ≡ p.header.class
  pub order : q.header.order ≡ p.header.order
  pub layout : q.layout ≡ p.layout
  pub base : q.base ≡ p.base
  pub pad : q.pad ≡ p.pad
  pub phdrs : q.phdrs ≡ p.phdrs
  pub fill : q.fill ≡ p.fill
  pub marked : q.header_marked ≡ p.header_marked
  pub version : q.header.version ≡ p.header.version
  pub ehsize : q.header.ehsize ≡ p.header.ehsize
  pub phentsize : q.header.phentsize ≡ p.header.phentsize
  pub shentsize : q.header.shentsize ≡ p.header.shentsize
  pub front : q.written_front ≡ p.written_front
  pub unmarked : q.marked ≡ p.marked
  pub segments_marked : q.segments_marked ≡ p.segments_marked

pub same_frame : (p : Object) → HasSameFrame p p
same_frame p = record {
  class = refl;
  order = refl;
  layout = refl;
  base = refl;
  pad = refl;
  phdrs = refl;
  fill = refl;
  marked = refl;
  version = refl;
  ehsize = refl;
  phentsize = refl;
  shentsize = refl;
  front = refl;
  unmarked = refl;
  segments_marked = refl;
}

pub frame_as : (o : Origin) (p q : Object) → HasSameFrame p q → HasFrameOf o p → HasFrameOf o q
frame_as o p q same is = record {
  class = same.class ∙ is.class;
  order = same.order ∙ is.order;
  new = record {
    version = same.version ∙ is.new.version;
    ehsize = same.ehsize ∙ is.new.ehsize;
    phentsize = same.phentsize ∙ is.new.phentsize;
    shentsize = same.shentsize ∙ is.new.shentsize;
  };
  layout = same.layout ∙ is.layout;
  long = ap (λ (l : List ℕ). length l) same.base ∙ is.long;
  pad = same.pad ∙ is.pad;
  phdrs = same.phdrs ∙ is.phdrs;
  fill = same.fill ∙ is.fill;
  base = is.base ∙ sym same.base;
  front = same.front ∙ is.front;
  unmarked = same.unmarked ∙ is.unmarked;
  marked = same.marked ∙ is.marked;
  segments_marked = same.segments_marked ∙ is.segments_marked;
  few = ap (λ (l : List Phdr). nat_le PN_XNUM (length l)) same.phdrs ∙ is.few;
  segments = segments_same p q same.class same.phdrs ∙ is.segments;
}

-- ---- The number of sections

pub shnum_is : (o : Origin) (p : Object) (x : Arranged) → IsListedAs o p x
    → x.listed.header.shnum ≡ length p.sections
unfolding header_of
shnum_is o p x is = ap (λ (h : Ehdr). h.shnum) is.header

pub index_listed : (o : Origin) (p : Object) (x : Arranged) → IsListedAs o p x
    → x.listed.header.shstrndx ≡ p.header.shstrndx
unfolding header_of
index_listed o p x is = ap (λ (h : Ehdr). h.shstrndx) is.header

-- ---- Section 0

pub zero_empty : occupies_file zero_shdr ≡ false
unfolding zero_shdr
zero_empty = refl

pub first_empty : (o : Origin) (p : Object) (x : Arranged) → IsListedAs o p x
    → occupies_file (header_at p 0) ≡ false
first_empty o p x is = by (length p.sections) refl
  where
    by : (n : ℕ) → length p.sections ≡ n → occupies_file (header_at p 0) ≡ false
    by zero none =
        ap (λ (c : Section). occupies_file c.header) (section_at-past p 0 (omega (arith, none)))
        ∙ zero_empty
    by (suc n) some =
        ap (λ (c : Section). occupies_file c.header) (is.first (omega (arith, some)))
        ∙ zero_empty

-- ---- One row that is set

module _ (o : Origin) (p : Object) (x : Arranged) (is : IsListedAs o p x) (n : ℕ)
    (below : n < length p.sections) where
  within_headers : n < length x.listed.headers
  within_headers = let count = is.count in omega (arith, below, count)

  within_sizes : n < length x.listed.sizes
  within_sizes =
      let count = is.count in let sized = is.counted.sized in omega (arith, below, count, sized)

  within_ranges : n < length x.ranges
  within_ranges =
      let count = is.count in let ranged = is.counted.ranged in omega (arith, below, count, ranged)

  within_kinds : n < length x.kinds
  within_kinds =
      let count = is.count in
      let kinded = is.counted.of_kinds in
      omega (arith, below, count, kinded)

  module _ (q : Object) (y : Arranged) (h : Shdr) (size : ℕ) (range : ByteRange) (kind : Kind)
      (more : List ℕ) (same : HasSameFrame p q)
      (other : (t : ℕ) → t ≢ n → section_at q t ≡ section_at p t)
      (headers : y.listed.headers ≡ slice_set x.listed.headers n h)
      (sizes : y.listed.sizes ≡ slice_set x.listed.sizes n size)
      (ranges : y.ranges ≡ slice_set x.ranges n range)
      (kinds_are : y.kinds ≡ slice_set x.kinds n kind) (held : y.held ≡ x.held ++ more)
      (row : IsGatheredSection p.header.class p.header.order (o.bases.each n) y.held
      (section_at q n) h size range kind) where
    abbrev RowAt : ℕ → Type 0
    RowAt t =
        IsGatheredSection p.header.class p.header.order (o.bases.each t) y.held (section_at q t)
        (gathered_header y t) (size_in y t) (gathered_range y t) (gathered_kind y t)

    row_here : RowAt n
    row_here =
        row_as p.header.class p.header.order (o.bases.each n) y.held y.held (section_at q n)
        (section_at q n) h (gathered_header y n) size (size_in y n) range (gathered_range y n)
        kind (gathered_kind y n) [] refl
        (ap (λ (l : List Shdr). unwrap_or (slice_get l n) zero_shdr) headers
        ∙ at_here x.listed.headers n h zero_shdr within_headers)
        (ap (λ (l : List ℕ). unwrap_or (slice_get l n) 0) sizes
        ∙ at_here x.listed.sizes n size 0 within_sizes)
        (ap (λ (l : List ByteRange). unwrap_or (slice_get l n) empty_held_range) ranges
        ∙ at_here x.ranges n range empty_held_range within_ranges)
        (ap (λ (l : List Kind). unwrap_or (slice_get l n) kinds.Empty) kinds_are
        ∙ at_here x.kinds n kind kinds.Empty within_kinds)
        (sym (append-nil y.held)) row

    row_there : (t : ℕ) → t < length p.sections → t ≢ n → RowAt t
    row_there t there apart =
        row_as p.header.class p.header.order (o.bases.each t) x.held y.held (section_at p t)
        (section_at q t) (gathered_header x t) (gathered_header y t) (size_in x t) (size_in y t)
        (gathered_range x t) (gathered_range y t) (gathered_kind x t) (gathered_kind y t) more
        (other t apart)
        (ap (λ (l : List Shdr). unwrap_or (slice_get l t) zero_shdr) headers
        ∙ at_other x.listed.headers n h zero_shdr t apart)
        (ap (λ (l : List ℕ). unwrap_or (slice_get l t) 0) sizes
        ∙ at_other x.listed.sizes n size 0 t apart)
        (ap (λ (l : List ByteRange). unwrap_or (slice_get l t) empty_held_range) ranges
        ∙ at_other x.ranges n range empty_held_range t apart)
        (ap (λ (l : List Kind). unwrap_or (slice_get l t) kinds.Empty) kinds_are
        ∙ at_other x.kinds n kind kinds.Empty t apart)
        held (is.rows t there)

    row_at : (t : ℕ) → t < length p.sections → RowAt t
    row_at t there = elim (cases_eq t n) [
      | inl at ↦ subst RowAt (sym at) row_here
      | inr apart ↦ row_there t there apart
    ]

    pub row_set : IsObject q → y.tail ≡ x.tail → y.listed.header ≡ header_of q
        → length q.sections ≡ length p.sections
        → (0 < length q.sections → section_at q 0 ≡ new_section) → IsListedAs o q y
    row_set object tail header long first =
        let count = ap (λ (l : List Shdr). length l) headers ∙ length-set x.listed.headers n h in
        let sized = ap (λ (l : List ℕ). length l) sizes ∙ length-set x.listed.sizes n size in
        let ranged = ap (λ (l : List ByteRange). length l) ranges
        ∙ length-set x.ranges n range in
        let kinded = ap (λ (l : List Kind). length l) kinds_are ∙ length-set x.kinds n kind in
        record {
          object = object;
          frame = frame_as o p q same is.frame;
          tail_is = tail ∙ is.tail_is;
          header = header;
          count = count ∙ is.count ∙ sym long;
          counted = record {
            sized = sized ∙ is.counted.sized ∙ sym count;
            ranged = ranged ∙ is.counted.ranged ∙ sym count;
            of_kinds = kinded ∙ is.counted.of_kinds ∙ sym count;
          };
          first = first;
          rows = λ t there.
              class_as p.header.class q.header.class p.header.order q.header.order
              (o.bases.each t) y.held (section_at q t) (gathered_header y t) (size_in y t)
              (gathered_range y t) (gathered_kind y t) same.class same.order
              (row_at t (omega (arith, there, long)));
        }

-- ---- One section that changes

section_frame : (p : Object) (n : ℕ) (c : Section) → HasSameFrame p (with_section p n c)
unfolding with_section
section_frame p n c = record {
  class = refl;
  order = refl;
  layout = refl;
  base = refl;
  pad = refl;
  phdrs = refl;
  fill = refl;
  marked = refl;
  version = refl;
  ehsize = refl;
  phentsize = refl;
  shentsize = refl;
  front = refl;
  unmarked = refl;
  segments_marked = refl;
}

section_header : (p : Object) (n : ℕ) (c : Section) → header_of (with_section p n c) ≡ header_of p
unfolding with_section header_of
section_header p n c =
    ap (λ (k : ℕ). record p.header { phnum = length p.phdrs; shnum = k })
    (length-set p.sections n c)

module _ (o : Origin) (p : Object) (x : Arranged) (is : IsListedAs o p x) (n : ℕ)
    (there : IsPresentSection p n) (c : Section) (y : Arranged) (h : Shdr) (size : ℕ)
    (range : ByteRange) (kind : Kind) (more : List ℕ)
    (header : y.listed.header ≡ x.listed.header)
    (headers : y.listed.headers ≡ slice_set x.listed.headers n h)
    (sizes : y.listed.sizes ≡ slice_set x.listed.sizes n size)
    (ranges : y.ranges ≡ slice_set x.ranges n range)
    (kinds_are : y.kinds ≡ slice_set x.kinds n kind) where
  pub listed_put : IsObject (with_section p n c) → y.tail ≡ x.tail → y.held ≡ x.held ++ more
      → IsGatheredSection p.header.class p.header.order (o.bases.each n) y.held c h size range kind
      → IsListedAs o (with_section p n c) y
  listed_put object tail held row =
      let q = with_section p n c in
      let first = there.0 in
      let long = section_count-with_section p n c in
      let zero_other : section_at q 0 ≡ section_at p 0 =
      section_at-with_section_other p n 0 c (λ at. omega (arith, at, first)) in
      row_set o p x is n there.1 q y h size range kind more (section_frame p n c)
      (λ t apart. section_at-with_section_other p n t c apart) headers sizes ranges kinds_are held
      (row_as p.header.class p.header.order (o.bases.each n) y.held y.held c (section_at q n) h h
      size size range range kind kind [] (section_at-with_section p n c there.1) refl refl refl
      refl (sym (append-nil y.held)) row)
      object tail (header ∙ is.header ∙ sym (section_header p n c)) long
      (λ some. zero_other ∙ is.first (omega (arith, some, long)))

  module _ (table : (gathered_header x x.listed.header.shstrndx).stype ≡ SHT_STRTAB
      → (gathered_range x x.listed.header.shstrndx).held ≡ true) where
    abbrev index : ℕ
    index = x.listed.header.shstrndx

    -- the table is held as before
    table_here : index ≡ n → h.stype ≡ (gathered_header x n).stype
        → ((gathered_range x n).held ≡ true → range.held ≡ true)
        → (gathered_header y index).stype ≡ SHT_STRTAB → (gathered_range y index).held ≡ true
    table_here at stype holds typed =
        let header_is : gathered_header y index ≡ h =
        ap (λ (k : ℕ). unwrap_or (slice_get y.listed.headers k) zero_shdr) at
        ∙ ap (λ (l : List Shdr). unwrap_or (slice_get l n) zero_shdr) headers
        ∙ at_here x.listed.headers n h zero_shdr (within_headers o p x is n there.1) in
        let range_is : gathered_range y index ≡ range =
        ap (λ (k : ℕ). unwrap_or (slice_get y.ranges k) empty_held_range) at
        ∙ ap (λ (l : List ByteRange). unwrap_or (slice_get l n) empty_held_range) ranges
        ∙ at_here x.ranges n range empty_held_range (within_ranges o p x is n there.1) in
        let was : (gathered_header x index).stype ≡ SHT_STRTAB =
        ap (λ (k : ℕ). (gathered_header x k).stype) at ∙ sym stype
        ∙ ap (λ (j : Shdr). j.stype) (sym header_is) ∙ typed in
        ap (λ (r : ByteRange). r.held) range_is
        ∙ holds (ap (λ (k : ℕ). (gathered_range x k).held) (sym at) ∙ table was)

    table_there : index ≢ n → (gathered_header y index).stype ≡ SHT_STRTAB
        → (gathered_range y index).held ≡ true
    table_there apart typed =
        ap (λ (l : List ByteRange). (unwrap_or (slice_get l index) empty_held_range).held) ranges
        ∙ ap (λ (r : ByteRange). r.held) (at_other x.ranges n range empty_held_range index apart)
        ∙ table (ap (λ (j : Shdr). j.stype)
        (sym (ap (λ (l : List Shdr). unwrap_or (slice_get l index) zero_shdr) headers
        ∙ at_other x.listed.headers n h zero_shdr index apart))
        ∙ typed)

    pub table_put : h.stype ≡ (gathered_header x n).stype
        → ((gathered_range x n).held ≡ true → range.held ≡ true)
        → (gathered_header y y.listed.header.shstrndx).stype ≡ SHT_STRTAB
        → (gathered_range y y.listed.header.shstrndx).held ≡ true
    table_put stype holds typed =
        let now : y.listed.header.shstrndx ≡ index = ap (λ (e : Ehdr). e.shstrndx) header in
        subst (λ (i : ℕ). (gathered_range y i).held ≡ true) (sym now)
        (by_index (subst (λ (i : ℕ). (gathered_header y i).stype ≡ SHT_STRTAB) now typed))
      where
        by_index : (gathered_header y index).stype ≡ SHT_STRTAB
            → (gathered_range y index).held ≡ true
        by_index is_typed = elim (cases_eq index n) [
          | inl at ↦ table_here at stype holds is_typed
          | inr apart ↦ table_there apart is_typed
        ]

module _ (o : Origin) (p : Object) (x : Arranged) (is : IsContents o p x) (n : ℕ)
    (there : IsPresentSection p n) (c : Section) (y : Arranged) (h : Shdr) (size : ℕ)
    (range : ByteRange) (kind : Kind) (more : List ℕ)
    (header : y.listed.header ≡ x.listed.header)
    (headers : y.listed.headers ≡ slice_set x.listed.headers n h)
    (sizes : y.listed.sizes ≡ slice_set x.listed.sizes n size)
    (ranges : y.ranges ≡ slice_set x.ranges n range)
    (kinds_are : y.kinds ≡ slice_set x.kinds n kind) where
  pub contents_put : h.stype ≡ (gathered_header x n).stype
      → ((gathered_range x n).held ≡ true → range.held ≡ true)
      → IsObject (with_section p n c) → y.tail ≡ x.tail → y.held ≡ x.held ++ more
      → IsGatheredSection p.header.class p.header.order (o.bases.each n) y.held c h size range kind
      → IsContents o (with_section p n c) y
  contents_put stype holds object tail held row = record {
    listed = listed_put o p x is.listed n there c y h size range kind more header headers sizes
        ranges kinds_are object tail held row;
    table = table_put o p x is.listed n there c y h size range kind more header headers sizes
        ranges kinds_are is.table stype holds;
  }

-- An image that is opened gives an object, and so does creating one.
use Rattle.std.proofs.Common.{◌≡◌, ℕ, ◌+◌, ◌*◌, ◌^◌, ◌<◌, ◌≤◌, Bool, true, false, not, ◌&&◌, ◌||◌, List, [], ◌∷◌, length, take, drop, get_or, None, Result, Ok, Err, refl, sym, ap, ◌∙◌, subst, arith, lit<, lit≤}
use Rattle.std.specs.Prelude.{All, IsSome, IsTrue, nat_lt, if◌then◌else◌, ◌==◌}
use Rattle.std.proofs.lemmas.Bool.{ltb-false, lt-ltb, eqb-true}
use Rattle.std.proofs.lemmas.List.{length-take, length-drop, length-map, length-replicate, length-take-le, nil_from_length}
use Rattle.std.proofs.lemmas.List.FromFn.{length-map-range_with_len}
use Rattle.std.proofs.lemmas.List.Elements.{All-nil, All-cons, All-take, All-drop, All-map, All-replicate}
use Rattle.elf_types.specs.declared.records.Class.{Class}
use Rattle.elf_types.specs.declared.records.Class.TheVariants.{C32, C64}
use Rattle.elf_types.specs.declared.records.Order.{Order}
use Rattle.elf_types.specs.declared.records.Ehdr.{Ehdr}
use Rattle.elf_types.specs.declared.records.Phdr.{Phdr}
use Rattle.elf_types.specs.declared.records.Shdr.{Shdr}
use Rattle.elf_types.specs.declared.errors.ElfError.{ElfError}
use Rattle.elf_types.specs.declared.errors.ElfError.TheVariants as error
use Rattle.elf_object.specs.elf_xlate.Fields.{Field, number_in, fits}
use Rattle.elf_object.specs.elf_xlate.Headers.{ehdr_size, ehdr_fields, ehdr_of, ehdr_fits, IsEhdr, HasNarrowCounts, phdr_size, phdr_fields, phdr_of, phdr_fits, IsPhdr, shdr_size, shdr_fields, shdr_of, shdr_fits, IsShdr}
use Rattle.elf_object.specs.elf_xlate.Translation.{items_of}
use Rattle.elf_object.specs.elf_ident.declared.counts.Counts.{Counts}
use Rattle.elf_object.specs.elf_ident.declared.fronts.Head.{Head}
use Rattle.elf_object.specs.elf_ident.declared.fronts.Front.{Front}
use Rattle.elf_object.specs.elf_ident.Front.{ident_in, header_at, header_in, zero_shdr, needs_first, first_section, true_shnum, true_shstrndx, true_counts, lies_in, phdrs_at, shdrs_at, header_refusal, count_refusal, counts_by, counts_in, front_at, head_in, front}
use Rattle.elf_object.specs.Object.{Object, home_piece, occupies_file}
use Rattle.elf_object.specs.Open.{home_len, home_of, home_bytes, opened_section, begun, begun_or_refused, opened, created_over, new_ehdr}
use Rattle.elf_types.specs.Answers.{refused_if, answered, ◌>>=◌}
use Rattle.elf_types.specs.declared.constants.TheConstants.{EV_CURRENT, PN_XNUM, MAX_IMAGE, MAX_SECTIONS, MAX_SEGMENTS}
use Rattle.elf_object.proofs.elf_ident.Refusals.{answered_ok, bind_ok, last_passed}
use Rattle.elf_object.specs.elf_ident.Reading.{IsFittingFront, IsCounted}
use Rattle.law_object.specs.Laws.{BegunFits}
use Rattle.elf_object.proofs.PassedLaws.{not_refused, not_not, passed_one}
use Rattle.elf_types.specs.Lists.{AreBytes}
use Rattle.elf_object.specs.Valid.{IsHome, IsPiece, IsSection, IsObject}
use Rattle.elf_object.proofs.HomeLaws.{extent_of_no_kind}
use Rattle.elf_object.proofs.PieceLaws.{home_piece_is}
use Rattle.law_object.proofs.KeepLaws.{counted_is, zero_shdr_is}
use Rattle.law_object.proofs.RangeLaws.{no_field, native_range, field_range, number_in_below, items_range}
use Rattle.law_object.proofs.PlacedLaws.{ehdr_fits_all, shdr_fits_all}

-- ---- Headers that bytes hold

-- a field of four bytes in class 32 and of eight in class 64 fits
native_fits : (class : Class) (order : Order) (bytes : List ℕ) (f : Field) → f.narrow.1 ≡ 4 → AreBytes bytes → IsTrue (fits class (number_in class order bytes f))
native_fits C32 order bytes f four are =
    let P : ℕ → Type 0 = λ w. number_in C32 order bytes f < 256 ^ w in
    lt-ltb (number_in C32 order bytes f) (2 ^ 32) (subst P four (number_in_below C32 order bytes f are))
native_fits C64 order bytes f four are = refl

pub ehdr_range : (class : Class) (order : Order) (bytes : List ℕ) → AreBytes bytes → IsEhdr (ehdr_of class order bytes) × IsTrue (ehdr_fits (ehdr_of class order bytes)) × HasNarrowCounts (ehdr_of class order bytes)
unfolding ehdr_of ehdr_fields
ehdr_range class order bytes are =
    let phnum = field_range class order bytes (get_or ehdr_fields 11 no_field) 2 refl refl are in
    let shnum = field_range class order bytes (get_or ehdr_fields 13 no_field) 2 refl refl are in
    let shstrndx = field_range class order bytes (get_or ehdr_fields 14 no_field) 2 refl refl are in (
      record {
        osabi = field_range class order bytes (get_or ehdr_fields 0 no_field) 1 refl refl are;
        abiversion = field_range class order bytes (get_or ehdr_fields 1 no_field) 1 refl refl are;
        etype = field_range class order bytes (get_or ehdr_fields 2 no_field) 2 refl refl are;
        machine = field_range class order bytes (get_or ehdr_fields 3 no_field) 2 refl refl are;
        version = field_range class order bytes (get_or ehdr_fields 4 no_field) 4 refl refl are;
        entry = native_range class order bytes (get_or ehdr_fields 5 no_field) refl refl are;
        phoff = native_range class order bytes (get_or ehdr_fields 6 no_field) refl refl are;
        shoff = native_range class order bytes (get_or ehdr_fields 7 no_field) refl refl are;
        flags = field_range class order bytes (get_or ehdr_fields 8 no_field) 4 refl refl are;
        ehsize = field_range class order bytes (get_or ehdr_fields 9 no_field) 2 refl refl are;
        phentsize = field_range class order bytes (get_or ehdr_fields 10 no_field) 2 refl refl are;
        phnum = omega arith;
        shentsize = field_range class order bytes (get_or ehdr_fields 12 no_field) 2 refl refl are;
        shnum = omega arith;
        shstrndx = omega arith;
      },
      ehdr_fits_all (ehdr_of class order bytes) (record {
        entry = native_fits class order bytes (get_or ehdr_fields 5 no_field) refl are;
        phoff = native_fits class order bytes (get_or ehdr_fields 6 no_field) refl are;
        shoff = native_fits class order bytes (get_or ehdr_fields 7 no_field) refl are;
      }),
      record { phnum = phnum; shnum = shnum; shstrndx = shstrndx },
    )

phdr_fits_all : (class : Class) (p : Phdr) → IsTrue (fits class p.offset) → IsTrue (fits class p.vaddr) → IsTrue (fits class p.paddr) → IsTrue (fits class p.filesz) → IsTrue (fits class p.memsz) → IsTrue (fits class p.align) → IsTrue (phdr_fits class p)
unfolding phdr_fits
phdr_fits_all class p a b c d e f = rw (a, b, c, d, e, f) refl

pub phdr_range : (class : Class) (order : Order) (bytes : List ℕ) → AreBytes bytes → IsPhdr (phdr_of class order bytes) × IsTrue (phdr_fits class (phdr_of class order bytes))
unfolding phdr_of phdr_fields
phdr_range class order bytes are = (
  record {
    ptype = field_range class order bytes (get_or phdr_fields 0 no_field) 4 refl refl are;
    flags = field_range class order bytes (get_or phdr_fields 1 no_field) 4 refl refl are;
    offset = native_range class order bytes (get_or phdr_fields 2 no_field) refl refl are;
    vaddr = native_range class order bytes (get_or phdr_fields 3 no_field) refl refl are;
    paddr = native_range class order bytes (get_or phdr_fields 4 no_field) refl refl are;
    filesz = native_range class order bytes (get_or phdr_fields 5 no_field) refl refl are;
    memsz = native_range class order bytes (get_or phdr_fields 6 no_field) refl refl are;
    align = native_range class order bytes (get_or phdr_fields 7 no_field) refl refl are;
  },
  phdr_fits_all class (phdr_of class order bytes)
      (native_fits class order bytes (get_or phdr_fields 2 no_field) refl are)
      (native_fits class order bytes (get_or phdr_fields 3 no_field) refl are)
      (native_fits class order bytes (get_or phdr_fields 4 no_field) refl are)
      (native_fits class order bytes (get_or phdr_fields 5 no_field) refl are)
      (native_fits class order bytes (get_or phdr_fields 6 no_field) refl are)
      (native_fits class order bytes (get_or phdr_fields 7 no_field) refl are),
)

pub shdr_range : (class : Class) (order : Order) (bytes : List ℕ) → AreBytes bytes → IsShdr (shdr_of class order bytes) × IsTrue (shdr_fits class (shdr_of class order bytes))
unfolding shdr_of shdr_fields
shdr_range class order bytes are = (
  record {
    name = field_range class order bytes (get_or shdr_fields 0 no_field) 4 refl refl are;
    stype = field_range class order bytes (get_or shdr_fields 1 no_field) 4 refl refl are;
    flags = native_range class order bytes (get_or shdr_fields 2 no_field) refl refl are;
    addr = native_range class order bytes (get_or shdr_fields 3 no_field) refl refl are;
    offset = native_range class order bytes (get_or shdr_fields 4 no_field) refl refl are;
    size = native_range class order bytes (get_or shdr_fields 5 no_field) refl refl are;
    link = field_range class order bytes (get_or shdr_fields 6 no_field) 4 refl refl are;
    info = field_range class order bytes (get_or shdr_fields 7 no_field) 4 refl refl are;
    addralign = native_range class order bytes (get_or shdr_fields 8 no_field) refl refl are;
    entsize = native_range class order bytes (get_or shdr_fields 9 no_field) refl refl are;
  },
  shdr_fits_all class (shdr_of class order bytes) (record {
    flags = native_fits class order bytes (get_or shdr_fields 2 no_field) refl are;
    addr = native_fits class order bytes (get_or shdr_fields 3 no_field) refl are;
    offset = native_fits class order bytes (get_or shdr_fields 4 no_field) refl are;
    size = native_fits class order bytes (get_or shdr_fields 5 no_field) refl are;
    addralign = native_fits class order bytes (get_or shdr_fields 8 no_field) refl are;
    entsize = native_fits class order bytes (get_or shdr_fields 9 no_field) refl are;
  }),
)

-- ---- Sections

extent_small : (h : Shdr) → IsShdr h → home_len h < 2 ^ 64
unfolding home_len
extent_small h is = by_test (occupies_file h)
  where
    by_test : (b : Bool) → (if b then h.size else 0) < 2 ^ 64
    by_test true = is.size
    by_test false = lit< tt

-- a home in the file is as long as its bytes
pub home_inside : (image : List ℕ) (at len : ℕ) → (not (len == 0) && nat_lt (length image) (at + len)) ≡ false → length (take len (drop at image)) ≡ len
home_inside image at len h = by_test (len == 0) refl h
  where
    by_test : (b : Bool) → (len == 0) ≡ b → (not b && nat_lt (length image) (at + len)) ≡ false → length (take len (drop at image)) ≡ len
    by_test true e passed = let none = eqb-true len 0 e in rw (length-take, none) (omega arith)
    by_test false e passed =
        let end = ltb-false (length image) (at + len) passed in
        let rest = length-drop at image in
        length-take-le len (drop at image) (omega arith)

home_is : (image : List ℕ) (h : Shdr) → AreBytes image → IsShdr h → IsHome (home_of (length image) h) (home_bytes (home_of (length image) h) image)
unfolding home_of home_bytes
home_is image h are is = record {
  at = is.offset;
  len = extent_small h is;
  inside = λ e. inside (not (home_len h == 0) && nat_lt (length image) (h.offset + home_len h)) e refl;
  outside = λ e. rw e refl;
  empty = extent_of_no_kind h;
  bytes = bytes (not (home_len h == 0) && nat_lt (length image) (h.offset + home_len h));
}
  where
    inside : (b : Bool) → b ≡ false → (not (home_len h == 0) && nat_lt (length image) (h.offset + home_len h)) ≡ b → length (if b then [] else take (home_len h) (drop h.offset image)) ≡ home_len h
    inside true e same = cc
    inside false e same = home_inside image h.offset (home_len h) same

    bytes : (b : Bool) → AreBytes (if b then [] else take (home_len h) (drop h.offset image))
    bytes true = All-nil (λ n. n < 2 ^ 8)
    bytes false = All-take (λ n. n < 2 ^ 8) (home_len h) (drop h.offset image) (All-drop (λ n. n < 2 ^ 8) h.offset image are)

-- a section as it is opened
pub opened_section_is : (class : Class) (image : List ℕ) (h : Shdr) → AreBytes image → IsShdr h → IsTrue (shdr_fits class h) → IsSection class (opened_section image h)
unfolding opened_section
opened_section_is class image h are is fitting = record {
  header = is;
  fitting = fitting;
  home = home_is image h are is;
  pieces = All-cons IsPiece home_piece [] home_piece_is (All-nil IsPiece);
  others = All-nil (λ p. IsSome p.own);
  piece_count = lit≤ tt;
}

-- ---- A front that is not refused

-- what is known of a front that is not refused
pub record IsFrontOf (image : List ℕ) (f : Front) : Type 0 where
  pub class : Class
  pub order : Order
  pub ident : ident_in image ≡ Ok (class, order)
  pub long : ehdr_size class ≤ length image
  pub head : Head
  pub header : head.header ≡ ehdr_of class order (take (ehdr_size class) image)
  pub pad : head.pad ≡ take 7 (drop 9 image)
  pub counts : head.counts ≡ true_counts head.header (first_section head.header image)
  pub early : header_refusal head.header (length image) ≡ None
  pub late : count_refusal head.header head.counts (length image) ≡ None
  pub whole : f ≡ front_at head image

head_known : (image : List ℕ) (head : Head) → head_in image ≡ Ok head → IsFrontOf image (front_at head image)
unfolding head_in header_in counts_in counts_by header_at
head_known image head h =
    let outer = bind_ok (header_in image) (λ x. counts_in x.0 image >>= λ c. Ok (record { header = x.0; pad = x.1; counts = c })) head h in
    let id = bind_ok (ident_in image) (λ i. answered (refused_if (nat_lt (length image) (ehdr_size i.0)) error.Short) (header_at i.0 i.1 image)) outer.0 outer.1 in
    let long = answered_ok (refused_if (nat_lt (length image) (ehdr_size id.0.0)) error.Short) (header_at id.0.0 id.0.1 image) outer.0 id.2 in
    let inner = bind_ok (counts_in outer.0.0 image) (λ c. Ok (record { header = outer.0.0; pad = outer.0.1; counts = c })) head outer.2 in
    let first = bind_ok (answered (header_refusal outer.0.0 (length image)) (first_section outer.0.0 image)) (λ first. counts_by outer.0.0 first (length image)) inner.0 inner.1 in
    let early = answered_ok (header_refusal outer.0.0 (length image)) (first_section outer.0.0 image) first.0 first.1 in
    let late = answered_ok (count_refusal outer.0.0 (true_counts outer.0.0 first.0) (length image)) (true_counts outer.0.0 first.0) inner.0 first.2 in
    let made : head ≡ record { header = outer.0.0; pad = outer.0.1; counts = inner.0 } = cc in
    let parts : outer.0 ≡ (ehdr_of id.0.0 id.0.1 (take (ehdr_size id.0.0) image), take 7 (drop 9 image)) = sym long.1 in
    let counts : inner.0 ≡ true_counts outer.0.0 (first_section outer.0.0 image) = sym (ap (true_counts outer.0.0) early.1 ∙ late.1) in
    let P : Head → Type 0 = λ x. IsFrontOf image (front_at x image) in
    subst P (sym made) (record {
      class = id.0.0;
      order = id.0.1;
      ident = id.1;
      long = ltb-false (length image) (ehdr_size id.0.0) (not_refused (nat_lt (length image) (ehdr_size id.0.0)) error.Short long.0);
      head = record { header = outer.0.0; pad = outer.0.1; counts = inner.0 };
      header = ap (λ (x : Ehdr × List ℕ). x.0) parts;
      pad = ap (λ (x : Ehdr × List ℕ). x.1) parts;
      counts = counts;
      early = early.0;
      late = let Q : Counts → Type 0 = λ c. count_refusal outer.0.0 c (length image) ≡ None in subst Q late.1 late.0;
      whole = refl;
    })

pub front_known : (image : List ℕ) (f : Front) → front image ≡ Ok f → IsFrontOf image f
unfolding front
front_known image f h =
    let whole = bind_ok (head_in image) (λ head. Ok (front_at head image)) f h in
    let same : front_at whole.0 image ≡ f = cc in
    subst (IsFrontOf image) same (head_known image whole.0 whole.1)

-- ---- The object of a front

first_is : (h : Ehdr) (image : List ℕ) → AreBytes image → IsShdr (first_section h image)
unfolding first_section
first_is h image are = by_test (needs_first h)
  where
    by_test : (b : Bool) → IsShdr (if b then shdr_of h.class h.order (take (shdr_size h.class) (drop h.shoff image)) else zero_shdr)
    by_test true = (shdr_range h.class h.order (take (shdr_size h.class) (drop h.shoff image)) (All-take (λ n. n < 2 ^ 8) (shdr_size h.class) (drop h.shoff image) (All-drop (λ n. n < 2 ^ 8) h.shoff image are))).0
    by_test false = zero_shdr_is

index_small : (h : Ehdr) (first : Shdr) → h.shstrndx < 2 ^ 32 → first.link < 2 ^ 32 → true_shstrndx h first < 2 ^ 32
unfolding true_shstrndx
index_small h first a b = by_test (true_shnum h first == 0) (h.shstrndx == 0xffff)
  where
    by_test : (none extended : Bool) → (if none then 0 else (if extended then first.link else h.shstrndx)) < 2 ^ 32
    by_test true extended = lit< tt
    by_test false true = b
    by_test false false = a

index_none : (h : Ehdr) (first : Shdr) → true_shnum h first ≡ 0 → true_shstrndx h first ≡ 0
unfolding true_shstrndx
index_none h first e = rw e refl

length-items_of : {X : Type 0} (item : List ℕ → X) (size count : ℕ) (bytes : List ℕ) → length (items_of item size count bytes) ≡ count
unfolding items_of
length-items_of item size count bytes = length-map-range_with_len (λ i. item (take size (drop (i * size) bytes))) 0 count

table_is : (image : List ℕ) (at n : ℕ) → AreBytes image → AreBytes (take n (drop at image))
table_is image at n are = All-take (λ b. b < 2 ^ 8) n (drop at image) (All-drop (λ b. b < 2 ^ 8) at image are)

counts_small : (h : Ehdr) (c : Counts) (len : ℕ) → count_refusal h c len ≡ None → (c.shnum ≤ 2 ^ 20) × (c.phnum ≤ 2 ^ 20)
unfolding count_refusal
counts_small h c len late =
    let both = neither (nat_lt MAX_SECTIONS c.shnum) (nat_lt MAX_SEGMENTS c.phnum)
    (last_passed (refused_if (not (lies_in len h.shoff c.shnum (shdr_size h.class))) error.ShTable
    ∷ refused_if (not (h.phnum == 0) && not (h.phentsize == phdr_size h.class)) error.PhTable
    ∷ refused_if (h.phnum == PN_XNUM && h.shoff == 0) error.PhTable
    ∷ refused_if (not (h.phnum == 0) && not (lies_in len h.phoff c.phnum (phdr_size h.class))) error.PhTable ∷ [])
    (nat_lt MAX_SECTIONS c.shnum || nat_lt MAX_SEGMENTS c.phnum) error.TooMany late) in
    (ltb-false (2 ^ 20) c.shnum both.0, ltb-false (2 ^ 20) c.phnum both.1)
  where
    neither : (a b : Bool) → (a || b) ≡ false → (a ≡ false) × (b ≡ false)
    neither true b e = cc
    neither false b e = (refl, e)

image_small : (h : Ehdr) (len : ℕ) → header_refusal h len ≡ None → len ≤ 2 ^ 40
unfolding header_refusal
image_small h len early =
    let later = passed_one (not (h.version == EV_CURRENT)) error.Version _ early in
    let size = passed_one (nat_lt MAX_IMAGE len) error.TooLarge _ later.1 in
    ltb-false (2 ^ 40) len size.0

version_is : (h : Ehdr) (len : ℕ) → header_refusal h len ≡ None → h.version ≡ EV_CURRENT
unfolding header_refusal
version_is h len early =
    let first = passed_one (not (h.version == EV_CURRENT)) error.Version _ early in
    eqb-true h.version EV_CURRENT (not_not (h.version == EV_CURRENT) first.0)

-- the front of a header and its counts
front_is : (image : List ℕ) (head : Head) → AreBytes image → IsEhdr head.header → IsTrue (ehdr_fits head.header) → length head.pad ≡ 7 → AreBytes head.pad
    → head.counts ≡ true_counts head.header (first_section head.header image) → header_refusal head.header (length image) ≡ None
    → count_refusal head.header head.counts (length image) ≡ None → IsFittingFront (front_at head image) × IsCounted (front_at head image)
unfolding front_at phdrs_at shdrs_at ehdr_fits
front_is image head are is fitting seven pad counts early late =
    let class : Class = head.header.class in
    let order : Order = head.header.order in
    let small = counts_small head.header head.counts (length image) late in
    let version = version_is head.header (length image) early in
    let index = index_small head.header (first_section head.header image) is.shstrndx (first_is head.header image are).link in
    let same : head.counts.shstrndx ≡ true_shstrndx head.header (first_section head.header image) = ap (λ (x : Counts). x.shstrndx) counts in
    let phdr_bytes = take (head.counts.phnum * phdr_size class) (drop head.header.phoff image) in
    let shdr_bytes = take (head.counts.shnum * shdr_size class) (drop head.header.shoff image) in
    let phdrs_are = table_is image head.header.phoff (head.counts.phnum * phdr_size class) are in
    let shdrs_are = table_is image head.header.shoff (head.counts.shnum * shdr_size class) are in
    let phdr_count = length-items_of (phdr_of class order) (phdr_size class) head.counts.phnum phdr_bytes in
    let shdr_count = length-items_of (shdr_of class order) (shdr_size class) head.counts.shnum shdr_bytes in (
      record {
        header = counted_is head.header head.counts.phnum head.counts.shnum head.counts.shstrndx is (omega arith) (omega arith) (omega arith);
        fitting = fitting;
        version = version;
        phdrs = items_range IsPhdr (phdr_of class order) (phdr_size class) head.counts.phnum phdr_bytes (λ bytes each. (phdr_range class order bytes each).0) phdrs_are;
        fitting_phdrs = items_range (λ p. IsTrue (phdr_fits class p)) (phdr_of class order) (phdr_size class) head.counts.phnum phdr_bytes (λ bytes each. (phdr_range class order bytes each).1) phdrs_are;
        shdrs = items_range IsShdr (shdr_of class order) (shdr_size class) head.counts.shnum shdr_bytes (λ bytes each. (shdr_range class order bytes each).0) shdrs_are;
        fitting_shdrs = items_range (λ h. IsTrue (shdr_fits class h)) (shdr_of class order) (shdr_size class) head.counts.shnum shdr_bytes (λ bytes each. (shdr_range class order bytes each).1) shdrs_are;
        string_index = λ none.
            let zero_count : true_shnum head.header (first_section head.header image) ≡ 0 = sym (ap (λ (x : Counts). x.shnum) counts) ∙ sym shdr_count ∙ ap length none in
            same ∙ index_none head.header (first_section head.header image) zero_count;
        pad = seven;
        pad_bytes = pad;
      },
      record { phnum = phdr_count; shnum = shdr_count; few_phdrs = small.1; few_shdrs = small.0 },
    )

-- an object begun over a front that has the shape of one, and over any bytes of that length
pub begun_fits : BegunFits
unfolding begun
begun_fits f image fits counted are small =
    let phdrs = counted.phnum in
    let few_phdrs = counted.few_phdrs in
    let shdrs = counted.shnum in
    let few_shdrs = counted.few_shdrs in
    let count = length-map f.shdrs (opened_section image) in
    record {
      header = fits.header;
      fitting = fits.fitting;
      phnum = sym counted.phnum;
      shnum = sym counted.shnum ∙ sym count;
      pad = fits.pad;
      pad_bytes = fits.pad_bytes;
      phdr_count = omega arith;
      sections = All-map (IsSection f.ehdr.class) (opened_section image) f.shdrs
          (λ k d h. opened_section_is f.ehdr.class image (get_or f.shdrs k d) are (fits.shdrs k d h) (fits.fitting_shdrs k d h));
      section_count = omega arith;
      string_index = λ none. fits.string_index (nil_from_length f.shdrs (sym count ∙ ap length none));
      base = are;
      base_length = small;
      fill = lit< tt;
    }

-- the front of an image has the shape of one
pub known_fits : (image : List ℕ) (f : Front) → AreBytes image → IsFrontOf image f → IsFittingFront f × IsCounted f
known_fits image f are known =
    let bytes = All-take (λ n. n < 2 ^ 8) (ehdr_size known.class) image are in
    let range = ehdr_range known.class known.order (take (ehdr_size known.class) image) bytes in
    let is : IsEhdr known.head.header = subst IsEhdr (sym known.header) range.0 in
    let fitting : IsTrue (ehdr_fits known.head.header) = subst (λ (x : Ehdr). IsTrue (ehdr_fits x)) (sym known.header) range.1 in
    let long = known.long in
    let sixteen = size_long known.class in
    let rest = length-drop 9 image in
    let seven : length known.head.pad ≡ 7 = ap length known.pad ∙ length-take-le 7 (drop 9 image) (omega arith) in
    let pad : AreBytes known.head.pad = subst AreBytes (sym known.pad) (table_is image 9 7 are) in
    let P : Front → Type 0 = λ x. IsFittingFront x × IsCounted x in
    subst P (sym known.whole) (front_is image known.head are is fitting seven pad known.counts known.early known.late)
  where
    size_long : (class : Class) → 16 ≤ ehdr_size class
    size_long C32 = lit≤ tt
    size_long C64 = lit≤ tt

opened_front : (r : Result Front ElfError) (image : List ℕ) (o : Object) → begun_or_refused r image ≡ Ok o → (f : Front) × (r ≡ Ok f) × (begun f image ≡ o)
opened_front (Ok f) image o h = (f, refl, cc)
opened_front (Err e) image o h = cc

pub opened_is : (image : List ℕ) (o : Object) → AreBytes image → opened image ≡ Ok o → IsObject o
unfolding opened
opened_is image o are h =
    let found = opened_front (front image) image o h in
    let known = front_known image found.0 found.1 in
    let fits = known_fits image found.0 are known in
    let len = image_small known.head.header (length image) known.early in
    subst IsObject found.2 (begun_fits found.0 image fits.0 fits.1 are (omega arith))

-- its program headers are in range
pub opened_phdrs : (image : List ℕ) (o : Object) → AreBytes image → opened image ≡ Ok o → All IsPhdr o.phdrs
unfolding opened begun
opened_phdrs image o are h =
    let found = opened_front (front image) image o h in
    let fits = known_fits image found.0 are (front_known image found.0 found.1) in
    subst (λ (q : Object). All IsPhdr q.phdrs) found.2 fits.0.phdrs

-- ---- Create

zeros : (class : Class) (order : Order) → IsEhdr (new_ehdr class order)
zeros class order = record {
  osabi = lit< tt;
  abiversion = lit< tt;
  etype = lit< tt;
  machine = lit< tt;
  version = lit< tt;
  entry = lit< tt;
  phoff = lit< tt;
  shoff = lit< tt;
  flags = lit< tt;
  ehsize = lit< tt;
  phentsize = lit< tt;
  phnum = lit< tt;
  shentsize = lit< tt;
  shnum = lit< tt;
  shstrndx = lit< tt;
}

new_ehdr_is : (class : Class) (order : Order) → IsEhdr (new_ehdr class order) × IsTrue (ehdr_fits (new_ehdr class order))
unfolding ehdr_fits
new_ehdr_is C32 order = (zeros C32 order, refl)
new_ehdr_is C64 order = (zeros C64 order, refl)

pub created_is : (class : Class) (order : Order) (base : List ℕ) → AreBytes base → length base < 2 ^ 64 → IsObject (created_over class order base)
unfolding created_over
created_is class order base are small =
    let header = new_ehdr_is class order in
    record {
      header = header.0;
      fitting = header.1;
      phnum = refl;
      shnum = refl;
      pad = length-replicate {A = ℕ} 7 0;
      pad_bytes = All-replicate (λ n. n < 2 ^ 8) 7 0 (lit< tt);
      phdr_count = lit≤ tt;
      sections = All-nil (IsSection class);
      section_count = lit≤ tt;
      string_index = λ h. refl;
      base = are;
      base_length = small;
      fill = lit< tt;
    }

-- The sections of two images that are the same but for places, as the getters see them: without
-- what a place, a size or a link tells.
use Rattle.std.proofs.Common.{◌≡◌, ℕ, zero, suc, ◌<◌, ◌≤◌, Bool, true, false, List, [], ◌∷◌, length, drop, take, Ok, refl, sym, ap, ◌∙◌, arith, ⊎_elim}
use Rattle.std.specs.Prelude.{slice_index_or, if◌then◌else◌}
use Rattle.std.proofs.lemmas.Bool.{cases_lt}
use Rattle.elf_types.specs.Kinds.{section_kind}
use Rattle.elf_types.specs.declared.records.Kind.{Kind}
use Rattle.elf_types.specs.declared.records.Kind.TheVariants as kinds
use Rattle.elf_types.specs.declared.records.Shdr.{Shdr}
use Rattle.elf_ident.specs.Front.{zero_shdr}
use Rattle.elf_object.specs.Object.{Object, Section, home_piece, absent_section, section_at, occupies_file}
use Rattle.elf_object.specs.Open.{home_len, home_of, home_bytes, opened_section, begun, opened}
use Rattle.law_rebuild.proofs.law_object.OpenLaws.{home_inside}
use Rattle.law_rebuild.proofs.law_object.StandLaws.{section_at-past}
use Rattle.elf_object.specs.Sections.{is_program, header_at}
use Rattle.rebuild_model.specs.KeepingLaws.{SameSection, SameButPlaces}
use Rattle.law_split.proofs.Inside.{none_out}
use Rattle.law_split.proofs.Whole.{begun_of, section_opened}

-- ---- A section but for its place

abbrev unplaced : Section → Section
unplaced c =
    record c { header = record c.header { offset = 0 }; home = record c.home { at = 0 } }

-- a home that passes the end has no bytes, and any other one as many as it is long
out_empty : (image : List ℕ) (h : Shdr) → (opened_section image h).home.out ≡ true
    → (opened_section image h).raw ≡ []
unfolding opened_section home_bytes
out_empty image h e =
    let bytes : Bool → List ℕ = λ b. if b then []
    else take (home_of (length image) h).len (drop (home_of (length image) h).at image) in
    ap bytes e

inside_long : (image : List ℕ) (h : Shdr) → (opened_section image h).home.out ≡ false
    → length (opened_section image h).raw ≡ home_len h
unfolding opened_section home_of home_bytes
inside_long image h e =
    let bytes : Bool → List ℕ = λ b. if b then [] else take (home_len h) (drop h.offset image) in
    ap (λ (b : Bool). length (bytes b)) e
    ∙ home_inside image h.offset (home_len h) e

-- with the same bytes and the same length, both homes pass the end of their images or neither
out_same : (image out : List ℕ) (g h : Shdr) → home_len g ≡ home_len h
    → (opened_section image g).raw ≡ (opened_section out h).raw
    → (opened_section image g).home.out ≡ (opened_section out h).home.out
out_same image out g h long raw =
    by_tests (opened_section image g).home.out (opened_section out h).home.out refl refl
  where
    by_tests : (x y : Bool) → (opened_section image g).home.out ≡ x
        → (opened_section out h).home.out ≡ y → x ≡ y
    by_tests true true e f = refl
    by_tests false false e f = refl
    by_tests true false e f =
        let none : home_len g ≡ 0 =
        long ∙ sym (inside_long out h f) ∙ ap length (sym raw ∙ out_empty image g e) in
        sym e ∙ none_out image g none
    by_tests false true e f =
        let none : home_len h ≡ 0 =
        sym long ∙ sym (inside_long image g e) ∙ ap length (raw ∙ out_empty out h f) in
        sym (none_out out h none) ∙ f

-- as it is opened
abbrev seen : Shdr → Bool → List ℕ → Section
seen h out raw = record {
  header = h;
  home = record { at = 0; len = home_len h; kind = section_kind h; out = out };
  raw = raw;
  pieces = home_piece ∷ [];
  marked = false;
}

opened_seen : (image : List ℕ) (h : Shdr)
    → unplaced (opened_section image h)
    ≡ seen (record h { offset = 0 }) (opened_section image h).home.out (opened_section image h).raw
unfolding opened_section home_of home_len section_kind
opened_seen image h = refl

long_same : (g h : Shdr) → record g { offset = 0 } ≡ record h { offset = 0 }
    → home_len g ≡ home_len h
unfolding home_len
long_same g h same = ap (λ (x : Shdr). home_len x) same

section_alike : (image out : List ℕ) (a b : Object) (s : ℕ) (program : Bool)
    → opened image ≡ Ok a → opened out ≡ Ok b
    → SameSection program (section_at a s) (section_at b s)
    → s < length a.sections → s < length b.sections
    → unplaced (section_at a s) ≡ unplaced (section_at b s)
section_alike image out a b s program is_a is_b same below inside =
    let one = section_opened image a s is_a below in
    let other = section_opened out b s is_b inside in
    let g = header_at a s in
    let h = header_at b s in
    let raw : (opened_section image (header_at a s)).raw
    ≡ (opened_section out (header_at b s)).raw =
    sym (ap (λ (c : Section). c.raw) one) ∙ same.raw ∙ ap (λ (c : Section). c.raw) other in
    ap (λ (c : Section). unplaced c) one
    ∙ opened_seen image g
    ∙ ap (λ (x : Shdr). seen x (opened_section image g).home.out (opened_section image g).raw)
    same.header
    ∙ ap (λ (x : Bool). seen (record h { offset = 0 }) x (opened_section image g).raw)
    (out_same image out g h (long_same g h same.header) raw)
    ∙ ap (λ (l : List ℕ). seen (record h { offset = 0 }) (opened_section out h).home.out l) raw
    ∙ sym (opened_seen out h)
    ∙ sym (ap (λ (c : Section). unplaced c) other)

-- ---- A section without links

-- neither its place nor its size, link and info
abbrev pub bare : Section → Section
bare c = record c {
  header = record c.header { offset = 0; size = 0; link = 0; info = 0 };
  home = record c.home { at = 0 };
}

-- section 0 is all zero but for size, link and info
abbrev pub IsZeroth : Object → Type 0
IsZeroth o = record (header_at o 0) { size = 0; link = 0; info = 0 } ≡ zero_shdr

-- opened, it is empty
abbrev empty_section : Section
empty_section = record absent_section { pieces = home_piece ∷ [] }

module _ (image : List ℕ) (h : Shdr)
    (is : record h { size = 0; link = 0; info = 0 } ≡ zero_shdr) where
  no_length : home_len h ≡ 0
  unfolding home_len zero_shdr
  no_length = ap (λ (x : Shdr). if occupies_file x then h.size else 0) is

  no_kind : section_kind h ≡ kinds.Empty
  unfolding section_kind zero_shdr
  no_kind = ap (λ (x : Shdr). section_kind x) is

  not_out : (opened_section image h).home.out ≡ false
  not_out = none_out image h no_length

  no_bytes : (opened_section image h).raw ≡ []
  unfolding opened_section home_of home_bytes
  no_bytes =
      ap (λ (b : Bool). if b then [] else take (home_len h) (drop h.offset image)) not_out
      ∙ ap (λ (n : ℕ). take n (drop h.offset image)) no_length

  no_header : record h { offset = 0; size = 0; link = 0; info = 0 } ≡ zero_shdr
  unfolding zero_shdr
  no_header = ap (λ (x : Shdr). record x { offset = 0 }) is

  zeroth_bare : bare (opened_section image h) ≡ empty_section
  unfolding opened_section home_of
  zeroth_bare =
      let made : Shdr → ℕ → Kind → Bool → List ℕ → Section =
      λ header len kind out raw. record {
        header = header;
        home = record { at = 0; len = len; kind = kind; out = out };
        raw = raw;
        pieces = home_piece ∷ [];
        marked = false;
      } in
      let out = (opened_section image h).home.out in
      let raw = (opened_section image h).raw in
      ap (λ (x : Shdr). made x (home_len h) (section_kind h) out raw) no_header
      ∙ ap (λ (n : ℕ). made zero_shdr n (section_kind h) out raw) no_length
      ∙ ap (λ (k : Kind). made zero_shdr 0 k out raw) no_kind
      ∙ ap (λ (b : Bool). made zero_shdr 0 kinds.Empty b raw) not_out
      ∙ ap (λ (l : List ℕ). made zero_shdr 0 kinds.Empty false l) no_bytes

zeroth_opened : (image : List ℕ) (o : Object) → opened image ≡ Ok o → IsZeroth o
    → 0 < length o.sections → bare (section_at o 0) ≡ empty_section
zeroth_opened image o is zeroth some =
    ap (λ (c : Section). bare c) (section_opened image o 0 is some)
    ∙ zeroth_bare image (header_at o 0) zeroth

-- ---- Both

-- of two objects, what the getters look at
pub record IsAlike (a b : Object) (s : ℕ) : Type 0 where
  pub count : length a.sections ≡ length b.sections
  pub class : a.header.class ≡ b.header.class
  pub order : a.header.order ≡ b.header.order
  pub section : bare (section_at a s) ≡ bare (section_at b s)

module _ (image out : List ℕ) (a b : Object) (is_a : opened image ≡ Ok a)
    (is_b : opened out ≡ Ok b) (same : SameButPlaces a b) where
  -- no section is there in either
  both_past : (s : ℕ) → length a.sections ≤ s → section_at a s ≡ section_at b s
  both_past s past =
      section_at-past a s past
      ∙ sym (section_at-past b s (omega (arith, past, same.count)))

  pub link_same : (s : ℕ) → 1 ≤ s → (header_at a s).link ≡ (header_at b s).link
  link_same s from = ⊎_elim
      (λ below. ap (λ (h : Shdr). h.link) (same.sections s from below).header)
      (λ past. ap (λ (c : Section). c.header.link) (both_past s past))
      (cases_lt s (length a.sections))

  module _ (zeroth : IsZeroth a) where
    sections_alike : (s : ℕ) → s < length a.sections → bare (section_at a s) ≡ bare (section_at b s)
    sections_alike zero some =
        zeroth_opened image a is_a zeroth some
        ∙ sym (zeroth_opened out b is_b same.first (omega (arith, some, same.count)))
    sections_alike (suc s) below =
        ap (λ (c : Section). bare c)
        (section_alike image out a b (suc s) (is_program a) is_a is_b
        (same.sections (suc s) (omega arith) below) below (omega (arith, below, same.count)))

    pub alike_of : (s : ℕ) → IsAlike a b s
    alike_of s = record {
      count = same.count;
      class = same.header.class;
      order = same.header.order;
      section = ⊎_elim
          (λ below. sections_alike s below)
          (λ past. ap (λ (c : Section). bare c) (both_past s past))
          (cases_lt s (length a.sections));
    }

-- ---- Section 0

-- it has no items: its home is of no kind
pub record HasNoItems (c : Section) : Type 0 where
  pub kind : c.home.kind ≡ kinds.Empty
  pub inside : c.home.out ≡ false
  pub piece : slice_index_or c.pieces 0 home_piece ≡ home_piece

empty_bare : (c : Section) → bare c ≡ empty_section → HasNoItems c
empty_bare c is = record {
  kind = ap (λ (x : Section). x.home.kind) is;
  inside = ap (λ (x : Section). x.home.out) is;
  piece = ap (λ (x : Section). slice_index_or x.pieces 0 home_piece) is;
}

absent_empty : (c : Section) → c ≡ absent_section → HasNoItems c
absent_empty c is = record {
  kind = ap (λ (x : Section). x.home.kind) is;
  inside = ap (λ (x : Section). x.home.out) is;
  piece = ap (λ (x : Section). slice_index_or x.pieces 0 home_piece) is;
}

pub zeroth_empty : (image : List ℕ) (o : Object) → opened image ≡ Ok o → IsZeroth o
    → HasNoItems (section_at o 0)
zeroth_empty image o is zeroth = ⊎_elim
    (λ some. empty_bare (section_at o 0) (zeroth_opened image o is zeroth some))
    (λ none. absent_empty (section_at o 0) (section_at-past o 0 none))
    (cases_lt 0 (length o.sections))

-- ---- An object as it is opened

-- nothing is marked, nothing is laid out by a caller, and gaps are zeros
pub record IsUntouched (o : Object) : Type 0 where
  pub layout : o.layout ≡ false
  pub fill : o.fill ≡ 0
  pub marked : o.marked ≡ false
  pub header_marked : o.header_marked ≡ false
  pub segments_marked : o.segments_marked ≡ false

pub opened_untouched : (image : List ℕ) (o : Object) → opened image ≡ Ok o → IsUntouched o
unfolding begun
opened_untouched image o is =
    let found = begun_of image o is in
    record {
      layout = ap (λ (x : Object). x.layout) (sym found.2);
      fill = ap (λ (x : Object). x.fill) (sym found.2);
      marked = ap (λ (x : Object). x.marked) (sym found.2);
      header_marked = ap (λ (x : Object). x.header_marked) (sym found.2);
      segments_marked = ap (λ (x : Object). x.segments_marked) (sym found.2);
    }

-- A section of an image as opened that is neither out of the file nor ragged: a lend of its items is
-- not refused.
use Rattle.std.proofs.Common.{◌≡◌, ℕ, ◌+◌, ◌<◌, ◌≤◌, ◌==◌, ◌&&◌, Bool, true, false, not, List, [], ◌∷◌, length, take, drop, map, get_or, Option, Some, None, Result, Ok, Err, refl, sym, ap, ◌∙◌, subst, arith}
use Rattle.std.specs.Prelude.{nat_le, nat_lt, is_some, if◌then◌else◌}
use Rattle.std.proofs.lemmas.Bool.{lt-leb, leb-true, leb-false, ltb-false, eqb-true, not-true}
use Rattle.std.proofs.lemmas.List.{get_or-map, length-map, length-drop, length-take-le}
use Rattle.std.proofs.Math.ListN.{get_or-eq_default}
use Rattle.elf_types.specs.Answers.{refused_if, first_refusal, err_of}
use Rattle.elf_types.specs.Kinds.{section_kind}
use Rattle.elf_types.specs.declared.records.Kind.{Kind}
use Rattle.elf_types.specs.declared.records.Shdr.{Shdr}
use Rattle.elf_types.specs.declared.errors.ElfError.{ElfError}
use Rattle.elf_types.specs.declared.errors.ElfError.TheVariants.{NoSection, NoData, WrongKind, OutOfFile, Ragged}
use Rattle.elf_xlate.specs.declared.content.Items.{Items}
use Rattle.elf_xlate.specs.Translation.{decoded, is_whole, items_kind}
use Rattle.elf_xlate.proofs.Decoded.{whole_is}
use Rattle.elf_ident.specs.declared.fronts.Front.{Front}
use Rattle.elf_ident.specs.Front.{front, zero_shdr}
use Rattle.symbol_lookup.specs.elf_object.Object.{Object, Section, Home, Piece, section_at, piece_at, absent_section, home_piece}
use Rattle.symbol_lookup.specs.elf_object.Open.{home_len, home_of, home_bytes, opened_section, begun, begun_or_refused, opened}
use Rattle.symbol_lookup.specs.elf_object.Answers.{content, piece_count, kind_at, same_kind, no_section, no_data, wrong_kind, no_content, lend_refusal}
use Rattle.symbol_lookup.specs.elf_object.Sections.{header_at}
use Rattle.elf_lint_findings.specs.Looking.{is_outside_file, is_ragged_section, is_intact}

-- ---- Tests

pub both : (a b : Bool) → (a && b) ≡ true → (a ≡ true) × (b ≡ true)
both true b is = (refl, is)
both false b is = cc

four_none : (a b c d : Option ElfError) → a ≡ None → b ≡ None → c ≡ None → d ≡ None → first_refusal (a ∷ b ∷ c ∷ d ∷ []) ≡ None
four_none a b c d one two three four =
    ap (λ (r : Option ElfError). first_refusal (r ∷ b ∷ c ∷ d ∷ [])) one
    ∙ ap (λ (r : Option ElfError). first_refusal (r ∷ c ∷ d ∷ [])) two
    ∙ ap (λ (r : Option ElfError). first_refusal (r ∷ d ∷ [])) three
    ∙ ap (λ (r : Option ElfError). first_refusal (r ∷ [])) four

-- a section whose header passes a test that no header of zeros passes is there
pub is_there : (o : Object) (s : ℕ) (test : Shdr → Bool) → test zero_shdr ≡ false → test (header_at o s) ≡ true → s < length o.sections
unfolding section_at
is_there o s test none is = by_count (nat_le (length o.sections) s) refl
  where
    by_count : (past : Bool) → nat_le (length o.sections) s ≡ past → s < length o.sections
    by_count false known = leb-false (length o.sections) s known
    by_count true known =
        let absent : get_or o.sections s absent_section ≡ absent_section = get_or-eq_default o.sections absent_section {n = s} (leb-true (length o.sections) s known) in
        let no : false ≡ true = sym none ∙ sym (ap (λ (c : Section). test c.header) absent) ∙ is in
        cc

-- ---- A section of an image as opened

-- so many bytes from a place on, where they lie in the image
taken_long : (image : List ℕ) (at n : ℕ) → (not (n == 0) && nat_lt (length image) (at + n)) ≡ false → length (take n (drop at image)) ≡ n
taken_long image at n inside = by_size (n == 0) refl
  where
    by_size : (empty : Bool) → (n == 0) ≡ empty → length (take n (drop at image)) ≡ n
    by_size true known = subst (λ (k : ℕ). length (take k (drop at image)) ≡ k) (sym (eqb-true n 0 known)) refl
    by_size false known =
        let past : nat_lt (length image) (at + n) ≡ false = sym (ap (λ (empty : Bool). not empty && nat_lt (length image) (at + n)) known) ∙ inside in
        let within : at + n ≤ length image = ltb-false (length image) (at + n) past in
        let long = length-drop at image in
        let below : n ≤ length (drop at image) = omega (arith, within, long) in
        length-take-le n (drop at image) below

record Stands (image : List ℕ) (c : Section) : Type 0 where
  pub pieces : c.pieces ≡ home_piece ∷ []
  pub home : c.home ≡ home_of (length image) c.header
  pub raw : c.raw ≡ home_bytes c.home image

stands : (image : List ℕ) (h : Shdr) → Stands image (opened_section image h)
unfolding opened_section
stands image h = record { pieces = refl; home = refl; raw = refl }

content_there : (s : ℕ) (out : Bool) (made : Option Items) → out ≡ false → is_some made ≡ true
    → err_of {A = Items} (if out then Err (OutOfFile s) else (elim made [ None ↦ Err (Ragged s) | Some items ↦ Ok items ])) ≡ None
content_there s true made inside some = cc
content_there s false None inside some = cc
content_there s false (Some items) inside some = refl

module _ (image : List ℕ) (o : Object) (is : opened image ≡ Ok o) where
  by_front : (r : Result Front ElfError) → begun_or_refused r image ≡ Ok o → (f : Front) × (begun f image ≡ o)
  by_front (Ok f) begins = (f, cc)
  by_front (Err e) begins = cc

  began : (f : Front) × (begun f image ≡ o)
  unfolding opened
  began = by_front (front image) is

  abbrev headers : List Shdr
  headers = began.0.shdrs

  sections_are : o.sections ≡ map (opened_section image) headers
  unfolding begun
  sections_are = ap (λ (q : Object). q.sections) (sym began.1)

  section_stands : (s : ℕ) → s < length o.sections → Stands image (section_at o s)
  unfolding section_at
  section_stands s there =
      let many = length-map headers (opened_section image) in
      let long : length o.sections ≡ length (map (opened_section image) headers) = ap length sections_are in
      let at : get_or o.sections s absent_section ≡ opened_section image (get_or headers s zero_shdr) =
      ap (λ (l : List Section). get_or l s absent_section) sections_are
      ∙ get_or-map (opened_section image) headers s zero_shdr absent_section (omega (arith, there, many, long)) in
      subst (Stands image) (sym at) (stands image (get_or headers s zero_shdr))

  module _ (s : ℕ) (there : s < length o.sections) (intact : is_intact o s ≡ true) where
    abbrev c : Section
    c = section_at o s

    at : Stands image c
    at = section_stands s there

    inside : c.home.out ≡ false
    unfolding is_intact
    inside = not-true c.home.out (both (not (is_outside_file o s)) (not (is_ragged_section o s)) intact).0

    whole : is_whole (section_kind c.header) o.header.class (home_len c.header) ≡ true
    unfolding is_intact is_ragged_section
    whole =
        let test = is_whole (section_kind c.header) o.header.class (home_len c.header) in
        let ragged : (not c.home.out && not test) ≡ false = not-true (not c.home.out && not test) (both (not c.home.out) (not (not c.home.out && not test)) intact).1 in
        by_test test (ap (λ (out : Bool). not out && not test) (sym inside) ∙ ragged)
      where
        by_test : (t : Bool) → not t ≡ false → t ≡ true
        by_test true is = refl
        by_test false is = cc

    kind_is : c.home.kind ≡ section_kind c.header
    unfolding home_of
    kind_is = ap (λ (x : Home). x.kind) at.home

    raw_long : length c.raw ≡ home_len c.header
    unfolding home_of home_bytes
    raw_long =
        let in_file : (not (home_len c.header == 0) && nat_lt (length image) (c.header.offset + home_len c.header)) ≡ false = sym (ap (λ (x : Home). x.out) at.home) ∙ inside in
        ap length at.raw
        ∙ ap (λ (out : Bool). length (if out then [] else take c.home.len (drop c.home.at image))) inside
        ∙ ap (λ (x : Home). length (take x.len (drop x.at image))) at.home
        ∙ taken_long image c.header.offset (home_len c.header) in_file

    made : is_some (decoded c.home.kind o.header.class o.header.order c.raw) ≡ true
    made =
        whole_is c.home.kind o.header.class o.header.order c.raw
        ∙ ap (λ (k : Kind). is_whole k o.header.class (length c.raw)) kind_is
        ∙ ap (is_whole (section_kind c.header) o.header.class) raw_long
        ∙ whole

    clean : piece_at o s 0 ≡ home_piece
    unfolding piece_at
    clean = ap (λ (ps : List Piece). get_or ps 0 home_piece) at.pieces

    one_piece : piece_count o s ≡ 1
    unfolding piece_count
    one_piece = ap length at.pieces

    held_kind : kind_at o s 0 ≡ section_kind c.header
    unfolding kind_at
    held_kind =
        ap (λ (p : Piece). elim (p.own) [ None ↦ c.home.kind | Some items ↦ items_kind items ]) clean ∙ kind_is

    content_held : no_content o s 0 ≡ None
    unfolding no_content content
    content_held =
        ap (λ (p : Piece). elim (p.own) [ None ↦ err_of (content o s) | Some items ↦ None ]) clean
        ∙ content_there s c.home.out (decoded c.home.kind o.header.class o.header.order c.raw) inside made

    -- a lend of the items of its kind is not refused
    pub lend_passes : (kind : Kind) → same_kind (section_kind c.header) kind ≡ true → lend_refusal o kind s 0 ≡ None
    unfolding lend_refusal
    lend_passes kind same =
        four_none (no_section o s) (no_data o s 0) (wrong_kind o kind s 0) (no_content o s 0)
        (ap (λ (t : Bool). refused_if t (NoSection s (length o.sections))) (lt-leb (length o.sections) s there))
        (ap (λ (n : ℕ). refused_if (nat_le n 0) (NoData 0 n)) one_piece)
        (ap (λ (k : Kind). refused_if (not (same_kind k kind)) (WrongKind k)) held_kind
        ∙ ap (λ (t : Bool). refused_if (not t) (WrongKind (section_kind c.header))) same)
        content_held

-- The object that a front begins over an image has the symbols and the names that two ranges of the
-- image hold.
use Rattle.std.proofs.Common.{◌≡◌, ◌≢◌, ◌+◌, ◌≤◌, ℕ, Bool, true, false, not, ◌&&◌, ◌||◌, List, [], ◌∷◌, length, take, drop, map, Option, Some, None, Result, Ok, Err, IsTrue, refl, sym, ap, subst, ◌∙◌, arith}
use Rattle.std.specs.Prelude.{◌==◌, ◌/◌, nat_lt, nat_le, slice_get, slice_index_or, is_some, if◌then◌else◌}
use Rattle.std.specs.Option.{option_map}
use Rattle.std.specs.List.{position, list_any, sum_by}
use Rattle.std.proofs.lemmas.Bool.{and_right, and_left, eqb-true, ne_eqb, le-ltb, lt-leb}
use Rattle.std.proofs.lemmas.List.{length-drop, length-take-le}
use Rattle.std.proofs.lemmas.List.Quantifiers.{position-Some}
use Rattle.std.proofs.lemmas.List.Sums.{sum_by-cons}
use Rattle.std.proofs.lemmas.Option.{slice_get-map, slice_get_within, get_or_from_slice_get}
use Rattle.elf_types.specs.declared.constants.TheConstants.{SHT_NULL, SHT_NOBITS, SHT_SYMTAB, SHT_STRTAB, SHT_SYMTAB_SHNDX}
use Rattle.elf_types.specs.declared.errors.ElfError.{ElfError}
use Rattle.elf_types.specs.declared.errors.ElfError.TheVariants.{NoSection, NoData, WrongKind, OutOfFile, Ragged}
use Rattle.elf_types.specs.declared.records.Kind.{Kind}
use Rattle.elf_types.specs.declared.records.Kind.TheVariants as kinds
use Rattle.elf_types.specs.declared.records.Shdr.{Shdr}
use Rattle.elf_types.specs.Answers.{refused_if, first_refusal, err_of}
use Rattle.elf_types.specs.Kinds.{is_compressed, kinds_of_types, kind_in, kind_of_type, section_kind}
use Rattle.elf_xlate.specs.declared.content.Items.{Items}
use Rattle.elf_xlate.specs.declared.content.Items.TheVariants as items
use Rattle.elf_xlate.specs.Items.{item_size}
use Rattle.elf_xlate.specs.Translation.{decoded, items_kind, items_count as count_of, is_whole}
use Rattle.elf_xlate.proofs.Decoded.{whole_is, decoded_kind, items_count}
use Rattle.elf_ident.specs.declared.fronts.Front.{Front}
use Rattle.elf_object.specs.Object.{Object, Section, Piece, section_at, piece_at, absent_section, home_piece, occupies_file}
use Rattle.elf_object.specs.Open.{home_len, home_of, home_bytes, opened_section, begun}
use Rattle.elf_object.specs.Answers.{content, no_section, no_data, wrong_kind, no_content, kind_at, piece_count, items_at, syms_of, same_kind, lend_refusal}
use Rattle.elf_object.specs.Strings.{string_answer, readable}
use Rattle.elf_object.specs.SymbolSections.{shndx_table}
use Rattle.elf_object.specs.Due.{home_due, homes_due, with_others, all_sections}
use Rattle.tool_objects.specs.section_data.Held.{or_empty, items_of_bytes}
use Rattle.tool_objects.specs.gelf_view.Records.{string_front}
use Rattle.tool_objects.specs.Steps.{homes_total}
use Rattle.tool_objects.proofs.OnceReads.{in_range, nothing_loaded}
use Rattle.tool_objects.proofs.OnceSums.{has, Once, once_one, once_others, sum_within}
use Rattle.tool_objects.proofs.at_hand.HeldItems.{clean_items}
use Rattle.tool_objects.proofs.at_hand.OneTable.{strings_are}
use Rattle.nm_front.specs.declared.tables.PlainTable.{PlainTable}
use Rattle.nm_front.specs.Tables.{is_symbols, is_indexes, LiesInImage, IsPlain}
use Rattle.nm_front.proofs.Positions.{position_mapped, no_position}

-- ---- The headers of the object

headers_of : (image : List ℕ) (headers : List Shdr)
    → map (λ (c : Section). c.header) (map (opened_section image) headers) ≡ headers
unfolding opened_section
headers_of image [] = refl
headers_of image (h ∷ headers) = ap (λ (l : List Shdr). h ∷ l) (headers_of image headers)

module _ (f : Front) (image : List ℕ) where
  pub headers_begun : map (λ (c : Section). c.header) (begun f image).sections ≡ f.shdrs
  unfolding begun
  headers_begun = headers_of image f.shdrs

  -- what a test by the header finds
  pub position_begun : (test : Section → Bool)
      → position test (begun f image).sections
      ≡ position (λ (h : Shdr). test (opened_section image h)) f.shdrs
  unfolding begun
  position_begun test = position_mapped test (opened_section image) f.shdrs

  -- no table of extended indexes is one of any symbols
  pub none_indexed : (s : ℕ) → list_any is_indexes f.shdrs ≡ false
      → shndx_table (begun f image) s ≡ None
  unfolding shndx_table opened_section
  none_indexed s none =
      position_begun (λ (c : Section). c.header.stype == SHT_SYMTAB_SHNDX && c.header.link == s)
      ∙ no_position is_indexes (λ (h : Shdr). h.stype == SHT_SYMTAB_SHNDX && h.link == s)
      (λ h out. and_left (h.stype == SHT_SYMTAB_SHNDX) (h.link == s) out) f.shdrs none

  sections_got : (s : ℕ) (h : Shdr) → slice_get f.shdrs s ≡ Some h
      → slice_get (begun f image).sections s ≡ Some (opened_section image h)
  unfolding begun
  sections_got s h there =
      slice_get-map (opened_section image) f.shdrs s
      ∙ ap (option_map (opened_section image)) there

  section_is : (s : ℕ) (h : Shdr) → slice_get f.shdrs s ≡ Some h
      → section_at (begun f image) s ≡ opened_section image h
  unfolding section_at
  section_is s h there =
      get_or_from_slice_get (begun f image).sections s (opened_section image h) absent_section
      (sections_got s h there)

-- ---- A section whose bytes lie in the image

module _ (f : Front) (image : List ℕ) (s : ℕ) (h : Shdr) (there : slice_get f.shdrs s ≡ Some h)
    (kind : Kind) (of_kind : section_kind h ≡ kind) (occupies : occupies_file h ≡ true)
    (inside : LiesInImage (length image) h) where
  abbrev o : Object
  o = begun f image

  abbrev range : List ℕ
  range = take h.size (drop h.offset image)

  here : section_at o s ≡ opened_section image h
  here = section_is f image s h there

  is_there : no_section o s ≡ None
  is_there =
      ap (λ (b : Bool). refused_if b (NoSection s (length o.sections)))
      (lt-leb (length o.sections) s
      (slice_get_within o.sections s (opened_section image h) (sections_got f image s h there)))

  long : home_len h ≡ h.size
  unfolding home_len
  long = ap (λ (b : Bool). if b then h.size else 0) occupies

  not_out : (opened_section image h).home.out ≡ false
  unfolding opened_section home_of
  not_out =
      ap (λ (n : ℕ). not (n == 0) && nat_lt (length image) (h.offset + n)) long
      ∙ and_right (not (h.size == 0)) (nat_lt (length image) (h.offset + h.size))
      (le-ltb (length image) (h.offset + h.size) inside)

  raw_opened : (opened_section image h).raw ≡ range
  unfolding opened_section home_bytes home_of
  raw_opened =
      ap (λ (b : Bool). if b then [] else take (home_len h) (drop h.offset image)) not_out
      ∙ ap (λ (n : ℕ). take n (drop h.offset image)) long

  pub raw_is : (section_at o s).raw ≡ range
  raw_is = ap (λ (c : Section). c.raw) here ∙ raw_opened

  raw_long : length (section_at o s).raw ≡ h.size
  raw_long =
      ap (λ (l : List ℕ). length l) raw_is
      ∙ length-take-le h.size (drop h.offset image)
      (omega (arith, length-drop h.offset image, inside))

  pub is_inside : (section_at o s).home.out ≡ false
  is_inside = ap (λ (c : Section). c.home.out) here ∙ not_out

  piece_is : piece_at o s 0 ≡ home_piece
  unfolding piece_at opened_section
  piece_is = ap (λ (c : Section). slice_index_or c.pieces 0 home_piece) here

  pub is_clean : (piece_at o s 0).own ≡ None
  is_clean = ap (λ (p : Piece). p.own) piece_is

  alone : piece_count o s ≡ 1
  unfolding piece_count opened_section
  alone = ap (λ (c : Section). length c.pieces) here

  home_kind : (section_at o s).home.kind ≡ kind
  unfolding opened_section home_of
  home_kind = ap (λ (c : Section). c.home.kind) here ∙ of_kind

  kind_is : kind_at o s 0 ≡ kind
  unfolding kind_at
  kind_is =
      ap (λ (own : Option Items). elim own [
        | None ↦ (section_at o s).home.kind
        | Some items ↦ items_kind items
      ]) is_clean
      ∙ home_kind

  -- it is due as many bytes
  pub due_is : home_due o [] s ≡ h.size
  unfolding home_due opened_section home_of
  due_is =
      ap (λ (b : Bool). if b || (section_at o s).home.out then 0 else (section_at o s).home.len)
      (nothing_loaded s)
      ∙ ap (λ (b : Bool). if b then 0 else (section_at o s).home.len) is_inside
      ∙ ap (λ (c : Section). c.home.len) here
      ∙ long

  -- strings are those that begin in its bytes
  pub strings_begun : kind ≡ kinds.Bytes → h.stype ≡ SHT_STRTAB → (offset : ℕ)
      → readable (string_answer o s offset) ≡ string_front (drop offset range)
  unfolding opened_section
  strings_begun bytes strings offset =
      strings_are o s (record {
        there = is_there;
        of_strings = ap (λ (c : Section). c.header.stype) here ∙ strings;
        inside = is_inside;
        alone = alone;
        of_bytes = kind_is ∙ bytes;
      }) is_clean offset
      ∙ ap (λ (l : List ℕ). string_front (drop offset l)) raw_is

  -- ---- Its items, where it has whole ones

  module _ (whole : IsTrue (is_whole kind f.ehdr.class h.size)) where
    made : is_some (decoded kind f.ehdr.class f.ehdr.order (section_at o s).raw) ≡ true
    made =
        whole_is kind f.ehdr.class f.ehdr.order (section_at o s).raw
        ∙ ap (is_whole kind f.ehdr.class) raw_long ∙ whole

    content_by : (m : Option Items) → is_some m ≡ true
        → err_of (elim m [ None ↦ Err (Ragged s) | Some items ↦ Ok items ]) ≡ None
    content_by None is = cc
    content_by (Some items) is = refl

    abbrev content_of : Bool → Kind → Result Items ElfError
    content_of out k =
        if out then Err (OutOfFile s)
        else (elim (decoded k f.ehdr.class f.ehdr.order (section_at o s).raw) [
          | None ↦ Err (Ragged s)
          | Some items ↦ Ok items
        ])

    has_content : no_content o s 0 ≡ None
    unfolding no_content content begun
    has_content =
        ap (λ (own : Option Items). elim own [
          | None ↦ err_of (content o s)
          | Some items ↦ None
        ]) is_clean
        ∙ ap (λ (b : Bool). err_of (content_of b (section_at o s).home.kind)) is_inside
        ∙ ap (λ (k : Kind). err_of (content_of false k)) home_kind
        ∙ (content_by (decoded kind f.ehdr.class f.ehdr.order (section_at o s).raw) made)

    has_data : no_data o s 0 ≡ None
    has_data = ap (λ (n : ℕ). refused_if (nat_le n 0) (NoData 0 n)) alone

    same : (k : Kind) → same_kind k k ≡ true
    same kinds.Empty = refl
    same kinds.Bytes = refl
    same kinds.Half = refl
    same kinds.Word = refl
    same kinds.Addr = refl
    same kinds.Sym = refl
    same kinds.Rel = refl
    same kinds.Rela = refl
    same kinds.Dyn = refl

    right_kind : wrong_kind o kind s 0 ≡ None
    right_kind =
        ap (λ (k : Kind). refused_if (not (same_kind k kind)) (WrongKind k)) kind_is
        ∙ ap (λ (b : Bool). refused_if (not b) (WrongKind kind)) (same kind)

    pub lent_begun : lend_refusal o kind s 0 ≡ None
    unfolding lend_refusal
    lent_begun =
        ap (λ (r : Option ElfError). first_refusal
        (r ∷ no_data o s 0 ∷ wrong_kind o kind s 0 ∷ no_content o s 0 ∷ [])) is_there
        ∙ ap (λ (r : Option ElfError). first_refusal
        (r ∷ wrong_kind o kind s 0 ∷ no_content o s 0 ∷ [])) has_data
        ∙ ap (λ (r : Option ElfError). first_refusal (r ∷ no_content o s 0 ∷ [])) right_kind
        ∙ ap (λ (r : Option ElfError). first_refusal (r ∷ [])) has_content

    pub items_begun : items_at o s 0 ≡ items_of_bytes kind f.ehdr.class f.ehdr.order range
    unfolding begun
    items_begun =
        clean_items o s kind lent_begun is_clean
        ∙ ap (λ (l : List ℕ). items_of_bytes kind f.ehdr.class f.ehdr.order l) raw_is

-- ---- A plain table

both : (a b : Bool) → (a && b) ≡ true → (a ≡ true) × (b ≡ true)
both true b is = (refl, is)
both false b is = cc

-- sections of these types occupy the file
abbrev held : ℕ → Bool
held t = not (t == SHT_NULL || t == SHT_NOBITS)

-- the kind by the type and the flag
abbrev kind_by : ℕ → ℕ → Bool → Kind
kind_by entsize t compressed =
    if t == SHT_NULL || t == SHT_NOBITS then kinds.Empty
    else (if compressed then kinds.Bytes else kind_in (kinds_of_types entsize) t)

strings_kind : (h : Shdr) → h.stype ≡ SHT_STRTAB → section_kind h ≡ kinds.Bytes
unfolding section_kind kind_of_type
strings_kind h is =
    ap (λ (t : ℕ). kind_by h.entsize t (is_compressed h.flags)) is
    ∙ by_flag (is_compressed h.flags)
  where
    by_flag : (b : Bool) → kind_by h.entsize SHT_STRTAB b ≡ kinds.Bytes
    by_flag true = refl
    by_flag false = refl

symbols_kind : (h : Shdr) → h.stype ≡ SHT_SYMTAB → is_compressed h.flags ≡ false
    → section_kind h ≡ kinds.Sym
unfolding section_kind kind_of_type
symbols_kind h is plain =
    ap (λ (t : ℕ). kind_by h.entsize t (is_compressed h.flags)) is
    ∙ ap (kind_by h.entsize SHT_SYMTAB) plain

pub sym_items_counted : (items : Items) → items_kind items ≡ kinds.Sym
    → length (syms_of items) ≡ count_of items
sym_items_counted (items.Sym l) is = refl
sym_items_counted items is = cc

not_false : (b : Bool) → not b ≡ true → b ≡ false
not_false true is = cc
not_false false is = refl

-- two numbers that differ stand in their list once
abbrev joined : ℕ → ℕ → Bool → List ℕ
joined a b t = a ∷ (if not (t || false) then b ∷ [] else [])

joined_both : (a b : ℕ) (t : Bool) → t ≡ false → joined a b t ≡ a ∷ b ∷ []
joined_both a b true is = cc
joined_both a b false is = refl

once_two : (a b : ℕ) → (a == b) ≡ false → Once (a ∷ b ∷ [])
unfolding with_others
once_two a b other =
    subst Once (joined_both a b (a == b) other)
    (once_others (a ∷ []) (b ∷ []) (once_one a) (once_one b))

module _ (f : Front) (image : List ℕ) (t : PlainTable) (plain : IsPlain f (length image) t)
    (first : position is_symbols f.shdrs ≡ Some t.section) where
  tests : is_symbols t.symbols ≡ true
  tests =
      ap is_symbols (sym (get_or_from_slice_get f.shdrs t.section t.symbols t.symbols plain.there))
      ∙ (position-Some is_symbols f.shdrs t.section t.symbols first).1

  parts : (t.symbols.stype == SHT_SYMTAB ≡ true) × (not (is_compressed t.symbols.flags) ≡ true)
  parts = both (t.symbols.stype == SHT_SYMTAB) (not (is_compressed t.symbols.flags)) tests

  of_symbols : t.symbols.stype ≡ SHT_SYMTAB
  of_symbols = eqb-true t.symbols.stype SHT_SYMTAB parts.0

  kind_of_symbols : section_kind t.symbols ≡ kinds.Sym
  kind_of_symbols =
      symbols_kind t.symbols of_symbols (not_false (is_compressed t.symbols.flags) parts.1)

  symbols_held : occupies_file t.symbols ≡ true
  symbols_held = ap held of_symbols

  names_held : occupies_file t.names ≡ true
  names_held = ap held plain.strings

  -- its symbols can be told, and are those of the first range
  pub plain_lent : lend_refusal (begun f image) kinds.Sym t.section 0 ≡ None
  plain_lent = lent_begun f image t.section t.symbols plain.there kinds.Sym kind_of_symbols
      symbols_held plain.symbols.inside plain.symbols.whole

  pub plain_items : items_at (begun f image) t.section 0
      ≡ items_of_bytes kinds.Sym f.ehdr.class f.ehdr.order
      (take t.symbols.size (drop t.symbols.offset image))
  plain_items = items_begun f image t.section t.symbols plain.there kinds.Sym kind_of_symbols
      symbols_held plain.symbols.inside plain.symbols.whole

  -- so many of them
  abbrev first_range : List ℕ
  first_range = take t.symbols.size (drop t.symbols.offset image)

  range_long : length first_range ≡ t.symbols.size
  range_long = length-take-le t.symbols.size (drop t.symbols.offset image)
      (omega (arith, length-drop t.symbols.offset image, plain.symbols.inside))

  range_whole : is_some (decoded kinds.Sym f.ehdr.class f.ehdr.order first_range) ≡ true
  range_whole =
      whole_is kinds.Sym f.ehdr.class f.ehdr.order first_range
      ∙ ap (is_whole kinds.Sym f.ehdr.class) range_long ∙ plain.symbols.whole

  by_made : (m : Option Items) → decoded kinds.Sym f.ehdr.class f.ehdr.order first_range ≡ m
      → is_some m ≡ true
      → length (syms_of (or_empty m)) ≡ length first_range / item_size kinds.Sym f.ehdr.class
  by_made None is some = cc
  by_made (Some items) is some =
      sym_items_counted items (decoded_kind kinds.Sym f.ehdr.class f.ehdr.order first_range items is)
      ∙ items_count kinds.Sym f.ehdr.class f.ehdr.order first_range items is

  pub plain_counted : length (syms_of (items_at (begun f image) t.section 0))
      ≡ t.symbols.size / item_size kinds.Sym f.ehdr.class
  plain_counted =
      ap (λ (l : Items). length (syms_of l)) plain_items
      ∙ by_made (decoded kinds.Sym f.ehdr.class f.ehdr.order first_range) refl range_whole
      ∙ ap (λ (n : ℕ). n / item_size kinds.Sym f.ehdr.class) range_long

  -- it has no extended indexes
  pub plain_unindexed : shndx_table (begun f image) t.section ≡ None
  plain_unindexed = none_indexed f image t.section plain.unindexed

  pub plain_link : (section_at (begun f image) t.section).header.link ≡ t.symbols.link
  unfolding opened_section
  plain_link = ap (λ (c : Section). c.header.link)
      (section_is f image t.section t.symbols plain.there)

  -- and its strings begin in the second
  pub plain_strings : (offset : ℕ)
      → readable (string_answer (begun f image) t.symbols.link offset)
      ≡ string_front (drop offset (take t.names.size (drop t.names.offset image)))
  plain_strings offset =
      strings_begun f image t.symbols.link t.names plain.linked kinds.Bytes
      (strings_kind t.names plain.strings) names_held plain.inside refl plain.strings offset

  -- ---- What the two ranges are of all homes

  apart : t.section ≢ t.symbols.link
  apart same =
      let at : Some t.symbols ≡ Some t.names =
      sym plain.there ∙ ap (slice_get f.shdrs) same ∙ plain.linked in
      let one : t.symbols ≡ t.names = cc in
      let types : SHT_SYMTAB ≡ SHT_STRTAB =
      sym of_symbols ∙ ap (λ (h : Shdr). h.stype) one ∙ plain.strings in
      absurd (omega (arith, types))

  abbrev due : ℕ → ℕ
  due = home_due (begun f image) []

  in_all : (s : ℕ) (h : Shdr) → slice_get f.shdrs s ≡ Some h
      → has (all_sections (begun f image)) s ≡ true
  in_all s h there =
      let low = slice_get_within (begun f image).sections s (opened_section image h)
      (sections_got f image s h there) in
      in_range 0 (length (begun f image).sections) s (omega arith) (omega (arith, low))

  in_both : (x : ℕ) → has (t.section ∷ t.symbols.link ∷ []) x ≡ true
      → has (all_sections (begun f image)) x ≡ true
  in_both x is = by_tests (t.section == x) (t.symbols.link == x) refl refl is
    where
      by_tests : (a b : Bool) → (t.section == x) ≡ a → (t.symbols.link == x) ≡ b
          → (a || (b || false)) ≡ true → has (all_sections (begun f image)) x ≡ true
      by_tests true b one other is =
          subst (λ (y : ℕ). has (all_sections (begun f image)) y ≡ true)
          (eqb-true t.section x one) (in_all t.section t.symbols plain.there)
      by_tests false true one other is =
          subst (λ (y : ℕ). has (all_sections (begun f image)) y ≡ true)
          (eqb-true t.symbols.link x other) (in_all t.symbols.link t.names plain.linked)
      by_tests false false one other is = cc

  pub plain_within : t.symbols.size + t.names.size ≤ homes_total (begun f image)
  unfolding homes_due
  plain_within =
      let one = due_is f image t.section t.symbols plain.there kinds.Sym kind_of_symbols
      symbols_held plain.symbols.inside in
      let other = due_is f image t.symbols.link t.names plain.linked kinds.Bytes
      (strings_kind t.names plain.strings) names_held plain.inside in
      let within = sum_within (t.section ∷ t.symbols.link ∷ []) (all_sections (begun f image)) due
      (once_two t.section t.symbols.link (ne_eqb t.section t.symbols.link apart)) in_both in
      omega (
        arith,
        one,
        other,
        within,
        sum_by-cons due t.section (t.symbols.link ∷ []),
        sum_by-cons due t.symbols.link [],
        none due,
      )
    where
      none : (g : ℕ → ℕ) → sum_by g [] ≡ 0
      none g = refl

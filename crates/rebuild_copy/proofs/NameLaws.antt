-- The names of sections, by the bytes of their table.
use Rattle.std.proofs.Common.{◌≡◌, ◌==◌, ◌&&◌, ◌-◌, ◌+◌, ◌^◌, ◌<◌, ◌≤◌, ℕ, Bool, true, false, not, List, [], ◌∷◌, ◌++◌, length, map, take, drop, Option, Some, None, is_none, Result, if◌then◌else◌, refl, sym, ap, ◌∙◌, arith, ⊎_elim}
use Rattle.std.specs.Prelude.{filter, min, nat_le, nat_lt, slice_get, take_while}
use Rattle.std.specs.List.{list_all}
use Rattle.std.proofs.lemmas.Bool.{and_parts, and_right, cases_lt, eq-eqb, eqb-true, le-leb, le-ltb, lt-leb, lt-ltb, ltb-true, ltb-false, not-true}
use Rattle.std.proofs.lemmas.List.{append-nil, drop_all}
use Rattle.elf_types.specs.Answers.{refused_if, first_refusal, answered}
use Rattle.elf_types.specs.declared.constants.TheConstants.{SHT_STRTAB}
use Rattle.elf_types.specs.declared.records.Class.{Class}
use Rattle.elf_types.specs.declared.records.Order.{Order}
use Rattle.elf_types.specs.declared.records.Ehdr.{Ehdr}
use Rattle.elf_types.specs.declared.records.Kind.TheVariants as kinds
use Rattle.elf_types.specs.declared.records.Shdr.{Shdr}
use Rattle.elf_types.specs.declared.errors.ElfError.{ElfError}
use Rattle.elf_types.specs.declared.errors.ElfError.TheVariants.{NoSection, NotStrings, OutOfFile, NoString, Unended}
use Rattle.elf_xlate.specs.declared.content.Items.{Items}
use Rattle.elf_xlate.specs.Translation.{encoded, items_kind}
use Rattle.elf_layout.specs.Layout.{rounded_up}
use Rattle.strtab_build.specs.Table.{string_at}
use Rattle.elf_object.specs.Blocks.{Block, block_covers, block_end, stacked}
use Rattle.elf_object.specs.Object.{Object, Section, Piece, header_of, section_at, home_is_clean}
use Rattle.elf_object.specs.Answers.{same_kind}
use Rattle.elf_object.specs.Joined.{piece_bytes, aligned_pieces, section_end}
use Rattle.elf_object.specs.Steps.{own_piece}
use Rattle.elf_object.specs.Strings.{holds_strings, kind_of_piece, has_nul, bytes_from, readable, section_name}
use Rattle.elf_object.proofs.StepLaws.{same_kind-same}
use Rattle.rebuild_edits.specs.gelf_view.Records.{string_front}
use Rattle.law_rebuild.proofs.copy.RenewedNames.{strings_fill}
use Rattle.rebuild_plan.specs.declared.arranged.Arranged.{Arranged}
use Rattle.rebuild_edits.proofs.edits.FlagLaws.{over_in, string_in_section, string_as}
use Rattle.rebuild_copy.specs.Rows.{gathered_header, gathered_range, Origin, IsContents, has_strings, HasNamesIn}
use Rattle.rebuild_copy.proofs.RowLaws.{row_inside, row_pieces, shnum_is}

-- ---- A string, by what is seen of its section

abbrev seen_by : Bool → Bool → Bool → ℕ → ℕ → ℕ → ℕ → Option Block → Result (List ℕ) ElfError
seen_by past strings lost count k offset end over =
    answered
    (first_refusal
    (first_refusal
    (refused_if past (NoSection k count)
    ∷ refused_if (not strings) (NotStrings k)
    ∷ refused_if lost (OutOfFile k)
    ∷ refused_if (is_none over) (NoString offset (min end (2 ^ 64 - 1)))
    ∷ [])
    ∷ elim over [
      | None ↦ None
      | Some b ↦ refused_if (not (has_nul (bytes_from b offset))) (Unended offset)
    ]
    ∷ []))
    (elim over [ None ↦ [] | Some b ↦ string_at b.bytes (offset - b.at) ])

abbrev whole_block : List ℕ → Block
whole_block bytes = record { at = 0; bytes = bytes }

no_front : string_front [] ≡ None
unfolding string_front
no_front = refl

module _ (count k offset end : ℕ) (bytes : List ℕ) where
  seen_some : readable (seen_by false true false count k offset end (Some (whole_block bytes)))
      ≡ string_front (drop offset bytes)
  unfolding string_front string_at
  seen_some =
      let start : offset - 0 ≡ offset = omega arith in
      ap (λ (n : ℕ). readable (answered
      (first_refusal (None ∷ refused_if (not (has_nul (drop n bytes))) (Unended offset) ∷ []))
      (take_while (λ b. not (b == 0)) (drop n bytes)))) start
      ∙ by_nul (has_nul (drop offset bytes)) (take_while (λ b. not (b == 0)) (drop offset bytes))
    where
      by_nul : (b : Bool) (front : List ℕ)
          → readable (answered
          (first_refusal (None ∷ refused_if (not b) (Unended offset) ∷ [])) front)
          ≡ (if b then Some front else None)
      by_nul true front = refl
      by_nul false front = refl

  seen_none : length bytes ≤ offset
      → readable (seen_by false true false count k offset end None)
      ≡ string_front (drop offset bytes)
  seen_none past = sym (ap string_front (drop_all offset bytes past) ∙ no_front)

-- ---- A section with one piece

over_some : (bytes : List ℕ) (offset : ℕ) → offset < length bytes
    → slice_get (filter (λ b. block_covers b offset) (stacked 0 ((1, bytes) ∷ []))) 0
    ≡ Some (whole_block bytes)
unfolding stacked rounded_up block_covers block_end
over_some bytes offset within =
    let from : nat_le 0 offset ≡ true = le-leb 0 offset (omega arith) in
    let upto : nat_lt offset (0 + length bytes) ≡ true =
    lt-ltb offset (0 + length bytes) (omega (arith, within)) in
    rw (from, upto) refl

over_none : (bytes : List ℕ) (offset : ℕ) → length bytes ≤ offset
    → slice_get (filter (λ b. block_covers b offset) (stacked 0 ((1, bytes) ∷ []))) 0 ≡ None
unfolding stacked rounded_up block_covers block_end
over_none bytes offset past =
    let from : nat_le 0 offset ≡ true = le-leb 0 offset (omega arith) in
    let upto : nat_lt offset (0 + length bytes) ≡ false =
    le-ltb offset (0 + length bytes) (omega (arith, past)) in
    rw (from, upto) refl

module _ (class : Class) (order : Order) (c : Section) (own : Items)
    (pieces : c.pieces ≡ own_piece own 1 ∷ []) where
  pub one_aligned : aligned_pieces class order c ≡ (1, encoded class order own) ∷ []
  unfolding aligned_pieces piece_bytes
  one_aligned =
      ap (λ (ps : List Piece). map (λ p. (
        p.align,
        elim (p.own) [ None ↦ c.raw | Some l ↦ encoded class order l ],
      )) ps) pieces

  module _ (typed : c.header.stype ≡ SHT_STRTAB) (kind : items_kind own ≡ kinds.Bytes)
      (inside : c.home.out ≡ false) where
    holds : holds_strings c ≡ true
    unfolding holds_strings
    holds =
        ap (λ (ps : List Piece). c.header.stype == SHT_STRTAB
        && list_all (λ p. same_kind (kind_of_piece c p) kinds.Bytes) ps) pieces
        ∙ ap (λ (b : Bool). b && (same_kind (items_kind own) kinds.Bytes && true))
        (eq-eqb c.header.stype SHT_STRTAB typed)
        ∙ ap (λ (b : Bool). b && true) (same_kind-same (items_kind own) kinds.Bytes kind)

    abbrev text : List ℕ
    text = encoded class order own

    seen_as : (count k offset : ℕ) (over : Option Block) → k < count
        → slice_get (filter (λ b. block_covers b offset) (stacked 0 ((1, text) ∷ []))) 0 ≡ over
        → string_in_section count class order k offset c
        ≡ seen_by false true false count k offset (section_end class order c) over
    seen_as count k offset over below is =
        let end = section_end class order c in
        ap (λ (b : Bool). seen_by b (holds_strings c) (home_is_clean c && c.home.out) count k
        offset end (over_in class order c offset)) (lt-leb count k below)
        ∙ ap (λ (b : Bool). seen_by false b (home_is_clean c && c.home.out) count k offset end
        (over_in class order c offset)) holds
        ∙ ap (λ (b : Bool). seen_by false true b count k offset end
        (over_in class order c offset)) (and_right (home_is_clean c) c.home.out inside)
        ∙ ap (λ (x : Option Block). seen_by false true false count k offset end x)
        (ap (λ (l : List (ℕ × List ℕ)).
        slice_get (filter (λ b. block_covers b offset) (stacked 0 l)) 0) one_aligned ∙ is)

    pub string_seen : (count k offset : ℕ) → k < count
        → readable (string_in_section count class order k offset c)
        ≡ string_front (drop offset text)
    string_seen count k offset below =
        let end = section_end class order c in
        ⊎_elim
        (λ within.
        ap readable (seen_as count k offset (Some (whole_block text)) below
        (over_some text offset within))
        ∙ seen_some count k offset end text)
        (λ past.
        ap readable (seen_as count k offset None below (over_none text offset past))
        ∙ seen_none count k offset end text past)
        (cases_lt offset (length text))

-- ---- The names of an object

-- by the string index and by what is answered
abbrev named_by_index : ℕ → Option (List ℕ) → Option (List ℕ)
named_by_index index found = if index == 0 then None else found

name_by : (p : Object) (s : ℕ)
    → section_name p s
    ≡ named_by_index p.header.shstrndx (readable (string_in_section (length p.sections)
    p.header.class p.header.order p.header.shstrndx (section_at p s).header.name
    (section_at p p.header.shstrndx)))
unfolding section_name
name_by p s =
    ap (λ (r : Result (List ℕ) ElfError). named_by_index p.header.shstrndx (readable r))
    (string_as p p.header.shstrndx (section_at p s).header.name)

past_none : (strings lost : Bool) (count k offset end : ℕ) (over : Option Block)
    → readable (seen_by true strings lost count k offset end over) ≡ None
past_none strings lost count k offset end over = refl

untyped_none : (lost : Bool) (count k offset end : ℕ) (over : Option Block)
    → readable (seen_by false false lost count k offset end over) ≡ None
untyped_none lost count k offset end over = refl

not_strings : (c : Section) → (c.header.stype == SHT_STRTAB) ≡ false → holds_strings c ≡ false
unfolding holds_strings
not_strings c other =
    ap (λ (b : Bool). b && list_all (λ p. same_kind (kind_of_piece c p) kinds.Bytes) c.pieces)
    other

-- by the three tests of the table
module _ (p : Object) (s : ℕ) where
  abbrev index : ℕ
  index = p.header.shstrndx

  abbrev table : Section
  table = section_at p index

  abbrev place : ℕ
  place = (section_at p s).header.name

  abbrev found : Bool → Bool → Result (List ℕ) ElfError
  found past strings =
      seen_by past strings (home_is_clean table && table.home.out) (length p.sections) index place
      (section_end p.header.class p.header.order table)
      (over_in p.header.class p.header.order table place)

  unfound : (past strings : Bool) → nat_le (length p.sections) index ≡ past
      → holds_strings table ≡ strings → readable (found past strings) ≡ None
      → section_name p s ≡ None
  unfound past strings at holds_is none =
      name_by p s
      ∙ ap (λ (r : Result (List ℕ) ElfError). named_by_index index (readable r))
      (ap (λ (b : Bool). found b (holds_strings table)) at
      ∙ ap (λ (b : Bool). found past b) holds_is)
      ∙ ap (named_by_index index) none
      ∙ none_either (index == 0)
    where
      none_either : (b : Bool) → ◌≡◌ {A = Option (List ℕ)} (if b then None else None) None
      none_either true = refl
      none_either false = refl

  pub no_name : (not (index == 0) && nat_lt index (length p.sections)
      && table.header.stype == SHT_STRTAB) ≡ false → section_name p s ≡ None
  no_name fails = by_zero (index == 0) refl fails
    where
      typed_not : nat_lt index (length p.sections) ≡ true
          → (table.header.stype == SHT_STRTAB) ≡ false → section_name p s ≡ None
      typed_not below other =
          unfound false false
          (lt-leb (length p.sections) index (ltb-true index (length p.sections) below))
          (not_strings table other)
          (untyped_none (home_is_clean table && table.home.out) (length p.sections) index place
          (section_end p.header.class p.header.order table)
          (over_in p.header.class p.header.order table place))

      by_within : (b : Bool) → nat_lt index (length p.sections) ≡ b
          → (b && table.header.stype == SHT_STRTAB) ≡ false → section_name p s ≡ None
      by_within true at rest = typed_not at rest
      by_within false at rest =
          unfound true (holds_strings table)
          (le-leb (length p.sections) index (ltb-false index (length p.sections) at)) refl
          (past_none (holds_strings table) (home_is_clean table && table.home.out)
          (length p.sections) index place (section_end p.header.class p.header.order table)
          (over_in p.header.class p.header.order table place))

      by_zero : (b : Bool) → (index == 0) ≡ b
          → (not b && nat_lt index (length p.sections) && table.header.stype == SHT_STRTAB)
          ≡ false → section_name p s ≡ None
      by_zero true at rest =
          name_by p s
          ∙ ap (λ (b : Bool). if b then None else readable (string_in_section
          (length p.sections) p.header.class p.header.order index place table)) at
      by_zero false at rest = by_within (nat_lt index (length p.sections)) refl rest

  pub has_name : (own : Items) → (index == 0) ≡ false → index < length p.sections
      → table.header.stype ≡ SHT_STRTAB → table.pieces ≡ own_piece own 1 ∷ []
      → items_kind own ≡ kinds.Bytes → table.home.out ≡ false
      → section_name p s
      ≡ string_front (drop place (encoded p.header.class p.header.order own))
  has_name own some below typed pieces kind inside =
      name_by p s
      ∙ ap (λ (b : Bool). if b then None else readable (string_in_section
      (length p.sections) p.header.class p.header.order index place table)) some
      ∙ string_seen p.header.class p.header.order table own pieces typed kind inside
      (length p.sections) index place below

-- ---- By what was gathered

module _ (o : Origin) (p : Object) (x : Arranged) (is : IsContents o p x) where
  pub index_is : x.listed.header.shstrndx ≡ p.header.shstrndx
  unfolding header_of
  index_is = ap (λ (h : Ehdr). h.shstrndx) is.listed.header

  pub count_is : x.listed.header.shnum ≡ length p.sections
  count_is = shnum_is o p x is.listed

  place_is : (s : ℕ) → s < length p.sections
      → (gathered_header x s).name ≡ (section_at p s).header.name
  place_is s there = ap (λ (h : Shdr). h.name) (is.listed.rows s there).header

  -- the three tests, of the object
  tests_are : (b : Bool) → has_strings x ≡ b
      → (not (p.header.shstrndx == 0) && nat_lt p.header.shstrndx (length p.sections)
      && (gathered_header x p.header.shstrndx).stype == SHT_STRTAB) ≡ b
  tests_are b told =
      sym (ap (λ (i : ℕ).
      not (i == 0) && nat_lt i x.listed.header.shnum && (gathered_header x i).stype == SHT_STRTAB)
      index_is
      ∙ ap (λ (n : ℕ). not (p.header.shstrndx == 0) && nat_lt p.header.shstrndx n
      && (gathered_header x p.header.shstrndx).stype == SHT_STRTAB) count_is)
      ∙ told

-- no section has a name
pub no_names : (x : Arranged) → has_strings x ≡ false → HasNamesIn x []
no_names x fails o p is s there =
    no_name p s
    (by_within (nat_lt p.header.shstrndx (length p.sections)) refl
    (tests_are o p x is false fails))
    ∙ sym (ap string_front (no_drop (gathered_header x s).name) ∙ no_front)
  where
    no_drop : (n : ℕ) → ◌≡◌ {A = List ℕ} (drop n []) []
    no_drop n = drop_all n [] (omega arith)

    by_within : (b : Bool) → nat_lt p.header.shstrndx (length p.sections) ≡ b
        → (not (p.header.shstrndx == 0) && b
        && (gathered_header x p.header.shstrndx).stype == SHT_STRTAB) ≡ false
        → (not (p.header.shstrndx == 0) && nat_lt p.header.shstrndx (length p.sections)
        && (section_at p p.header.shstrndx).header.stype == SHT_STRTAB) ≡ false
    by_within true at rest =
        let below = ltb-true p.header.shstrndx (length p.sections) at in
        ap (λ (b : Bool). not (p.header.shstrndx == 0) && b
        && (section_at p p.header.shstrndx).header.stype == SHT_STRTAB) at
        ∙ sym (ap (λ (h : Shdr). not (p.header.shstrndx == 0) && true
        && h.stype == SHT_STRTAB) (is.listed.rows p.header.shstrndx below).header)
        ∙ rest
    by_within false at rest =
        ap (λ (b : Bool). not (p.header.shstrndx == 0) && b
        && (section_at p p.header.shstrndx).header.stype == SHT_STRTAB) at
        ∙ none (not (p.header.shstrndx == 0))
      where
        none : (b : Bool) → (b && false && ((section_at p p.header.shstrndx).header.stype
            == SHT_STRTAB)) ≡ false
        none true = refl
        none false = refl

-- each has the one in the table that is held
pub held_names : (x : Arranged) (bytes : List ℕ) → has_strings x ≡ true
    → bytes ≡ take (gathered_range x x.listed.header.shstrndx).len
    (drop (gathered_range x x.listed.header.shstrndx).at x.held)
    → HasNamesIn x bytes
held_names x bytes holds_is at o p is s there =
    let k = p.header.shstrndx in
    let tests = tests_are o p x is true holds_is in
    let two = and_parts (not (k == 0) && nat_lt k (length p.sections))
    ((gathered_header x k).stype == SHT_STRTAB) tests in
    let one = and_parts (not (k == 0)) (nat_lt k (length p.sections)) two.0 in
    let below = ltb-true k (length p.sections) one.1 in
    let row = is.listed.rows k below in
    let typed : (section_at p k).header.stype ≡ SHT_STRTAB =
    ap (λ (h : Shdr). h.stype) (sym row.header)
    ∙ eqb-true (gathered_header x k).stype SHT_STRTAB two.1 in
    let filled = strings_fill (section_at p k).header typed in
    let listed : (gathered_header x x.listed.header.shstrndx).stype ≡ SHT_STRTAB =
    ap (λ (i : ℕ). (gathered_header x i).stype) (index_is o p x is)
    ∙ eqb-true (gathered_header x k).stype SHT_STRTAB two.1 in
    let held : (gathered_range x k).held ≡ true =
    ap (λ (i : ℕ). (gathered_range x i).held) (sym (index_is o p x is)) ∙ is.table listed in
    let text : bytes ≡ encoded p.header.class p.header.order row.own =
    at
    ∙ ap (λ (i : ℕ). take (gathered_range x i).len (drop (gathered_range x i).at x.held))
    (index_is o p x is)
    ∙ ap (λ (l : List ℕ). take (gathered_range x k).len (drop (gathered_range x k).at l))
    (sym (append-nil x.held))
    ∙ sym (ap (λ (b : Bool). take (gathered_range x k).len (drop (gathered_range x k).at
    (if b then x.held ++ [] else o.bases.each k))) held)
    ∙ row.range_is filled [] in
    has_name p s row.own (not-true (k == 0) one.0) below typed
    (row_pieces row ∙ ap (λ (b : Bool). if b then own_piece row.own 1 ∷ [] else []) filled)
    (row.strings typed) (row_inside row)
    ∙ ap (λ (n : ℕ). string_front (drop n (encoded p.header.class p.header.order row.own)))
    (sym (place_is o p x is s there))
    ∙ ap (λ (l : List ℕ). string_front (drop (gathered_header x s).name l)) (sym text)

-- Strings of a section of type SHT_STRTAB that has one piece.
use Rattle.std.proofs.Common.{◌≡◌, ℕ, ◌+◌, ◌-◌, ◌<◌, Bool, true, false, not, ◌&&◌, List, [], ◌∷◌, length, drop, Option, Some, None, Result, Ok, refl, sym, ap, ◌∙◌, arith}
use Rattle.std.specs.Prelude.{filter, nat_le, nat_lt, slice_get, is_none, min, ◌^◌, if◌then◌else◌, ◌==◌, ◌||◌, map}
use Rattle.std.specs.List.{list_all}
use Rattle.std.proofs.lemmas.Bool.{eq-eqb, eqb-true, le-leb, lt-leb, lt-ltb, and_left, and_right}
use Rattle.elf_types.specs.Answers.{refused_if, first_refusal, answered}
use Rattle.elf_types.specs.Kinds.{section_kind, is_compressed, kind_of_type}
use Rattle.elf_types.specs.Lists.{AreBytes}
use Rattle.elf_types.specs.declared.records.Kind.TheVariants as kinds
use Rattle.elf_types.specs.declared.records.Shdr.{Shdr}
use Rattle.elf_types.specs.declared.errors.ElfError.{ElfError}
use Rattle.elf_types.specs.declared.errors.ElfError.TheVariants.{NoSection, NotStrings, OutOfFile, NoString, Unended}
use Rattle.elf_types.specs.declared.constants.TheConstants.{SHT_NULL, SHT_NOBITS, SHT_STRTAB}
use Rattle.law_object.specs.elf_xlate.declared.content.Items.TheVariants as items
use Rattle.law_object.specs.elf_xlate.Translation.{items_kind}
use Rattle.elf_layout.specs.Layout.{rounded_up}
use Rattle.strtab_build.specs.Table.{string_at}
use Rattle.law_object.specs.elf_object.Blocks.{Block, block_covers, block_end, stacked, last_end}
use Rattle.law_object.specs.elf_object.Object.{Object, Section, Piece, section_at, home_piece, home_is_clean}
use Rattle.law_object.specs.elf_object.Answers.{no_section, same_kind}
use Rattle.law_object.specs.elf_object.Joined.{piece_bytes, aligned_pieces, piece_blocks, pieces_end}
use Rattle.law_object.specs.elf_object.Steps.{own_piece}
use Rattle.law_object.specs.elf_object.Strings.{holds_strings, kind_of_piece, piece_over, has_nul, bytes_from, string_refusal_unread, string_refusal, string_answer}
use Rattle.law_object.proofs.elf_object.StepLaws.{same_kind-same}
use Rattle.law_object.specs.elf_object.Sections.{header_at}
use Rattle.law_rebuild.proofs.strip.MadeSections.{bytes_encoded}
use Rattle.law_rebuild.proofs.copy.SameItems.{IsOpenedAt}

-- ---- A string, by the section that it stands in

-- the first of the blocks that covers an offset
abbrev first_over : List Block → ℕ → Option Block
first_over blocks offset = slice_get (filter (λ b. block_covers b offset) blocks) 0

-- the answer, by the tests, the end of the pieces, and the piece over the offset
string_by : Option ElfError → Bool → Bool → ℕ → Option Block → ℕ → ℕ → Result (List ℕ) ElfError
string_by none strings lost end over s offset =
    answered
    (first_refusal
    (first_refusal
    (none
    ∷ refused_if (not strings) (NotStrings s)
    ∷ refused_if lost (OutOfFile s)
    ∷ refused_if (is_none over) (NoString offset (min end (2 ^ 64 - 1)))
    ∷ [])
    ∷ (elim over [
      | None ↦ None
      | Some b ↦ refused_if (not (has_nul (bytes_from b offset))) (Unended offset)
    ])
    ∷ []))
    (elim over [ None ↦ [] | Some b ↦ string_at b.bytes (offset - b.at) ])

-- whether the home of a section is looked at, and out of the file
abbrev is_lost : Section → Bool
is_lost c = home_is_clean c && c.home.out

string_is : (o : Object) (s offset : ℕ)
    → string_answer o s offset
    ≡ string_by (no_section o s) (holds_strings (section_at o s)) (is_lost (section_at o s))
    (last_end 0 (piece_blocks o s)) (first_over (piece_blocks o s) offset) s offset
unfolding string_by string_answer string_refusal string_refusal_unread piece_over pieces_end
string_is o s offset = refl

there_is : (o : Object) (s : ℕ) → s < length o.sections → no_section o s ≡ None
there_is o s below =
    ap (λ (b : Bool). refused_if b (NoSection s (length o.sections)))
    (lt-leb (length o.sections) s below)

-- ---- A section that was opened

-- a home piece is one block
pub blocks_are : (o : Object) (s : ℕ) → (section_at o s).pieces ≡ home_piece ∷ []
    → piece_blocks o s ≡ stacked 0 ((1, (section_at o s).raw) ∷ [])
unfolding piece_blocks aligned_pieces piece_bytes
blocks_are o s pieces =
    let form : Piece → ℕ × List ℕ = λ p.
    (p.align, piece_bytes o.header.class o.header.order (section_at o s).raw p) in
    ap (λ (ps : List Piece). stacked 0 (map form ps)) pieces

strings_kind : (h : Shdr) → h.stype ≡ SHT_STRTAB → section_kind h ≡ kinds.Bytes
unfolding section_kind kind_of_type
strings_kind h is =
    ap (λ (t : ℕ). if t == SHT_NULL || t == SHT_NOBITS then kinds.Empty
    else (if is_compressed h.flags then kinds.Bytes else kind_of_type t h.entsize)) is
    ∙ by_test (is_compressed h.flags)
  where
    by_test : (b : Bool)
        → (if b then kinds.Bytes else kind_of_type SHT_STRTAB h.entsize) ≡ kinds.Bytes
    by_test true = refl
    by_test false = refl

holds_by_type : (o : Object) (s : ℕ) → IsOpenedAt o s
    → holds_strings (section_at o s) ≡ ((header_at o s).stype == SHT_STRTAB)
unfolding holds_strings
holds_by_type o s at =
    ap (λ (ps : List Piece). (header_at o s).stype == SHT_STRTAB
    && list_all (λ p. same_kind (kind_of_piece (section_at o s) p) kinds.Bytes) ps) at.pieces
    ∙ by_type ((header_at o s).stype == SHT_STRTAB) refl
  where
    by_type : (b : Bool) → ((header_at o s).stype == SHT_STRTAB) ≡ b
        → (b && (same_kind (section_at o s).home.kind kinds.Bytes && true)) ≡ b
    by_type false e = refl
    by_type true e =
        ap (λ (t : Bool). t && true)
        (same_kind-same (section_at o s).home.kind kinds.Bytes
        (at.kind ∙ strings_kind (header_at o s) (eqb-true (header_at o s).stype SHT_STRTAB e)))

not_lost : (o : Object) (s : ℕ) → (section_at o s).home.out ≡ false
    → is_lost (section_at o s) ≡ false
not_lost o s inside = and_right (home_is_clean (section_at o s)) (section_at o s).home.out inside

-- two objects that were opened have the same string at an offset of a section with the same type
-- and the same bytes
pub record IsSameTable (a b : Object) (s : ℕ) : Type 0 where
  pub in_a : s < length a.sections
  pub in_b : s < length b.sections
  pub a_at : IsOpenedAt a s
  pub b_at : IsOpenedAt b s
  pub a_inside : (section_at a s).home.out ≡ false
  pub b_inside : (section_at b s).home.out ≡ false
  pub stype : (header_at a s).stype ≡ (header_at b s).stype
  pub raw : (section_at a s).raw ≡ (section_at b s).raw

pub same_string : (a b : Object) (s offset : ℕ) → IsSameTable a b s
    → string_answer a s offset ≡ string_answer b s offset
same_string a b s offset same =
    string_is a s offset
    ∙ ap (λ (r : Option ElfError). string_by r (holds_strings (section_at a s))
    (is_lost (section_at a s)) (last_end 0 (piece_blocks a s))
    (first_over (piece_blocks a s) offset) s offset)
    (there_is a s same.in_a ∙ sym (there_is b s same.in_b))
    ∙ ap (λ (t : Bool). string_by (no_section b s) t
    (is_lost (section_at a s)) (last_end 0 (piece_blocks a s))
    (first_over (piece_blocks a s) offset) s offset)
    (holds_by_type a s same.a_at
    ∙ ap (λ (t : ℕ). t == SHT_STRTAB) same.stype
    ∙ sym (holds_by_type b s same.b_at))
    ∙ ap (λ (t : Bool). string_by (no_section b s) (holds_strings (section_at b s)) t
    (last_end 0 (piece_blocks a s)) (first_over (piece_blocks a s) offset) s offset)
    (not_lost a s same.a_inside ∙ sym (not_lost b s same.b_inside))
    ∙ ap (λ (l : List Block). string_by (no_section b s) (holds_strings (section_at b s))
    (is_lost (section_at b s)) (last_end 0 l) (first_over l offset) s offset)
    (blocks_are a s same.a_at.pieces
    ∙ ap (λ (l : List ℕ). stacked 0 ((1, l) ∷ [])) same.raw
    ∙ sym (blocks_are b s same.b_at.pieces))
    ∙ sym (string_is b s offset)

-- ---- One piece

-- a string section has one piece, with these bytes, which is in the file
pub record IsStringSection (o : Object) (t : ℕ) (bytes : List ℕ) : Type 0 where
  pub below : t < length o.sections
  pub holds : holds_strings (section_at o t) ≡ true
  pub inside : (home_is_clean (section_at o t) && (section_at o t).home.out) ≡ false
  pub blocks : piece_blocks o t ≡ stacked 0 ((1, bytes) ∷ [])

-- that of an object that was opened
pub opened_strings : (o : Object) (t : ℕ) → t < length o.sections → IsOpenedAt o t
    → (section_at o t).home.out ≡ false → (header_at o t).stype ≡ SHT_STRTAB
    → IsStringSection o t (section_at o t).raw
opened_strings o t below at inside stype = record {
  below = below;
  holds = holds_by_type o t at ∙ eq-eqb (header_at o t).stype SHT_STRTAB stype;
  inside = not_lost o t inside;
  blocks = blocks_are o t at.pieces;
}

-- an own piece
own_holds : (o : Object) (t : ℕ) (bytes : List ℕ)
    → (section_at o t).pieces ≡ own_piece (items.Bytes bytes) 1 ∷ []
    → (header_at o t).stype ≡ SHT_STRTAB → holds_strings (section_at o t) ≡ true
unfolding holds_strings
own_holds o t bytes pieces stype =
    ap (λ (ps : List Piece). (header_at o t).stype == SHT_STRTAB
    && list_all (λ p. same_kind (kind_of_piece (section_at o t) p) kinds.Bytes) ps) pieces
    ∙ ap (λ (b : Bool). b && (same_kind (items_kind (items.Bytes bytes)) kinds.Bytes && true))
    (eq-eqb (header_at o t).stype SHT_STRTAB stype)
    ∙ ap (λ (b : Bool). b && true)
    (same_kind-same (items_kind (items.Bytes bytes)) kinds.Bytes refl)

own_clean : (o : Object) (t : ℕ) (bytes : List ℕ)
    → (section_at o t).pieces ≡ own_piece (items.Bytes bytes) 1 ∷ []
    → home_is_clean (section_at o t) ≡ false
unfolding home_is_clean
own_clean o t bytes pieces =
    ap (λ (ps : List Piece).
    let clean : Bool = elim (slice_get ps 0) [ None ↦ false | Some p ↦ is_none p.own ] in clean)
    pieces

own_blocks : (o : Object) (t : ℕ) (bytes : List ℕ)
    → (section_at o t).pieces ≡ own_piece (items.Bytes bytes) 1 ∷ [] → AreBytes bytes
    → piece_blocks o t ≡ stacked 0 ((1, bytes) ∷ [])
unfolding piece_blocks aligned_pieces piece_bytes
own_blocks o t bytes pieces are =
    let form : Piece → ℕ × List ℕ = λ p.
    (p.align, piece_bytes o.header.class o.header.order (section_at o t).raw p) in
    ap (λ (ps : List Piece). stacked 0 (map form ps)) pieces
    ∙ ap (λ (l : List ℕ). stacked 0 ((1, l) ∷ []))
    (bytes_encoded o.header.class o.header.order bytes are)

pub own_strings : (o : Object) (t : ℕ) (bytes : List ℕ) → t < length o.sections
    → (section_at o t).pieces ≡ own_piece (items.Bytes bytes) 1 ∷ []
    → (header_at o t).stype ≡ SHT_STRTAB → AreBytes bytes → IsStringSection o t bytes
own_strings o t bytes below pieces stype are = record {
  below = below;
  holds = own_holds o t bytes pieces stype;
  inside = and_left (home_is_clean (section_at o t)) (section_at o t).home.out
      (own_clean o t bytes pieces);
  blocks = own_blocks o t bytes pieces are;
}

-- ---- The string at an offset of it

abbrev whole_block : List ℕ → Block
whole_block bytes = record { at = 0; bytes = bytes }

over : (bytes : List ℕ) (offset : ℕ) → offset < length bytes
    → first_over (stacked 0 ((1, bytes) ∷ [])) offset ≡ Some (whole_block bytes)
unfolding stacked rounded_up block_covers block_end
over bytes offset within =
    let from : nat_le 0 offset ≡ true = le-leb 0 offset (omega arith) in
    let upto : nat_lt offset (0 + length bytes) ≡ true =
    lt-ltb offset (0 + length bytes) (omega (arith, within)) in
    rw (from, upto) refl

ended : (end t offset : ℕ) (bytes : List ℕ) → has_nul (drop offset bytes) ≡ true
    → string_by None true false end (Some (whole_block bytes)) t offset
    ≡ Ok (string_at bytes offset)
unfolding string_by
ended end t offset bytes nul =
    let start : offset - 0 ≡ offset = omega arith in
    ap (λ (k : ℕ). answered
    (first_refusal (None ∷ refused_if (not (has_nul (drop k bytes))) (Unended offset) ∷ []))
    (string_at bytes k)) start
    ∙ ap (λ (b : Bool). answered
    (first_refusal (None ∷ refused_if (not b) (Unended offset) ∷ [])) (string_at bytes offset)) nul

pub string_there : (o : Object) (t offset : ℕ) (bytes : List ℕ) → IsStringSection o t bytes
    → offset < length bytes → has_nul (drop offset bytes) ≡ true
    → string_answer o t offset ≡ Ok (string_at bytes offset)
string_there o t offset bytes has within nul =
    string_is o t offset
    ∙ ap (λ (r : Option ElfError). string_by r (holds_strings (section_at o t))
    (is_lost (section_at o t)) (last_end 0 (piece_blocks o t))
    (first_over (piece_blocks o t) offset) t offset) (there_is o t has.below)
    ∙ ap (λ (b : Bool). string_by None b
    (is_lost (section_at o t)) (last_end 0 (piece_blocks o t))
    (first_over (piece_blocks o t) offset) t offset) has.holds
    ∙ ap (λ (b : Bool). string_by None true b (last_end 0 (piece_blocks o t))
    (first_over (piece_blocks o t) offset) t offset) has.inside
    ∙ ap (λ (l : List Block). string_by None true false (last_end 0 l) (first_over l offset)
    t offset) has.blocks
    ∙ ap (λ (x : Option Block).
    string_by None true false (last_end 0 (stacked 0 ((1, bytes) ∷ []))) x t offset)
    (over bytes offset within)
    ∙ ended (last_end 0 (stacked 0 ((1, bytes) ∷ []))) t offset bytes nul

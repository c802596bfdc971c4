-- A section of an object whose image is opened again: its bytes, its items and its strings are
-- those that it had.
use Rattle.std.proofs.Common.{◌≡◌, ◌+◌, ◌<◌, ◌==◌, ◌&&◌, ◌||◌, ℕ, Bool, true, false, not, List, [], ◌∷◌, length, take, drop, get_or, map, Some, None, refl, sym, ap, ◌∙◌, arith}
use Rattle.std.specs.Prelude.{is_none, nat_lt, slice_get, if◌then◌else◌}
use Rattle.std.specs.List.{enumerate_from, list_all}
use Rattle.std.proofs.lemmas.Bool.{and_from, and_parts, and_right, not_from_false, both_ways, eq-eqb, ne_eqb, not-true, not_from_true, or_parts}
use Rattle.std.proofs.lemmas.List.{length-map}
use Rattle.std.proofs.lemmas.List.FromFn.{length-enumerate_from}
use Rattle.elf_types.specs.Kinds.{section_kind}
use Rattle.elf_types.specs.declared.errors.ElfError.TheVariants.{OutOfFile}
use Rattle.elf_types.specs.declared.constants.TheConstants.{SHT_NULL, SHT_NOBITS, SHT_STRTAB}
use Rattle.elf_types.specs.declared.records.Class.{Class}
use Rattle.elf_types.specs.declared.records.Order.{Order}
use Rattle.elf_types.specs.declared.records.Kind.{Kind}
use Rattle.elf_types.specs.declared.records.Kind.TheVariants as kinds
use Rattle.elf_types.specs.declared.records.Shdr.{Shdr}
use Rattle.rebuild_model.specs.elf_object.Blocks.{Block, stacked, last_end, spread}
use Rattle.rebuild_model.specs.elf_object.Object.{Object, Section, Piece, absent_section, section_at, piece_at, header_of, has_file_bytes, occupies_file, is_null, is_dirty, home_piece, home_is_clean}
use Rattle.rebuild_model.specs.elf_object.Open.{home_len, home_of, home_bytes}
use Rattle.rebuild_model.specs.elf_object.Answers.{content, or_empty, items_at, same_kind}
use Rattle.rebuild_model.specs.elf_object.Joined.{piece_bytes, aligned_pieces, piece_blocks, pieces_end, file_bytes}
use Rattle.rebuild_model.specs.elf_object.Derived.{derived_header, numbered_shdr}
use Rattle.rebuild_model.specs.elf_object.Image.{image}
use Rattle.rebuild_model.specs.elf_object.Layout.{places_of, section_place, size_in_file, placed_header, placed_shdr, placed_by}
use Rattle.rebuild_model.specs.elf_object.Refusal.{missing_in_section, missing_home, refusal}
use Rattle.rebuild_model.specs.elf_object.Settled.{settled_section, settled_over, settle}
use Rattle.rebuild_model.specs.elf_object.Strings.{holds_strings, kind_of_piece, readable, string_answer}
use Rattle.rebuild_model.specs.elf_object.Valid.{IsObject, as_opened}
use Rattle.rebuild_model.proofs.elf_object.PassedLaws.{not_refused}
use Rattle.rebuild_model.proofs.elf_object.SettledSections.{section_at-settled}
use Rattle.law_rebuild.proofs.law_object.ImageLaws.{section_at-placed, placed-dirty}
use Rattle.law_rebuild.proofs.law_object.ItemLaws.{alone_spread, row_none}
use Rattle.law_rebuild.proofs.law_object.PlacedLaws.{update_passes}
use Rattle.law_rebuild.proofs.law_object.StandLaws.{section_count-placed, joined-placed}
use Rattle.law_rebuild.proofs.law_object.AgainLaws.{placed_section_header}
use Rattle.law_rebuild.proofs.law_object.SettledLaws.{unrefused, section_raw, section_extent, settle-dirty}
use Rattle.law_hash.proofs.SameLaws.{content_by, content_as, blocks_of, is_missing, string_of, string_by}

-- ---- A piece alone

-- the one piece of a section is clean
abbrev pub IsHomeAlone : Section → Type 0
IsHomeAlone c = c.pieces ≡ home_piece ∷ []

clean_pieces : (class : Class) (order : Order) (c : Section) → IsHomeAlone c
    → aligned_pieces class order c ≡ (1, c.raw) ∷ []
unfolding aligned_pieces piece_bytes
clean_pieces class order c is =
    ap (map (λ p. (p.align, piece_bytes class order c.raw p))) is

clean_bytes : (o : Object) (t : ℕ) → IsHomeAlone (section_at o t)
    → has_file_bytes t (section_at o t) ≡ true → file_bytes o t ≡ (section_at o t).raw
unfolding file_bytes pieces_end piece_blocks
clean_bytes o t is filled =
    ap (λ (b : Bool). if b
    then spread
    (last_end 0 (stacked 0 (aligned_pieces o.header.class o.header.order (section_at o t))))
    (λ _. o.fill) (stacked 0 (aligned_pieces o.header.class o.header.order (section_at o t)))
    else []) filled
    ∙ ap (λ (l : List (ℕ × List ℕ)). spread (last_end 0 (stacked 0 l)) (λ _. o.fill) (stacked 0 l))
    (clean_pieces o.header.class o.header.order (section_at o t) is)
    ∙ alone_spread 1 (section_at o t).raw o.fill

pub home_items : (o : Object) (t : ℕ) → IsHomeAlone (section_at o t)
    → items_at o t 0 ≡ or_empty (content o t)
unfolding items_at piece_at
home_items o t is =
    ap (λ (l : List Piece). elim ((get_or l 0 home_piece).own) [
      | None ↦ or_empty (content o t)
      | Some items ↦ items
    ]) is

clean_strings : (c : Section) → IsHomeAlone c → c.header.stype ≡ SHT_STRTAB → (kind : Kind)
    → c.home.kind ≡ kind → holds_strings c
    ≡ (SHT_STRTAB == SHT_STRTAB && (same_kind kind kinds.Bytes && true))
unfolding holds_strings
clean_strings c is type kind same =
    ap (λ (l : List Piece). c.header.stype == SHT_STRTAB
    && list_all (λ p. same_kind (kind_of_piece c p) kinds.Bytes) l) is
    ∙ ap (λ (n : ℕ). n == SHT_STRTAB && (same_kind c.home.kind kinds.Bytes && true)) type
    ∙ ap (λ (k : Kind). SHT_STRTAB == SHT_STRTAB && (same_kind k kinds.Bytes && true)) same

three : (a b c : Bool) → a ≡ true → b ≡ true → c ≡ true → (a && b && c) ≡ true
three a b c first second third =
    ap (λ (x : Bool). x && b && c) first ∙ ap (λ (x : Bool). true && x && c) second
    ∙ ap (λ (x : Bool). true && true && x) third

-- ---- An update that is not refused

module _ (o : Object) (ok : IsObject o) (dirty : is_dirty o ≡ true)
    (passed : refusal o ≡ None) where
  abbrev q : Object
  q = placed_by (places_of o) o

  abbrev again : Object
  again = as_opened (settle o)

  pub settled : settle o ≡ settled_over (image o) q
  settled = settle-dirty o dirty ∙ ap (settled_over (image o)) (placed-dirty o dirty)

  pub again_class : again.header.class ≡ o.header.class
  unfolding settled_over placed_by placed_header derived_header header_of
  again_class = ap (λ (p : Object). p.header.class) settled

  pub again_order : again.header.order ≡ o.header.order
  unfolding settled_over placed_by placed_header derived_header header_of
  again_order = ap (λ (p : Object). p.header.order) settled

  pub again_count : length again.sections ≡ length o.sections
  unfolding settled_over
  again_count =
      ap (λ (p : Object). length p.sections) settled
      ∙ length-map (enumerate_from 0 q.sections) _
      ∙ length-enumerate_from 0 q.sections ∙ section_count-placed (places_of o) o

  module _ (t : ℕ) (positive : 0 < t) (inside : t < length o.sections)
      (occupies : occupies_file (section_at o t).header ≡ true) where
    abbrev h : Shdr
    h = (section_at o t).header

    abbrev placed_h : Shdr
    placed_h = record h { offset = section_place (places_of o) t; size = size_in_file o t h }

    not_zero : (t == 0) ≡ false
    not_zero = ne_eqb t 0 (λ is. absurd (omega (arith, is, positive)))

    not_null : is_null h ≡ false
    not_null = (or_parts _ _ (not-true (h.stype == SHT_NULL || h.stype == SHT_NOBITS) occupies)).0

    filled : has_file_bytes t (section_at o t) ≡ true
    unfolding has_file_bytes
    filled = and_from _ _ (not_from_false (t == 0) not_zero) occupies

    shdr_is : placed_shdr (places_of o) o t h ≡ placed_h
    unfolding placed_shdr
    shdr_is =
        ap (λ (b : Bool). if b then numbered_shdr (placed_header (places_of o) o) h
        else (if is_null h then h else placed_h)) not_zero
        ∙ ap (λ (b : Bool). if b then h else placed_h) not_null

    header_is : (section_at q t).header ≡ placed_h
    header_is =
        ap (λ (c : Section). c.header) (section_at-placed (places_of o) o t inside)
        ∙ placed_section_header (places_of o) o t (section_at o t) ∙ shdr_is

    pub section_is : section_at again t
        ≡ settled_section (length (image o)) (file_bytes o t) placed_h
    unfolding section_at
    section_is =
        ap (λ (p : Object). section_at p t) settled
        ∙ section_at-settled (image o) q t
        (omega (arith, inside, section_count-placed (places_of o) o))
        ∙ ap (λ (b : List ℕ). settled_section (length (image o)) b (section_at q t).header)
        (joined-placed (places_of o) o t)
        ∙ ap (settled_section (length (image o)) (file_bytes o t)) header_is

    extent : home_len placed_h ≡ length (file_bytes o t)
    extent =
        ap home_len (sym header_is) ∙ section_extent o t inside not_zero
        ∙ ap (λ (l : List ℕ). length l) (joined-placed (places_of o) o t)

    stands : home_bytes (home_of (length (image o)) placed_h) (image o) ≡ file_bytes o t
    stands =
        ap (λ (g : Shdr). home_bytes (home_of (length (image o)) g) (image o)) (sym header_is)
        ∙ section_raw o t ok dirty passed inside ∙ joined-placed (places_of o) o t

    abbrev past : Bool
    past =
        not (home_len placed_h == 0)
        && nat_lt (length (image o)) (placed_h.offset + home_len placed_h)

    in_file : (home_of (length (image o)) placed_h).out ≡ false
    unfolding home_of home_bytes
    in_file = by past refl stands
      where
        by : (b : Bool) → past ≡ b
            → (if b then [] else take (home_len placed_h) (drop placed_h.offset (image o)))
            ≡ file_bytes o t → past ≡ false
        by false known is = known
        by true known is =
            let none : home_len placed_h ≡ 0 = extent ∙ ap (λ (l : List ℕ). length l) (sym is) in
            absurd (both_ways (not (home_len placed_h == 0))
            (not_from_true (home_len placed_h == 0) (eq-eqb (home_len placed_h) 0 none))
            (and_parts _ _ known).0)

    -- ---- What it is then

    pub again_clean : IsHomeAlone (section_at again t)
    unfolding settled_section
    again_clean = ap (λ (c : Section). c.pieces) section_is

    pub again_in_file : (section_at again t).home.out ≡ false
    unfolding settled_section
    again_in_file = ap (λ (c : Section). c.home.out) section_is ∙ in_file

    pub again_kind : (section_at again t).home.kind ≡ section_kind (section_at o t).header
    unfolding settled_section home_of section_kind
    again_kind = ap (λ (c : Section). c.home.kind) section_is

    pub again_raw : (section_at again t).raw ≡ file_bytes o t
    unfolding settled_section
    again_raw = ap (λ (c : Section). c.raw) section_is

    pub again_type : (section_at again t).header.stype ≡ (section_at o t).header.stype
    unfolding settled_section
    again_type = ap (λ (c : Section). c.header.stype) section_is

    pub again_link : (section_at again t).header.link ≡ (section_at o t).header.link
    unfolding settled_section
    again_link = ap (λ (c : Section). c.header.link) section_is

    -- ---- A section that is clean

    module _ (clean : IsHomeAlone (section_at o t))
        (kind : (section_at o t).home.kind ≡ section_kind (section_at o t).header) where
      is_clean : home_is_clean (section_at o t) ≡ true
      unfolding home_is_clean
      is_clean =
          ap (λ (l : List Piece). elim (slice_get l 0) [ None ↦ false | Some p ↦ is_none p.own ])
          clean

      none_missing : missing_in_section t (section_at o t) ≡ None
      unfolding missing_home section_at
      none_missing =
          let at : 0 + t ≡ t = omega arith in
          sym (ap (λ (k : ℕ). missing_in_section k (get_or o.sections t absent_section)) at)
          ∙ row_none missing_in_section 0 o.sections t absent_section
          (unrefused o (update_passes o dirty passed).0).missing inside

      was_in_file : (section_at o t).home.out ≡ false
      unfolding missing_in_section
      was_in_file = by (section_at o t).home.out refl
        where
          by : (b : Bool) → (section_at o t).home.out ≡ b → (section_at o t).home.out ≡ false
          by false known = known
          by true known =
              absurd (both_ways
              (has_file_bytes t (section_at o t) && home_is_clean (section_at o t)
              && (section_at o t).home.out)
              (not_refused _ (OutOfFile t) none_missing)
              (three _ _ _ filled is_clean known))

      raw_same : (section_at again t).raw ≡ (section_at o t).raw
      raw_same = again_raw ∙ clean_bytes o t clean filled

      pub clean_content : content again t ≡ content o t
      clean_content =
          content_as again t
          ∙ ap (λ (b : Bool). content_by t b (section_at again t).home.kind again.header.class
          again.header.order (section_at again t).raw) (again_in_file ∙ sym was_in_file)
          ∙ ap (λ (k : Kind). content_by t (section_at o t).home.out k again.header.class
          again.header.order (section_at again t).raw) (again_kind ∙ sym kind)
          ∙ ap (λ (c : Class). content_by t (section_at o t).home.out (section_at o t).home.kind c
          again.header.order (section_at again t).raw) again_class
          ∙ ap (λ (r : Order). content_by t (section_at o t).home.out (section_at o t).home.kind
          o.header.class r (section_at again t).raw) again_order
          ∙ ap (content_by t (section_at o t).home.out (section_at o t).home.kind o.header.class
          o.header.order) raw_same
          ∙ sym (content_as o t)

      pub clean_again : items_at again t 0 ≡ items_at o t 0
      clean_again =
          home_items again t again_clean ∙ ap or_empty clean_content ∙ sym (home_items o t clean)

      -- its strings
      blocks_same : blocks_of again.header.class again.header.order (section_at again t)
          ≡ blocks_of o.header.class o.header.order (section_at o t)
      blocks_same =
          ap (stacked 0)
          (clean_pieces again.header.class again.header.order (section_at again t) again_clean
          ∙ ap (λ (l : List ℕ). (1, l) ∷ []) raw_same
          ∙ sym (clean_pieces o.header.class o.header.order (section_at o t) clean))

      holds_same : (section_at o t).header.stype ≡ SHT_STRTAB
          → holds_strings (section_at again t) ≡ holds_strings (section_at o t)
      holds_same type =
          clean_strings (section_at again t) again_clean (again_type ∙ type)
          (section_kind (section_at o t).header) again_kind
          ∙ sym (clean_strings (section_at o t) clean type
          (section_kind (section_at o t).header) kind)

      not_missing : (c : Section) → c.home.out ≡ false → is_missing c ≡ false
      not_missing c is = and_right (home_is_clean c) c.home.out is

      pub string_again : (section_at o t).header.stype ≡ SHT_STRTAB → (offset : ℕ)
          → readable (string_answer again t offset) ≡ readable (string_answer o t offset)
      string_again type offset =
          ap readable
          (string_by again t offset
          ∙ ap (λ (n : ℕ). string_of n t (holds_strings (section_at again t))
          (is_missing (section_at again t))
          (blocks_of again.header.class again.header.order (section_at again t)) offset) again_count
          ∙ ap (λ (b : Bool). string_of (length o.sections) t b (is_missing (section_at again t))
          (blocks_of again.header.class again.header.order (section_at again t)) offset)
          (holds_same type)
          ∙ ap (λ (b : Bool). string_of (length o.sections) t (holds_strings (section_at o t)) b
          (blocks_of again.header.class again.header.order (section_at again t)) offset)
          (not_missing (section_at again t) again_in_file
          ∙ sym (not_missing (section_at o t) was_in_file))
          ∙ ap (λ (l : List Block). string_of (length o.sections) t (holds_strings (section_at o t))
          (is_missing (section_at o t)) l offset) blocks_same
          ∙ sym (string_by o t offset))

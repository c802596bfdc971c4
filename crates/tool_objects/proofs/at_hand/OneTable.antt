-- A section of strings that is one table: its strings are those that begin in its bytes.
use Rattle.std.proofs.Common.{◌≡◌, ℕ, ◌+◌, ◌-◌, ◌<◌, ◌≤◌, ◌&&◌, Bool, true, false, not, List, [], ◌∷◌, length, take, drop, get_or, map, Option, Some, None, Result, refl, sym, ap, ◌∙◌, arith}
use Rattle.std.specs.Prelude.{◌^◌, ◌==◌, min, nat_le, nat_lt, slice_get, filter, is_none, take_while, if◌then◌else◌}
use Rattle.std.specs.List.{list_all}
use Rattle.std.proofs.Math.Bool.{and-false}
use Rattle.std.proofs.Math.ListN.{drop_of_length-le}
use Rattle.std.proofs.lemmas.Bool.{cond-true, cond-false, and_from, and_right, eq-eqb, le-leb, lt-ltb, le-ltb, ltb-true, ltb-false}
use Rattle.std.proofs.lemmas.List.{take_all}
use Rattle.std.proofs.lemmas.List.Folds.{list_all_more}
use Rattle.elf_types.specs.declared.constants.TheConstants.{SHT_STRTAB}
use Rattle.elf_types.specs.declared.records.Kind.TheVariants as kinds
use Rattle.elf_types.specs.declared.errors.ElfError.{ElfError}
use Rattle.elf_types.specs.declared.errors.ElfError.TheVariants.{OutOfFile, NotStrings, NoString, Unended}
use Rattle.elf_types.specs.Answers.{answered, refused_if, first_refusal}
use Rattle.gelf_view.specs.elf_xlate.declared.content.Items.{Items}
use Rattle.gelf_view.specs.elf_xlate.Translation.{encoded}
use Rattle.gelf_view.specs.elf_layout.Layout.{rounded_up}
use Rattle.gelf_view.specs.strtab_build.Table.{string_at}
use Rattle.gelf_view.proofs.elf_object.RunningEnds.{first_place}
use Rattle.gelf_view.specs.elf_object.Blocks.{Block, block_covers, block_end, stacked}
use Rattle.gelf_view.specs.elf_object.Object.{Object, Piece, section_at, piece_at, home_piece, home_is_clean}
use Rattle.gelf_view.specs.elf_object.Answers.{kind_at, piece_count, same_kind}
use Rattle.gelf_view.specs.elf_object.Joined.{piece_bytes, aligned_pieces, piece_blocks, pieces_end}
use Rattle.gelf_view.specs.elf_object.Strings.{kind_of_piece, holds_strings, piece_over, has_nul, bytes_from, no_string, unended, string_in, string_refusal_unread, string_refusal, string_answer, readable}
use Rattle.gelf_view.proofs.elf_object.StepLaws.{same_kind-same}
use Rattle.gelf_view.specs.elf_descriptor.State.{State}
use Rattle.gelf_view.specs.elf_descriptor.Held.{AreHeldBytes}
use Rattle.gelf_view.specs.Records.{string_front}
use Rattle.tool_objects.specs.AtHand.Strings.{HoldsStrings, IsOneTable}

one_piece : (ps : List Piece) → length ps ≡ 1 → ps ≡ get_or ps 0 home_piece ∷ []
one_piece [] one = absurd (omega (arith, one))
one_piece (p ∷ []) one = refl
one_piece (p ∷ q ∷ ps) one = absurd (omega (arith, one))

module _ (o : Object) (s : ℕ) (is : IsOneTable o s) (clean : (piece_at o s 0).own ≡ None) where
  abbrev raw : List ℕ
  raw = (section_at o s).raw

  abbrev holds_bytes : Piece → Bool
  holds_bytes p = same_kind (kind_of_piece (section_at o s) p) kinds.Bytes

  pieces_are : (section_at o s).pieces ≡ piece_at o s 0 ∷ []
  unfolding piece_at piece_count
  pieces_are = one_piece (section_at o s).pieces is.alone

  first_holds : holds_bytes (piece_at o s 0) ≡ true
  unfolding kind_at
  first_holds = same_kind-same (kind_at o s 0) kinds.Bytes is.of_bytes

  all_hold : list_all holds_bytes (section_at o s).pieces ≡ true
  unfolding piece_at piece_count
  all_hold =
      ap (list_all holds_bytes) (sym (take_all 1 (section_at o s).pieces (omega (arith, is.alone))))
      ∙ list_all_more holds_bytes (section_at o s).pieces 0 home_piece (omega (arith, is.alone))
      ∙ and_from (list_all holds_bytes (take 0 (section_at o s).pieces)) (holds_bytes (get_or (section_at o s).pieces 0 home_piece)) refl first_holds

  strings_held : holds_strings (section_at o s) ≡ true
  unfolding holds_strings
  strings_held =
      and_from ((section_at o s).header.stype == SHT_STRTAB) (list_all holds_bytes (section_at o s).pieces)
      (eq-eqb (section_at o s).header.stype SHT_STRTAB is.of_strings) all_hold

  abbrev one_block : ℕ → List ℕ → List Block
  one_block at bytes = record { at = at; bytes = bytes } ∷ []

  abbrev block : Block
  block = record { at = 0; bytes = raw }

  blocks_are : piece_blocks o s ≡ one_block 0 raw
  unfolding piece_blocks aligned_pieces stacked piece_bytes
  blocks_are =
      ap (λ (ps : List Piece). stacked 0 (map (λ (p : Piece). (p.align, piece_bytes o.header.class o.header.order raw p)) ps)) pieces_are
      ∙ ap (λ (own : Option Items). one_block (rounded_up 0 (piece_at o s 0).align) (elim own [ None ↦ raw | Some items ↦ encoded o.header.class o.header.order items ])) clean
      ∙ ap (λ (n : ℕ). one_block n raw) (first_place (piece_at o s 0).align)

  unread : (offset : ℕ) → string_refusal_unread o s offset ≡ first_refusal (no_string o s offset ∷ [])
  unfolding string_refusal_unread
  unread offset =
      let out = section_at o s in
      ap (λ (r : Option ElfError). first_refusal (r ∷ refused_if (not (holds_strings out)) (NotStrings s) ∷ refused_if (home_is_clean out && out.home.out) (OutOfFile s) ∷ no_string o s offset ∷ [])) is.there
      ∙ ap (λ (t : Bool). first_refusal (refused_if (not t) (NotStrings s) ∷ refused_if (home_is_clean out && out.home.out) (OutOfFile s) ∷ no_string o s offset ∷ [])) strings_held
      ∙ ap (λ (t : Bool). first_refusal (refused_if (home_is_clean out && t) (OutOfFile s) ∷ no_string o s offset ∷ [])) is.inside
      ∙ ap (λ (t : Bool). first_refusal (refused_if t (OutOfFile s) ∷ no_string o s offset ∷ [])) (and-false (home_is_clean out))

  module _ (offset : ℕ) where
    abbrev first_over : List Block → Option Block
    first_over blocks = slice_get (filter (λ b. block_covers b offset) blocks) 0

    over_is : piece_over o s offset ≡ first_over (one_block 0 raw)
    unfolding piece_over
    over_is = ap first_over blocks_are

    over_some : offset < length raw → piece_over o s offset ≡ Some block
    unfolding block_covers block_end
    over_some below =
        over_is
        ∙ ap (λ (l : List Block). slice_get l 0)
        (cond-true (nat_le 0 offset && nat_lt offset (0 + length raw)) _ _
        (and_from (nat_le 0 offset) (nat_lt offset (0 + length raw)) (le-leb 0 offset (omega arith)) (lt-ltb offset (0 + length raw) (omega (arith, below)))))

    over_none : length raw ≤ offset → piece_over o s offset ≡ None
    unfolding block_covers block_end
    over_none past =
        over_is
        ∙ ap (λ (l : List Block). slice_get l 0)
        (cond-false (nat_le 0 offset && nat_lt offset (0 + length raw)) _ _
        (and_right (nat_le 0 offset) (nat_lt offset (0 + length raw)) (le-ltb offset (0 + length raw) (omega (arith, past)))))

    abbrev answer_by : Option Block → Result (List ℕ) ElfError
    answer_by over =
        answered (first_refusal (first_refusal (refused_if (is_none over) (NoString offset (min (pieces_end o s) (2 ^ 64 - 1))) ∷ [])
        ∷ (elim over [ None ↦ None | Some b ↦ refused_if (not (has_nul (bytes_from b offset))) (Unended offset) ]) ∷ []))
        (elim over [ None ↦ [] | Some b ↦ string_at b.bytes (offset - b.at) ])

    answer_is : string_answer o s offset ≡ answer_by (piece_over o s offset)
    unfolding string_answer string_refusal
    answer_is = ap (λ (r : Option ElfError). answered (first_refusal (r ∷ unended o s offset ∷ [])) (string_in o s offset)) (unread offset)

    ended : (l : List ℕ) (t : Bool) → readable (answered (first_refusal (None ∷ refused_if (not t) (Unended offset) ∷ [])) (take_while (λ b. not (b == 0)) l))
        ≡ (if t then Some (take_while (λ b. not (b == 0)) l) else None)
    ended l true = refl
    ended l false = refl

    string_there : offset < length raw → readable (string_answer o s offset) ≡ string_front (drop offset raw)
    unfolding string_front string_at
    string_there below =
        let zero : offset - 0 ≡ offset = omega arith in
        ap readable answer_is
        ∙ ap (λ (x : Option Block). readable (answer_by x)) (over_some below)
        ∙ ap (λ (n : ℕ). readable (answered (first_refusal (None ∷ refused_if (not (has_nul (drop n raw))) (Unended offset) ∷ [])) (take_while (λ b. not (b == 0)) (drop n raw)))) zero
        ∙ ended (drop offset raw) (has_nul (drop offset raw))

    no_string_there : length raw ≤ offset → readable (string_answer o s offset) ≡ string_front (drop offset raw)
    unfolding string_front
    no_string_there past =
        ap readable answer_is
        ∙ ap (λ (x : Option Block). readable (answer_by x)) (over_none past)
        ∙ sym (ap string_front (drop_of_length-le raw past))

    by_place : (t : Bool) → nat_lt offset (length raw) ≡ t → readable (string_answer o s offset) ≡ string_front (drop offset raw)
    by_place true below = string_there (ltb-true offset (length raw) below)
    by_place false past = no_string_there (ltb-false offset (length raw) past)

    pub strings_are : readable (string_answer o s offset) ≡ string_front (drop offset raw)
    strings_are = by_place (nat_lt offset (length raw)) refl

pub holds_strings_at : {S : Type 0} (state : State S) (s : ℕ) (bytes : List ℕ) → IsOneTable state.o s → AreHeldBytes state s 0 bytes → HoldsStrings state s bytes
holds_strings_at {S} state s bytes is held = λ told offset.
    strings_are state.o s is held.clean offset ∙ ap (λ (b : List ℕ). string_front (drop offset b)) (sym (held.exact told))

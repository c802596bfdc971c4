-- The usual case of a string: its section is one table whose bytes are held.
use Rattle.std.proofs.Common.{◌≡◌, ℕ, ◌+◌, ◌<◌, Bool, ◌&&◌, List, [], ◌∷◌, length, drop, Option, Some, None, refl, sym, ap, ◌∙◌, subst, arith}
use Rattle.std.specs.Prelude.{nat_le, nat_lt}
use Rattle.std.proofs.Math.Bool.{and-false}
use Rattle.std.proofs.lemmas.Bool.{and_from, le-leb, lt-ltb}
use Rattle.elf_types.specs.declared.records.Kind.{Kind}
use Rattle.elf_types.specs.declared.records.Kind.TheVariants as kinds
use Rattle.elf_types.specs.declared.errors.ElfError.{ElfError}
use Rattle.elf_types.specs.declared.errors.ElfError.TheVariants.{OutOfFile, Unended}
use Rattle.elf_types.specs.Answers.{refused_if, or_refused}
use Rattle.elf_descriptor.specs.elf_xlate.declared.content.Items.{Items}
use Rattle.elf_descriptor.specs.elf_xlate.Translation.{items_kind}
use Rattle.elf_descriptor.specs.elf_layout.Layout.{rounded_up}
use Rattle.elf_descriptor.specs.elf_object.Object.{Piece, section_at, piece_at, home_is_clean}
use Rattle.elf_descriptor.specs.elf_object.Valid.{OthersOwn}
use Rattle.elf_descriptor.specs.elf_object.Answers.{kind_at, piece_count, same_kind}
use Rattle.elf_descriptor.specs.elf_object.Joined.{piece_blocks, pieces_end}
use Rattle.elf_descriptor.specs.elf_object.Strings.{piece_over, readable, string_answer}
use Rattle.elf_descriptor.proofs.elf_object.RunningEnds.{first_place}
use Rattle.elf_descriptor.proofs.elf_object.AnswerLaws.{answered_value}
use Rattle.elf_descriptor.specs.State.{State}
use Rattle.elf_descriptor.specs.Tables.{IsHeldTable}
use Rattle.elf_descriptor.specs.section_data.Nuls.{IsEndedFront}
use Rattle.gelf_view.specs.Records.{string_front}
use Rattle.gelf_view.specs.Strings.{bytes_in, no_strings, home_missing, IsOver, Begins}
use Rattle.gelf_view.proofs.PieceBytes.{clean_file}
use Rattle.gelf_view.proofs.StackLemmas.{IsLeft, stands_over}
use Rattle.gelf_view.proofs.StringLemmas.{strings_more, strings_all, are_strings, begins_is, home_string_is, string_is}

-- the others of one piece are own: there are none
one_others : (ps : List Piece) → length ps ≡ 1 → OthersOwn ps
one_others [] one = absurd (omega (arith, one))
one_others (p ∷ []) one = λ k d below. absurd (omega (arith, below))
one_others (p ∷ q ∷ ps) one = absurd (omega (arith, one))

module _ {S : Type 0} (st : State S) (s offset : ℕ) (is : IsHeldTable st s offset) where
  -- its piece holds bytes
  of_bytes : kind_at st.o s 0 ≡ kinds.Bytes
  unfolding kind_at
  of_bytes =
      ap
      (λ (own : Option Items).
      elim own [ None ↦ (section_at st.o s).home.kind | Some items ↦ items_kind items ])
      is.clean
      ∙ is.of_bytes

  others : OthersOwn (section_at st.o s).pieces
  unfolding piece_count
  others = one_others (section_at st.o s).pieces is.alone

  strings : no_strings st.o s ≡ None
  strings =
      (answered_value (no_strings st.o s) 0 0
      (sym (are_strings st.o s 0 is.there is.of_strings
      (strings_all st.o s 1 (omega (arith, is.alone))
      (strings_more st.o s 0 (omega (arith, is.alone)) refl
      (ap (λ (k : Kind). same_kind k kinds.Bytes) of_bytes)))))).0

  inside : home_missing st.o s ≡ None
  inside =
      ap (λ (out : Bool). refused_if (home_is_clean (section_at st.o s) && out) (OutOfFile s))
      is.inside
      ∙ ap (λ (t : Bool). refused_if t (OutOfFile s))
      (and-false (home_is_clean (section_at st.o s)))

  -- none stands before it
  from_first : IsLeft st.o s offset 0 0
  unfolding piece_over piece_blocks pieces_end
  from_first = record { over = refl; size = refl }

  over : IsOver st.o s offset 0 offset
  over =
      let align = (piece_at st.o s 0).align in
      let len = length (bytes_in st.o s 0) in
      let zero = first_place align in
      let within : offset < len =
      subst (λ (l : List ℕ). offset < length l) (sym (clean_file st.o s 0 is.clean)) is.within in
      stands_over st.o s offset 0 0 align len (omega (arith, is.alone)) refl refl from_first
      offset (
        and_from (nat_le (rounded_up 0 align) offset) (nat_lt offset (rounded_up 0 align + len))
            (le-leb (rounded_up 0 align) offset (omega (arith, zero)))
            (lt-ltb offset (rounded_up 0 align + len) (omega (arith, zero, within))),
        omega (arith, zero),
      )

  pub table_begins : Begins st.o s offset 0 offset
  table_begins = begins_is st.o s offset 0 offset strings inside others over

readable_found : (found : Option (List ℕ)) (e : ElfError)
    → readable (or_refused found e) ≡ found
readable_found None e = refl
readable_found (Some string) e = refl

-- the string at an offset of it, by its bytes up to their last NUL
pub held_string : {S : Type 0} (st : State S) (s offset : ℕ) (front : List ℕ)
    → IsHeldTable st s offset → IsEndedFront (section_at st.o s).raw front
    → string_front (drop offset front) ≡ readable (string_answer st.o s offset)
held_string st s offset front is ended =
    sym (readable_found (string_front (drop offset front)) (Unended offset))
    ∙ ap readable
    (home_string_is st.o s offset 0 offset front is.clean ended
    ∙ sym (string_is st.o s offset 0 offset (table_begins st s offset is)))

-- Where a string begins: its refusals before a byte is read, and the piece that is read for it.
use Rattle.std.proofs.Common.{◌≡◌, ◌≢◌, ℕ, zero, suc, ◌+◌, ◌-◌, ◌<◌, ◌≤◌, Bool, true, false, not, ◌&&◌, List, [], ◌∷◌, length, take, drop, get_or, Option, Some, None, Result, Ok, Err, refl, sym, ap, ◌∙◌, subst, arith}
use Rattle.std.specs.Prelude.{◌^◌, min, IsTrue, IsSome, nat_le, slice_get, take_while, ◌==◌, is_none, if◌then◌else◌}
use Rattle.std.specs.List.{list_all}
use Rattle.std.proofs.lemmas.Bool.{lt-leb, ne_eqb, eq-eqb, and_left, and_right, and_from}
use Rattle.std.proofs.lemmas.List.Elements.{All-get_or}
use Rattle.std.proofs.lemmas.List.Folds.{list_all_at, list_all_more}
use Rattle.std.proofs.lemmas.List.{take_all}
use Rattle.elf_types.specs.declared.constants.TheConstants.{SHT_STRTAB}
use Rattle.elf_types.specs.declared.records.Kind.{Kind}
use Rattle.elf_types.specs.declared.records.Kind.TheVariants as kinds
use Rattle.elf_types.specs.declared.errors.ElfError.{ElfError}
use Rattle.elf_types.specs.declared.errors.ElfError.TheVariants.{NoSection, NoData, WrongKind, OutOfFile, NotStrings, NoString, Unended}
use Rattle.elf_types.specs.Answers.{answered, refused_if, first_refusal, or_refused, IsRefusal}
use Rattle.elf_descriptor.specs.elf_xlate.declared.content.Items.{Items}
use Rattle.elf_descriptor.specs.strtab_build.Table.{string_at}
use Rattle.elf_descriptor.specs.elf_object.Blocks.{Block}
use Rattle.elf_descriptor.specs.elf_object.Object.{Object, Piece, section_at, piece_at, home_piece, home_is_clean}
use Rattle.elf_descriptor.specs.elf_object.Valid.{OthersOwn}
use Rattle.elf_descriptor.specs.elf_object.Answers.{no_section, no_data, wrong_kind, no_content, same_kind, kind_at, piece_count, lend_refusal}
use Rattle.elf_descriptor.specs.elf_object.Joined.{pieces_end}
use Rattle.elf_descriptor.specs.elf_object.Strings.{kind_of_piece, holds_strings, has_nul, bytes_from, piece_over, no_string, unended, string_in, string_refusal_unread, string_refusal, string_answer}
use Rattle.elf_descriptor.proofs.elf_object.PassedLaws.{none_first, none_rest, not_refused, not_not}
use Rattle.elf_descriptor.proofs.elf_object.AnswerLaws.{answered_refusal}
use Rattle.elf_descriptor.proofs.elf_object.StepLaws.{same_kind-true}
use Rattle.gelf_view.specs.Records.{string_front}
use Rattle.gelf_view.specs.Strings.{bytes_in, no_strings, home_missing, IsOver, Begins}
use Rattle.elf_descriptor.specs.section_data.Nuls.{IsEndedFront}
use Rattle.gelf_view.proofs.EndedStrings.{front_strings}
use Rattle.gelf_view.proofs.PieceBytes.{clean_content, own_content, clean_file}

-- ---- Refused before a byte is read

two_first : {E : Type 0} (a b c d : Option E) → first_refusal (a ∷ b ∷ c ∷ d ∷ []) ≡ first_refusal (first_refusal (a ∷ b ∷ []) ∷ c ∷ d ∷ [])
two_first (Some e) b c d = refl
two_first None (Some e) c d = refl
two_first None None c d = refl

module _ (o : Object) (s offset : ℕ) where
  unread_is : string_refusal_unread o s offset ≡ first_refusal (no_strings o s ∷ home_missing o s ∷ no_string o s offset ∷ [])
  unfolding string_refusal_unread
  unread_is = two_first (no_section o s) (refused_if (not (holds_strings (section_at o s))) (NotStrings s)) (home_missing o s) (no_string o s offset)

  -- the tests that passed leave what the next one says
  strings_passed : no_strings o s ≡ None → string_refusal_unread o s offset ≡ first_refusal (home_missing o s ∷ no_string o s offset ∷ [])
  strings_passed passed = unread_is ∙ ap (λ (r : Option ElfError). first_refusal (r ∷ home_missing o s ∷ no_string o s offset ∷ [])) passed

  home_passed : no_strings o s ≡ None → home_missing o s ≡ None → string_refusal_unread o s offset ≡ first_refusal (no_string o s offset ∷ [])
  home_passed strings home = strings_passed strings ∙ ap (λ (r : Option ElfError). first_refusal (r ∷ no_string o s offset ∷ [])) home

  pub unread_strings : (e : ElfError) → no_strings o s ≡ Some e → string_refusal_unread o s offset ≡ Some e
  unread_strings e refused = unread_is ∙ ap (λ (r : Option ElfError). first_refusal (r ∷ home_missing o s ∷ no_string o s offset ∷ [])) refused

  pub unread_home : (e : ElfError) → no_strings o s ≡ None → home_missing o s ≡ Some e → string_refusal_unread o s offset ≡ Some e
  unread_home e strings refused = strings_passed strings ∙ ap (λ (r : Option ElfError). first_refusal (r ∷ no_string o s offset ∷ [])) refused

  pub unread_string : (e : ElfError) → no_strings o s ≡ None → home_missing o s ≡ None → no_string o s offset ≡ Some e → string_refusal_unread o s offset ≡ Some e
  unread_string e strings home refused = home_passed strings home ∙ ap (λ (r : Option ElfError). first_refusal (r ∷ [])) refused

  -- an offset in a piece is not refused
  over_passes : (b : Block) → piece_over o s offset ≡ Some b → no_string o s offset ≡ None
  over_passes b over = ap (λ (x : Option Block). refused_if (is_none x) (NoString offset (min (pieces_end o s) (2 ^ 64 - 1)))) over

  unread_none : (b : Block) → no_strings o s ≡ None → home_missing o s ≡ None → piece_over o s offset ≡ Some b → string_refusal_unread o s offset ≡ None
  unread_none b strings home over = home_passed strings home ∙ ap (λ (r : Option ElfError). first_refusal (r ∷ [])) (over_passes b over)

-- ---- The pieces of a section of strings

all_at : {X : Type 0} (test : X → Bool) (xs : List X) (i : ℕ) (d : X) → i < length xs → list_all test xs ≡ true → test (get_or xs i d) ≡ true
all_at test xs i d below all = by_test (test (get_or xs i d)) refl
  where
    by_test : (t : Bool) → test (get_or xs i d) ≡ t → t ≡ true
    by_test true is = refl
    by_test false is = let none = list_all_at test xs i d below is in cc

right_of : (a b : Bool) → (a && b) ≡ true → b ≡ true
right_of true b both = both
right_of false b both = cc

-- each of its pieces holds bytes
pub strings_hold : (o : Object) (s : ℕ) → no_strings o s ≡ None
    → (no_section o s ≡ None) × IsTrue (list_all (λ p. same_kind (kind_of_piece (section_at o s) p) kinds.Bytes) (section_at o s).pieces)
unfolding holds_strings
strings_hold o s passed =
    let test = refused_if (not (holds_strings (section_at o s))) (NotStrings s) in
    let holds = not_not (holds_strings (section_at o s)) (not_refused _ _ (none_first test [] (none_rest (no_section o s) (test ∷ []) passed))) in (
      none_first (no_section o s) (test ∷ []) passed,
      right_of ((section_at o s).header.stype == SHT_STRTAB) (list_all (λ p. same_kind (kind_of_piece (section_at o s) p) kinds.Bytes) (section_at o s).pieces) holds,
    )

pub piece_of_bytes : (o : Object) (s p : ℕ) → IsTrue (list_all (λ p. same_kind (kind_of_piece (section_at o s) p) kinds.Bytes) (section_at o s).pieces) → p < piece_count o s
    → kind_at o s p ≡ kinds.Bytes
unfolding kind_at piece_at piece_count
piece_of_bytes o s p all there =
    same_kind-true (kind_at o s p) kinds.Bytes (all_at (λ q. same_kind (kind_of_piece (section_at o s) q) kinds.Bytes) (section_at o s).pieces p home_piece there all)

-- ---- Whether a section holds strings

section_refusal : (o : Object) (s : ℕ) (e : ElfError) → no_section o s ≡ Some e → IsRefusal e
section_refusal o s e is = by_test (nat_le (length o.sections) s) is
  where
    by_test : (t : Bool) → refused_if t (NoSection s (length o.sections)) ≡ Some e → IsRefusal e
    by_test true is = let same : NoSection s (length o.sections) ≡ e = cc in subst IsRefusal same tt
    by_test false is = cc

-- there is no such section
pub section_refused : {A : Type 0} (o : Object) (s : ℕ) (v : A) (e : ElfError) → answered (no_section o s) v ≡ Err e → (no_strings o s ≡ Some e) × IsRefusal e
section_refused o s v e is =
    let refused = answered_refusal (no_section o s) v e is in (
      ap (λ (r : Option ElfError). first_refusal (r ∷ refused_if (not (holds_strings (section_at o s))) (NotStrings s) ∷ [])) refused,
      section_refusal o s e refused,
    )

module _ (o : Object) (s n : ℕ) (there : no_section o s ≡ None) where
  by_test : (t : Bool) → holds_strings (section_at o s) ≡ t → answered (no_strings o s) n ≡ answered (refused_if (not t) (NotStrings s)) n
  by_test t is =
      ap (λ (r : Option ElfError). answered (first_refusal (r ∷ refused_if (not (holds_strings (section_at o s))) (NotStrings s) ∷ [])) n) there
      ∙ ap (λ (t : Bool). answered (first_refusal (refused_if (not t) (NotStrings s) ∷ [])) n) is
      ∙ alone t
    where
      alone : (t : Bool) → answered (first_refusal (refused_if (not t) (NotStrings s) ∷ [])) n ≡ answered (refused_if (not t) (NotStrings s)) n
      alone true = refl
      alone false = refl

  pub other_type : (section_at o s).header.stype ≢ SHT_STRTAB → Err (NotStrings s) ≡ answered (no_strings o s) n
  unfolding holds_strings
  other_type other = sym (by_test false (and_left ((section_at o s).header.stype == SHT_STRTAB) _ (ne_eqb (section_at o s).header.stype SHT_STRTAB other)))

  pub other_pieces : list_all (λ p. same_kind (kind_of_piece (section_at o s) p) kinds.Bytes) (section_at o s).pieces ≡ false → Err (NotStrings s) ≡ answered (no_strings o s) n
  unfolding holds_strings
  other_pieces other = sym (by_test false (and_right ((section_at o s).header.stype == SHT_STRTAB) _ other))

  pub are_strings : (section_at o s).header.stype ≡ SHT_STRTAB → list_all (λ p. same_kind (kind_of_piece (section_at o s) p) kinds.Bytes) (section_at o s).pieces ≡ true
      → Ok n ≡ answered (no_strings o s) n
  unfolding holds_strings
  are_strings type all = sym (by_test true (and_from ((section_at o s).header.stype == SHT_STRTAB) _ (eq-eqb (section_at o s).header.stype SHT_STRTAB type) all))

-- whether each piece holds bytes, found piece by piece
module _ (o : Object) (s p : ℕ) where
  abbrev of_bytes : Piece → Bool
  of_bytes q = same_kind (kind_of_piece (section_at o s) q) kinds.Bytes

  pub strings_none : p < piece_count o s → same_kind (kind_at o s p) kinds.Bytes ≡ false → list_all of_bytes (section_at o s).pieces ≡ false
  unfolding kind_at piece_at piece_count
  strings_none there other = list_all_at of_bytes (section_at o s).pieces p home_piece there other

  pub strings_more : p < piece_count o s → list_all of_bytes (take p (section_at o s).pieces) ≡ true → same_kind (kind_at o s p) kinds.Bytes ≡ true
      → list_all of_bytes (take (p + 1) (section_at o s).pieces) ≡ true
  unfolding kind_at piece_at piece_count
  strings_more there before here = list_all_more of_bytes (section_at o s).pieces p home_piece there ∙ and_from (list_all of_bytes (take p (section_at o s).pieces)) (of_bytes (get_or (section_at o s).pieces p home_piece)) before here

  pub strings_all : piece_count o s ≤ p → list_all of_bytes (take p (section_at o s).pieces) ≡ true → list_all of_bytes (section_at o s).pieces ≡ true
  unfolding piece_count
  strings_all all before = ap (list_all of_bytes) (sym (take_all p (section_at o s).pieces all)) ∙ before

-- a clean piece is the home piece
clean_first : (pieces : List Piece) (p : ℕ) → p < length pieces → OthersOwn pieces → (get_or pieces p home_piece).own ≡ None
    → IsTrue (elim (slice_get pieces 0) [ None ↦ false | Some q ↦ is_none q.own ])
clean_first [] p there others clean = absurd (omega arith)
clean_first (first ∷ rest) zero there others clean = ap (λ (own : Option Items). is_none own) clean
clean_first (first ∷ rest) (suc p) there others clean =
    let some = All-get_or (λ (q : Piece). IsSome q.own) rest p home_piece (omega arith) others in
    absurd (no_own (get_or rest p home_piece).own clean some)
  where
    no_own : (own : Option Items) → own ≡ None → IsSome own → ⊥
    no_own None is some = cc
    no_own (Some items) is some = cc

module _ (o : Object) (s offset p start : ℕ) (strings : no_strings o s ≡ None) (home : home_missing o s ≡ None) (others : OthersOwn (section_at o s).pieces) (over : IsOver o s offset p start) where
  home_clean : (piece_at o s p).own ≡ None → IsTrue (home_is_clean (section_at o s))
  unfolding piece_at piece_count home_is_clean
  home_clean clean = clean_first (section_at o s).pieces p over.there others clean

  kind_is : kind_at o s p ≡ kinds.Bytes
  kind_is = piece_of_bytes o s p (strings_hold o s strings).1 over.there

  -- its content is there
  content_there : (own : Option Items) → (piece_at o s p).own ≡ own → no_content o s p ≡ None
  content_there None clean =
      clean_content o s p clean kind_is
      ∙ ap (λ (out : Bool). refused_if out (OutOfFile s)) (in_file (home_is_clean (section_at o s)) (section_at o s).home.out (home_clean clean) (not_refused _ _ home))
    where
      in_file : (a b : Bool) → IsTrue a → (a && b) ≡ false → b ≡ false
      in_file true b is both = both
      in_file false b is both = cc
  content_there (Some items) own = own_content o s p items own

  lent : lend_refusal o kinds.Bytes s p ≡ None
  unfolding lend_refusal
  lent =
      let count = lt-leb (piece_count o s) p over.there in
      ap (λ (r : Option ElfError). first_refusal (r ∷ no_data o s p ∷ wrong_kind o kinds.Bytes s p ∷ no_content o s p ∷ [])) (strings_hold o s strings).0
      ∙ ap (λ (t : Bool). first_refusal (refused_if t (NoData p (piece_count o s)) ∷ wrong_kind o kinds.Bytes s p ∷ no_content o s p ∷ [])) count
      ∙ ap (λ (k : Kind). first_refusal (refused_if (not (same_kind k kinds.Bytes)) (WrongKind k) ∷ no_content o s p ∷ [])) kind_is
      ∙ ap (λ (r : Option ElfError). first_refusal (r ∷ [])) (content_there (piece_at o s p).own refl)

  pub begins_is : Begins o s offset p start
  begins_is = record {
    passed = unread_none o s offset (record { at = over.at; bytes = bytes_in o s p }) strings home over.over;
    over = over;
    lent = lent;
    clean = home_clean;
  }

-- ---- The string

-- what is found from there on
module _ (o : Object) (s offset p start : ℕ) (begins : Begins o s offset p start) where
  abbrev from_start : List ℕ
  from_start = drop start (bytes_in o s p)

  abbrev answer_of : List ℕ → Bool → Result (List ℕ) ElfError
  answer_of l ended = answered (first_refusal (None ∷ refused_if (not ended) (Unended offset) ∷ [])) (take_while (λ b. not (b == 0)) l)

  by_ended : (l : List ℕ) (ended : Bool) → answer_of l ended ≡ or_refused (if ended then Some (take_while (λ b. not (b == 0)) l) else None) (Unended offset)
  by_ended l true = refl
  by_ended l false = refl

  pub string_is : string_answer o s offset ≡ or_refused (string_front from_start) (Unended offset)
  unfolding string_answer string_refusal string_front string_at
  string_is =
      ap (λ (r : Option ElfError). answered (first_refusal (r ∷ unended o s offset ∷ [])) (string_in o s offset)) begins.passed
      ∙ ap (λ (x : Option Block). answered (first_refusal (None ∷ (elim x [ None ↦ None | Some b ↦ refused_if (not (has_nul (bytes_from b offset))) (Unended offset) ]) ∷ []))
      (elim x [ None ↦ [] | Some b ↦ string_at b.bytes (offset - b.at) ])) begins.over.over
      ∙ ap (λ (n : ℕ). answer_of (drop n (bytes_in o s p)) (has_nul (drop n (bytes_in o s p)))) begins.over.distance
      ∙ by_ended from_start (has_nul from_start)

-- ---- In a home

-- the string in a home, by its bytes up to their last NUL
pub home_string_is : (o : Object) (s offset p start : ℕ) (front : List ℕ)
    → (piece_at o s p).own ≡ None → IsEndedFront (section_at o s).raw front
    → or_refused (string_front (drop start front)) (Unended offset)
    ≡ or_refused (string_front (drop start (bytes_in o s p))) (Unended offset)
home_string_is o s offset p start front clean ended =
    ap (λ (found : Option (List ℕ)). or_refused found (Unended offset))
    (front_strings (section_at o s).raw front ended start
    ∙ ap (λ (l : List ℕ). string_front (drop start l)) (sym (clean_file o s p clean)))

-- The home of a section of strings: how many bytes it has, and where it is out of the file.
use Rattle.std.proofs.Common.{◌≡◌, ℕ, ◌<◌, Bool, true, false, not, ◌&&◌, List, [], ◌∷◌, length, get_or, Option, Some, None, Result, Ok, Err, is_some, refl, sym, ap, ◌∙◌, arith}
use Rattle.std.specs.Prelude.{slice_get, is_none}
use Rattle.std.proofs.Math.Bool.{and-false}
use Rattle.std.proofs.lemmas.Bool.{lt-leb}
use Rattle.elf_types.specs.declared.errors.ElfError.{ElfError}
use Rattle.elf_types.specs.declared.errors.ElfError.TheVariants.{OutOfFile, NoData}
use Rattle.elf_types.specs.Answers.{answered, refused_if, first_refusal}
use Rattle.elf_descriptor.specs.elf_xlate.declared.content.Items.{Items}
use Rattle.elf_descriptor.specs.elf_object.Object.{Object, Piece, section_at, piece_at, home_piece, home_is_clean}
use Rattle.elf_descriptor.specs.elf_object.Answers.{no_section, no_data, piece_count, piece_refusal}
use Rattle.elf_descriptor.specs.elf_object.Valid.{IsObject, OthersOwn}
use Rattle.elf_descriptor.proofs.law_object.KeepLaws.{section_at_is}
use Rattle.gelf_view.specs.Strings.{home_missing}

pub others_own : (o : Object) (s : ℕ) → IsObject o → OthersOwn (section_at o s).pieces
others_own o s ok = (section_at_is o s ok).others

-- a piece below the count is there
pub below_count : (o : Object) (s p : ℕ) → no_section o s ≡ None → p < piece_count o s → piece_refusal o s p ≡ None
unfolding piece_refusal
below_count o s p section below =
    ap (λ (r : Option ElfError). first_refusal (r ∷ no_data o s p ∷ [])) section
    ∙ ap (λ (t : Bool). first_refusal (refused_if t (NoData p (piece_count o s)) ∷ [])) (lt-leb (piece_count o s) p below)

-- whether the home piece is clean, by the first piece
clean_by : (pieces : List Piece) → 0 < length pieces → (elim (slice_get pieces 0) [ None ↦ false | Some p ↦ is_none p.own ]) ≡ is_none (get_or pieces 0 home_piece).own
clean_by [] some = absurd (omega arith)
clean_by (first ∷ rest) some = refl

clean_none : (pieces : List Piece) → length pieces ≡ 0 → (elim (slice_get pieces 0) [ None ↦ false | Some p ↦ is_none p.own ]) ≡ false
clean_none [] none = refl
clean_none (first ∷ rest) none = absurd (omega arith)

not_none : (own : Option Items) (t : Bool) → is_some own ≡ t → is_none own ≡ not t
not_none None t is = ap not is
not_none (Some items) t is = ap not is

module _ (o : Object) (s : ℕ) where
  home_first : 0 < piece_count o s → home_is_clean (section_at o s) ≡ is_none (piece_at o s 0).own
  unfolding home_is_clean piece_at piece_count
  home_first some = clean_by (section_at o s).pieces some

  home_absent : piece_count o s ≡ 0 → home_is_clean (section_at o s) ≡ false
  unfolding home_is_clean piece_count
  home_absent none = clean_none (section_at o s).pieces none

  abbrev answer_by : Bool → Bool → ℕ → Result ℕ ElfError
  answer_by clean out n = answered (refused_if (clean && out) (OutOfFile s)) n

  -- a home in the file has as many bytes as it is long
  pub home_inside : (len : ℕ) → IsObject o → (section_at o s).home.out ≡ false → len ≡ (section_at o s).home.len → Ok len ≡ answered (home_missing o s) (length (section_at o s).raw)
  home_inside len ok inside is =
      let home = (section_at_is o s ok).home in
      sym (ap (λ (out : Bool). answer_by (home_is_clean (section_at o s)) out (length (section_at o s).raw)) inside
      ∙ ap (λ (t : Bool). answered (refused_if t (OutOfFile s)) (length (section_at o s).raw)) (and-false (home_is_clean (section_at o s)))
      ∙ ap Ok (home.inside inside ∙ sym is))

  -- of one that is out of the file none is read
  home_unread : IsObject o → (section_at o s).home.out ≡ true → home_is_clean (section_at o s) ≡ false → Ok 0 ≡ answered (home_missing o s) (length (section_at o s).raw)
  home_unread ok outside unclean =
      let home = (section_at_is o s ok).home in
      sym (ap (λ (clean : Bool). answer_by clean (section_at o s).home.out (length (section_at o s).raw)) unclean
      ∙ ap Ok (ap length (home.outside outside)))

  pub home_of_none : IsObject o → (section_at o s).home.out ≡ true → piece_count o s ≡ 0 → Ok 0 ≡ answered (home_missing o s) (length (section_at o s).raw)
  home_of_none ok outside none = home_unread ok outside (home_absent none)

  pub home_of_own : IsObject o → (section_at o s).home.out ≡ true → 0 < piece_count o s → is_some (piece_at o s 0).own ≡ true → Ok 0 ≡ answered (home_missing o s) (length (section_at o s).raw)
  home_of_own ok outside some own = home_unread ok outside (home_first some ∙ not_none (piece_at o s 0).own true own)

  pub home_refused : (section_at o s).home.out ≡ true → 0 < piece_count o s → is_some (piece_at o s 0).own ≡ false → Err (OutOfFile s) ≡ answered (home_missing o s) (length (section_at o s).raw)
  home_refused outside some clean =
      sym (ap (λ (out : Bool). answer_by (home_is_clean (section_at o s)) out (length (section_at o s).raw)) outside
      ∙ ap (λ (t : Bool). answer_by t true (length (section_at o s).raw)) (home_first some ∙ not_none (piece_at o s 0).own false clean))

-- What is known of an object that an update writes: its values fit, and the homes that it hands on
-- are in the file.
use Rattle.std.proofs.Common.{◌≡◌, ℕ, ◌<◌, Bool, true, false, not, ◌&&◌, [], ◌∷◌, length, map, get_or, Option, Some, None, refl, sym, ap, ◌∙◌}
use Rattle.std.specs.Prelude.{if◌then◌else◌}
use Rattle.std.specs.List.{position, enumerate_from}
use Rattle.std.specs.Option.{option_map}
use Rattle.std.proofs.lemmas.List.{get_or_default}
use Rattle.elf_types.specs.declared.records.Part.TheVariants as part
use Rattle.elf_types.specs.declared.errors.ElfError.{ElfError}
use Rattle.elf_types.specs.declared.errors.ElfError.TheVariants.{Unfit, OutOfFile}
use Rattle.elf_types.specs.Answers.{first_refusal, refused_if}
use Rattle.elf_update_plan.specs.elf_xlate.declared.content.Items.{Items}
use Rattle.elf_update_plan.specs.elf_xlate.Headers.{phdr_fits}
use Rattle.elf_update_plan.specs.elf_xlate.Translation.{first_unfit}
use Rattle.elf_update_plan.proofs.elf_xlate.Pieces.{each_passes}
use Rattle.elf_update_plan.specs.elf_object.Object.{Object, Section, section_at, absent_section, home_piece, no_phdr, has_file_bytes, home_is_clean}
use Rattle.elf_update_plan.specs.elf_object.Refusal.{too_many, unfit_segment, unfit_in_piece, unfit_in_section, unfit_item, missing_in_section, missing_home, content_refusal}
use Rattle.elf_update_plan.proofs.law_object.PlacedLaws.{update_passes}
use Rattle.elf_update_plan.specs.law_object.Writing.Ready.{IsReady}
use Rattle.elf_update_plan.proofs.RowLaws.{row_passed}

-- none of four refusals came
record NonePassed (a b c d : Option ElfError) : Type 0 where
  pub second : b ≡ None
  pub third : c ≡ None
  pub fourth : d ≡ None

all_passed : (a b c d : Option ElfError) → first_refusal (a ∷ b ∷ c ∷ d ∷ []) ≡ None → NonePassed a b c d
all_passed None None None None h = record { second = refl; third = refl; fourth = refl }
all_passed (Some e) b c d h = cc
all_passed None (Some e) c d h = cc
all_passed None None (Some e) d h = cc
all_passed None None None (Some e) h = cc

contents : (o : Object) → IsReady o → NonePassed (too_many o) (unfit_segment o) (unfit_item o) (missing_home o)
unfolding content_refusal
contents o ready =
    all_passed (too_many o) (unfit_segment o) (unfit_item o) (missing_home o)
    (update_passes o ready.dirty ready.passed).0

no_position : (part : ℕ → ElfError) (r : Option ℕ) → option_map part r ≡ None → r ≡ None
no_position part None h = refl
no_position part (Some n) h = cc

-- each program header fits
pub phdr_fits_at : (o : Object) (i : ℕ) → IsReady o → i < length o.phdrs
    → phdr_fits o.header.class (get_or o.phdrs i no_phdr) ≡ true
unfolding unfit_segment
phdr_fits_at o i ready there =
    each_passes (phdr_fits o.header.class) o.phdrs i (get_or o.phdrs i no_phdr)
    (no_position (Unfit part.Segments) (position (λ p. not (phdr_fits o.header.class p)) o.phdrs)
    (contents o ready).second) there
    (get_or_default o.phdrs i no_phdr (get_or o.phdrs i no_phdr) there)

-- the items of each own piece that is written fit
pub own_fits : (o : Object) (s p : ℕ) (items : Items) → IsReady o → s < length o.sections
    → has_file_bytes s (section_at o s) ≡ true
    → p < length (section_at o s).pieces → (get_or (section_at o s).pieces p home_piece).own ≡ Some items
    → first_unfit o.header.class items ≡ None
unfolding unfit_item unfit_in_section unfit_in_piece section_at
own_fits o s p items ready there filled inside own =
    let c : Section = get_or o.sections s absent_section in
    let rows = row_passed (unfit_in_section o.header.class) absent_section o.sections s
    (contents o ready).third there in
    let pieces : first_refusal (map (λ row. unfit_in_piece o.header.class s row.0 row.1)
    (enumerate_from 0 (get_or o.sections s absent_section).pieces)) ≡ None =
    sym (ap (λ (b : Bool). if b then first_refusal
    (map (λ row. unfit_in_piece o.header.class s row.0 row.1)
    (enumerate_from 0 (get_or o.sections s absent_section).pieces)) else None) filled) ∙ rows in
    let one = row_passed (unfit_in_piece o.header.class s) home_piece
    (get_or o.sections s absent_section).pieces p pieces inside in
    no_position (Unfit (part.Piece s p)) (first_unfit o.header.class items)
    (sym (ap (λ (r : Option Items). elim (r) [
      | None ↦ None
      | Some it ↦ option_map
          (Unfit (part.Piece s p)) (first_unfit o.header.class it)
    ]) own) ∙ one)

missing_false : (a b c : Bool) (e : ElfError) → refused_if (a && b && c) e ≡ None → a ≡ true → b ≡ true → c ≡ false
missing_false true true false e h x y = refl
missing_false true true true e h x y = cc
missing_false true false c e h x y = cc
missing_false false b c e h x y = cc

-- a home that is handed on is in the file
pub home_in_file : (o : Object) (s : ℕ) → IsReady o → s < length o.sections → has_file_bytes s (section_at o s) ≡ true
    → home_is_clean (section_at o s) ≡ true → (section_at o s).home.out ≡ false
unfolding missing_home missing_in_section section_at
home_in_file o s ready there filled clean =
    missing_false (has_file_bytes s (get_or o.sections s absent_section))
    (home_is_clean (get_or o.sections s absent_section))
    (get_or o.sections s absent_section).home.out (OutOfFile s)
    (row_passed missing_in_section absent_section o.sections s (contents o ready).fourth there) filled clean

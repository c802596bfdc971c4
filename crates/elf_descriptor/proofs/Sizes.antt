-- How long a section's data is, as the plain object says it.
use Rattle.std.proofs.Common.{◌≡◌, ◌∙◌, ℕ, ◌-◌, ◌^◌, ◌<◌, Bool, true, false, List, length, Option, refl, sym, ap}
use Rattle.std.specs.Prelude.{min, nat_lt, if◌then◌else◌}
use Rattle.std.proofs.lemmas.Bool.{ltb-true, ltb-false}
use Rattle.elf_types.specs.declared.errors.ElfError.{ElfError}
use Rattle.elf_types.specs.Answers.{answered}
use Rattle.section_table.specs.elf_object.Object.{Section}
use Rattle.section_table.specs.elf_object.Answers.{no_section}
use Rattle.section_table.specs.elf_object.Joined.{pieces_end}
use Rattle.section_table.specs.section_data.Sizes.{home_size, data_size}
use Rattle.section_table.proofs.section_data.Sizes.{data_size_is}
use Rattle.elf_descriptor.specs.declared.body.Body.{Body}
use Rattle.elf_descriptor.specs.Views.{object_of, section_of, raw_of, scn_at, no_scn}
use Rattle.elf_descriptor.specs.Sound.{IsElf}
use Rattle.elf_descriptor.proofs.Objects.{section_is, no_section_is}
use Rattle.elf_descriptor.proofs.PieceCalls.{section_sound}
use Rattle.elf_descriptor.proofs.RawCalls.{scn_missing}

-- the clean home piece is as long as its home, where that is in the file
pub home_length : (image : Option (List ℕ)) (size : ℕ) (b : Body) (s : ℕ) → IsElf image size b
    → s < length b.sections → length (raw_of image (scn_at b s).cell) ≡ home_size (scn_at b s).cell
unfolding section_of
home_length image size b s is there = by_out (scn_at b s).cell.home.out refl
  where
    by_out : (out : Bool) → (scn_at b s).cell.home.out ≡ out → length (raw_of image (scn_at b s).cell) ≡ (if out then 0 else (scn_at b s).cell.home.len)
    by_out true e = ap length ((section_sound image size b s is there).home.outside e)
    by_out false e = (section_sound image size b s is there).home.inside e

pub size_is : (image : Option (List ℕ)) (size : ℕ) (b : Body) (s : ℕ) → IsElf image size b
    → s < length b.sections
    → pieces_end (object_of image size b) s ≡ data_size b.header.class (scn_at b s).cell
unfolding object_of section_of
size_is image size b s is there =
    data_size_is (object_of image size b) s (scn_at b s).cell
    (ap (λ (c : Section). c.pieces) (section_is image size b s))
    (ap (λ (c : Section). length c.raw) (section_is image size b s) ∙ home_length image size b s is there)

-- the answer of the call
pub size_answer : (image : Option (List ℕ)) (size : ℕ) (b : Body) (s : ℕ) → IsElf image size b
    → answered {E = ElfError} (no_scn b s) (min (data_size b.header.class (scn_at b s).cell) (2 ^ 64 - 1)) ≡ answered (no_section (object_of image size b) s) (min (pieces_end (object_of image size b) s) (2 ^ 64 - 1))
size_answer image size b s is =
    by_range (nat_lt s (length b.sections)) refl
    ∙ ap (λ (r : Option ElfError). answered r (min (pieces_end (object_of image size b) s) (2 ^ 64 - 1))) (sym (no_section_is image size b s))
  where
    by_range : (t : Bool) → nat_lt s (length b.sections) ≡ t
        → answered (no_scn b s) (min (data_size b.header.class (scn_at b s).cell) (2 ^ 64 - 1)) ≡ answered (no_scn b s) (min (pieces_end (object_of image size b) s) (2 ^ 64 - 1))
    by_range true e =
        ap (λ (n : ℕ). answered (no_scn b s) (min n (2 ^ 64 - 1)))
        (sym (size_is image size b s is (ltb-true s (length b.sections) e)))
    by_range false e =
        let missing = scn_missing b s (ltb-false s (length b.sections) e) in
        ap (λ (r : Option ElfError). answered r (min (data_size b.header.class (scn_at b s).cell) (2 ^ 64 - 1))) missing
        ∙ sym (ap (λ (r : Option ElfError). answered r (min (pieces_end (object_of image size b) s) (2 ^ 64 - 1))) missing)

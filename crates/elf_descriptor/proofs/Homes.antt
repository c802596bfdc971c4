-- Whether a home lies in the image, as the plain object says it.
use Rattle.std.proofs.Common.{◌≡◌, ℕ, List, Option, ap, ◌∙◌}
use Rattle.elf_types.specs.declared.errors.ElfError.{ElfError}
use Rattle.elf_types.specs.Answers.{answered}
use Rattle.section_table.specs.elf_object.Object.{Section, section_at}
use Rattle.elf_descriptor.specs.declared.body.Body.{Body}
use Rattle.elf_descriptor.specs.Views.{object_of, section_of, scn_at, no_scn}
use Rattle.elf_descriptor.specs.Homes.{out_answer}
use Rattle.elf_descriptor.proofs.Objects.{no_section_is, section_is}

pub out_is : (image : Option (List ℕ)) (size : ℕ) (b : Body) (s : ℕ) → out_answer (object_of image size b) s ≡ answered (no_scn b s) (scn_at b s).cell.home.out
unfolding out_answer section_of
out_is image size b s =
    ap (λ (r : Option ElfError). answered r (section_at (object_of image size b) s).home.out) (no_section_is image size b s)
    ∙ ap (λ (c : Section). answered (no_scn b s) c.home.out) (section_is image size b s)

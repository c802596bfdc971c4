-- Whether a home is out of the file, of a section that is there.
use Rattle.std.proofs.Common.{◌≡◌, ◌<◌, ℕ, Bool, length, Option, Result, Ok, Err, sym, ap, ◌∙◌}
use Rattle.elf_types.specs.declared.errors.ElfError.{ElfError}
use Rattle.elf_types.specs.Answers.{answered}
use Rattle.rebuild_image.specs.elf_object.Object.{Object, section_at}
use Rattle.rebuild_image.specs.elf_object.Answers.{no_section}
use Rattle.rebuild_image.proofs.elf_object.AnswerLaws.{answered_value}
use Rattle.rebuild_keep.specs.elf_descriptor.Homes.{out_answer}
use Rattle.rebuild_keep.proofs.HomeLaws.{no_section_there}

pub out_value : (o : Object) (s : ℕ) (out : Bool)
    → ◌≡◌ {A = Result Bool ElfError} (Ok out) (out_answer o s) → out ≡ (section_at o s).home.out
unfolding out_answer
out_value o s out is =
    (answered_value (no_section o s) (section_at o s).home.out out (sym is)).1

pub out_never : (o : Object) (s : ℕ) (e : ElfError) → s < length o.sections
    → ◌≡◌ {A = Result Bool ElfError} (Err e) (out_answer o s) → ⊥
unfolding out_answer
out_never o s e there is =
    let clash : ◌≡◌ {A = Result Bool ElfError} (Err e) (Ok (section_at o s).home.out) =
    is ∙ ap (λ (r : Option ElfError). answered r (section_at o s).home.out)
    (no_section_there o s there) in cc

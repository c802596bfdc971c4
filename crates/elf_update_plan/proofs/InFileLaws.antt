-- Whether the image holds bytes of a section that need not be there.
use Rattle.std.proofs.Common.{◌≡◌, ℕ, ◌<◌, ◌≤◌, Bool, true, false, not, ◌&&◌, length, refl, sym, ap, ◌∙◌, ⊎_elim}
use Rattle.std.specs.Prelude.{◌==◌}
use Rattle.std.proofs.lemmas.Bool.{cases_lt}
use Rattle.elf_descriptor.specs.elf_ident.Front.{zero_shdr}
use Rattle.elf_descriptor.specs.elf_object.Object.{Object, section_at, absent_section, has_file_bytes}
use Rattle.elf_descriptor.proofs.law_object.StandLaws.{section_at-past}

none_absent : (s : ℕ) → has_file_bytes s absent_section ≡ false
unfolding has_file_bytes zero_shdr
none_absent s = by_test (s == 0)
  where
    by_test : (b : Bool) → (not b && false) ≡ false
    by_test true = refl
    by_test false = refl

pub none_past : (o : Object) (s : ℕ) → length o.sections ≤ s
    → has_file_bytes s (section_at o s) ≡ false
none_past o s past = ap (has_file_bytes s) (section_at-past o s past) ∙ none_absent s

pub inside_of : (o : Object) (s : ℕ) → has_file_bytes s (section_at o s) ≡ true
    → s < length o.sections
inside_of o s e =
    ⊎_elim (λ inside. inside)
    (λ past. let clash : true ≡ false = sym e ∙ none_past o s past in absurd cc)
    (cases_lt s (length o.sections))

-- The headers of sections, by the calls that answer them.
use Rattle.std.proofs.Common.{◌≡◌, ℕ, Bool, true, false, length, Result, Ok, Err, refl, sym, ap, ◌∙◌}
use Rattle.std.specs.Prelude.{nat_le}
use Rattle.std.proofs.lemmas.Bool.{leb-true}
use Rattle.std.proofs.Math.ListN.{get_or-eq_default}
use Rattle.elf_types.specs.declared.records.Shdr.{Shdr}
use Rattle.elf_types.specs.declared.errors.ElfError.{ElfError}
use Rattle.elf_types.specs.declared.errors.ElfError.TheVariants.{NoSection}
use Rattle.elf_types.specs.Answers.{answered, refused_if}
use Rattle.tool_objects.specs.elf_ident.Front.{zero_shdr}
use Rattle.tool_objects.specs.elf_object.Object.{Object, Section, section_at, absent_section}
use Rattle.tool_objects.specs.elf_object.Calls.{shdr_answer}
use Rattle.tool_objects.specs.elf_object.Sections.{header_at}

-- a section whose header is refused is not there,
pub refused_header : (o : Object) (s : ℕ) (e : ElfError) → Err e ≡ shdr_answer o s → nat_le (length o.sections) s ≡ true
unfolding shdr_answer
refused_header o s e is = by_test (nat_le (length o.sections) s) refl
  where
    by_test : (b : Bool) → nat_le (length o.sections) s ≡ b → b ≡ true
    by_test true t = refl
    by_test false t =
        let none : ◌≡◌ {A = Result Shdr ElfError} (Err e) (Ok (section_at o s).header) =
        is ∙ ap (λ (b : Bool). answered (refused_if b (NoSection s (length o.sections))) (section_at o s).header) t in
        cc

-- and its header counts as one of zeros
pub no_header : (o : Object) (s : ℕ) (e : ElfError) → Err e ≡ shdr_answer o s → zero_shdr ≡ header_at o s
unfolding section_at
no_header o s e is =
    ap (λ (c : Section). c.header) (sym (get_or-eq_default o.sections absent_section {n = s} (leb-true (length o.sections) s (refused_header o s e is))))

-- one that is answered is that of a section that is there
pub answered_header : (o : Object) (s : ℕ) (h : Shdr) → Ok h ≡ shdr_answer o s → (nat_le (length o.sections) s ≡ false) × (h ≡ header_at o s)
unfolding shdr_answer
answered_header o s h is = by_test (nat_le (length o.sections) s) refl
  where
    by_test : (b : Bool) → nat_le (length o.sections) s ≡ b → (b ≡ false) × (h ≡ header_at o s)
    by_test true t =
        let none : ◌≡◌ {A = Result Shdr ElfError} (Ok h) (Err (NoSection s (length o.sections))) =
        is ∙ ap (λ (b : Bool). answered (refused_if b (NoSection s (length o.sections))) (section_at o s).header) t in
        cc
    by_test false t =
        let same : ◌≡◌ {A = Result Shdr ElfError} (Ok h) (Ok (section_at o s).header) =
        is ∙ ap (λ (b : Bool). answered (refused_if b (NoSection s (length o.sections))) (section_at o s).header) t in
        (refl, cc)

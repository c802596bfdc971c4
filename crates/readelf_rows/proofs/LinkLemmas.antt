-- The strings that stand in linked sections.
use Rattle.std.proofs.Common.{◌≡◌, ℕ, Bool, true, false, length, Some, Err, refl, sym, ap}
use Rattle.std.specs.Prelude.{nat_le}
use Rattle.std.proofs.lemmas.Bool.{leb-true}
use Rattle.std.proofs.lemmas.List.{get_or_past}
use Rattle.elf_types.specs.declared.errors.ElfError.{ElfError}
use Rattle.elf_types.specs.declared.errors.ElfError.TheVariants.{NoSection}
use Rattle.elf_types.specs.Answers.{refused_if}
use Rattle.tool_objects.specs.elf_ident.Front.{zero_shdr}
use Rattle.tool_objects.specs.elf_object.Object.{Object, Section, section_at, absent_section}
use Rattle.tool_objects.specs.elf_object.Answers.{no_section}
use Rattle.tool_objects.specs.elf_object.Calls.{shdr_answer}
use Rattle.tool_objects.proofs.elf_object.AnswerLaws.{answered_refusal}
use Rattle.tool_objects.specs.elf_object.Strings.{string_answer, readable}
use Rattle.readelf_rows.specs.Links.{linked_string}

pub linked_is : (o : Object) (s offset link : ℕ) → link ≡ (section_at o s).header.link → linked_string o s offset ≡ readable (string_answer o link offset)
unfolding linked_string
linked_is o s offset link linked = ap (λ (n : ℕ). readable (string_answer o n offset)) (sym linked)

-- the same string, by an offset that is the same
pub string_is : (o : Object) (names at offset : ℕ) → at ≡ offset → readable (string_answer o names offset) ≡ readable (string_answer o names at)
string_is o names at offset is = ap (λ (n : ℕ). readable (string_answer o names n)) (sym is)

-- a section that is not there links to 0
pub absent_link : (o : Object) (s : ℕ) (e : ElfError) → shdr_answer o s ≡ Err e → 0 ≡ (section_at o s).header.link
unfolding shdr_answer section_at zero_shdr
absent_link o s e is = by_test (nat_le (length o.sections) s) refl (answered_refusal (no_section o s) (section_at o s).header e is)
  where
    by_test : (t : Bool) → nat_le (length o.sections) s ≡ t → refused_if t (NoSection s (length o.sections)) ≡ Some e → 0 ≡ (section_at o s).header.link
    by_test true past is = ap (λ (c : Section). c.header.link) (sym (get_or_past o.sections s absent_section (leb-true (length o.sections) s past)))
    by_test false past is = cc

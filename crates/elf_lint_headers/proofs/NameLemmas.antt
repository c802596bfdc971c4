-- Names of sections, by where the names end.
use Rattle.std.proofs.Common.{◌≡◌, ℕ, ◌&&◌, ◌||◌, not, Bool, true, false, List, length, Option, Some, None, Result, Ok, Err, IfOk, IfSome, refl, sym, ap, ◌∙◌, arith}
use Rattle.std.specs.Prelude.{◌==◌, is_none, if◌then◌else◌}
use Rattle.std.proofs.lemmas.Bool.{ne_eqb}
use Rattle.elf_types.specs.declared.constants.TheConstants.{SHN_UNDEF}
use Rattle.tool_objects.specs.elf_object.Object.{Object}
use Rattle.tool_objects.specs.elf_object.Due.{all_sections}
use Rattle.tool_objects.specs.elf_object.Strings.{string_answer, readable, section_name}
use Rattle.tool_objects.specs.elf_object.Sections.{header_at}
use Rattle.tool_objects.specs.AtHand.Strings.{EndsAt}
use Rattle.tool_objects.proofs.at_hand.Ends.{unreadable_test}
use Rattle.elf_lint_findings.specs.Findings.{at_sections}
use Rattle.elf_lint_findings.specs.Looking.{is_no_section, is_string_table}
use Rattle.elf_lint_headers.specs.Names.{lacks_name_table, has_unreadable_name, has_name_past, HasSectionNames}

-- where there are sections, a name table that is not lacking has a number
named_by : (none undef absent other : Bool) → none ≡ false
    → (not none && (undef || absent || other)) ≡ false → undef ≡ false
named_by true undef absent other some lacks = cc
named_by false true absent other some lacks = cc
named_by false false absent other some lacks = refl

module _ (o : Object) (has : HasSectionNames o) where
  not_undef : (o.header.shstrndx == SHN_UNDEF) ≡ false
  unfolding lacks_name_table
  not_undef =
      named_by (length o.sections == 0) (o.header.shstrndx == SHN_UNDEF)
      (is_no_section o o.header.shstrndx)
      (not (is_string_table (header_at o o.header.shstrndx)))
      (ne_eqb (length o.sections) 0 (λ none. absurd (omega (arith, has.some, none))))
      has.table

  module _ (end : ℕ) (ends : EndsAt o o.header.shstrndx end) where
    pub name_past : (s : ℕ) → has_name_past end o s ≡ has_unreadable_name o s
    unfolding has_unreadable_name section_name
    name_past s =
        let at = (header_at o s).name in
        let name = readable (string_answer o o.header.shstrndx at) in
        ap (λ (b : Bool). not (s == 0) && b) (sym (unreadable_test o o.header.shstrndx end ends at))
        ∙ ap
        (λ (b : Bool). not (s == 0) && is_none (if b then None else name)) (sym not_undef)
        ∙ ap (λ (b : Bool). not (s == 0) && (not b && is_none (section_name o s))) (sym has.table)

    pub names_found : (number : ℕ) (text : List ℕ)
        → at_sections number text (has_unreadable_name o) (all_sections o)
        ≡ at_sections number text (has_name_past end o) (all_sections o)
    names_found number text =
        λ j. at_sections number text (λ s. sym (name_past s) j) (all_sections o)

-- what holds in any case
pub in_any_case : {E : Type 0} (P : Type 0) (r : Result (Option ℕ) E) → P
    → IfOk r (λ end. IfSome end (λ n. P))
in_any_case P (Ok None) p = tt
in_any_case P (Ok (Some n)) p = p
in_any_case P (Err e) p = tt

-- The rule 28: the dynamic section (gABI chapter 5, "Dynamic Section").
use Rattle.std.specs.Prelude.{ℕ, ℤ, pos, negsuc, ◌==◌, ◌&&◌, not, Bool, false, Option, Some, None, codes}
use Rattle.std.specs.List.{list_any}
use Rattle.elf_types.specs.declared.constants.TheConstants.{SHT_DYNAMIC}
use Rattle.elf_types.specs.declared.records.Dyn.{Dyn}
use Rattle.elf_lint_findings.specs.elf_object.Object.{Object}
use Rattle.elf_lint_findings.specs.elf_object.Due.{all_sections}
use Rattle.elf_lint_findings.specs.elf_object.Sections.{header_at}
use Rattle.elf_lint_findings.specs.Findings.{Rule, at_sections}
use Rattle.elf_lint_findings.specs.Looking.{is_plain, dyns}

-- d_tag is DT_NULL, which is 0: the entry is the last one
abbrev pub is_null_tag : ℤ → Bool
is_null_tag (pos n) = n == 0
is_null_tag (negsuc n) = false

abbrev pub is_dynamic_end : Option Dyn → Bool
is_dynamic_end (Some x) = is_null_tag x.tag
is_dynamic_end None = false

-- ---- 28: no entry ends the section

unfoldable pub dynamic_lacks_end : Object → ℕ → Bool
dynamic_lacks_end o s =
    is_plain o s
    && ((header_at o s).stype == SHT_DYNAMIC
    && not (list_any (λ (x : Dyn). is_null_tag x.tag) (dyns o s)))

unfoldable pub dynamic_without_end : Rule
dynamic_without_end o = at_sections 28 (codes "no end") (dynamic_lacks_end o) (all_sections o)

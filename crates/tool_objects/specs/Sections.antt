-- The sections of an object, by number and by name (gABI chapter 4, "Sections", sh_name).
use Rattle.std.specs.Prelude.{◌++◌, ℕ, List, filter, Bool, true, false, Option, Some, None, codes}
use Rattle.gelf_view.specs.elf_object.Object.{Object}
use Rattle.gelf_view.specs.elf_object.Due.{all_sections}
use Rattle.gelf_view.specs.elf_object.Strings.{section_name, is_name}
use Rattle.tool_output.specs.Reports.{Report, no_report}

-- a name as it is shown: in square brackets, or that there is none
unfoldable pub bracketed : Option (List ℕ) → List ℕ
bracketed (Some name) = codes "[" ++ name ++ codes "]"
bracketed None = codes "<none>"

-- the numbers of the sections of a name, in their order
unfoldable pub sections_named : List ℕ → Object → List ℕ
sections_named name o = filter (λ s. is_name name (section_name o s)) (all_sections o)

-- a report that is given under a condition
abbrev pub report_if : Bool → Report → Report
report_if true report = report
report_if false report = no_report

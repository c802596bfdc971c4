-- The entries of a section of version definitions or needs, each with its list of names.
use Rattle.std.specs.Prelude.{ℕ, List, [], ◌∷◌, length, Option, Some, None, if◌then◌else◌}
use Rattle.elf_object.specs.Object.{Object}
use Rattle.tool_objects.specs.gelf_view.Calls.{first_version_place}
use Rattle.tool_objects.specs.gelf_view.Chains.{Chain, ended}
use Rattle.tool_output.specs.Names.{Name}
use Rattle.tool_output.specs.Reports.{Report, no_report, shown_report, joined_reports}
use Rattle.readelf_chains.specs.Chains.{bad_report, chain_report, section_bytes}

-- one report after another, up to the first that refuses something; behind the last what ends them
unfoldable pub up_to_refusal : {A : Type 0} → (A → Report) → List A → Report → Report
up_to_refusal of [] end = end
up_to_refusal of (x ∷ xs) end =
    joined_reports (of x) (if (of x).refused then no_report else up_to_refusal of xs end)

-- what is said of each entry of a chain, where one whose names go bad is the last
unfoldable pub entries_report : {A : Type 0} → Name → ℕ → (A → Report) → Chain A → Report
entries_report name s of chain = up_to_refusal of chain.found (bad_report name s chain.bad)

-- the entries of a section: an empty one has none
abbrev pub entries_by : {A : Type 0} → Option ℕ → (ℕ → Chain A) → Chain A
entries_by None from = ended
entries_by (Some at) from = from at

abbrev pub entries_of : {A : Type 0} → Object → ℕ → (ℕ → Chain A) → Chain A
entries_of o s from = entries_by (first_version_place (length (section_bytes o s))) from

-- the line of an entry, and one for each of its names
unfoldable pub entry_report : {B : Type 0} → Name → ℕ → List ℕ → (B → List ℕ) → Chain B → Report
entry_report name s line of names =
    joined_reports (shown_report line) (chain_report name s (λ x. shown_report (of x)) names)

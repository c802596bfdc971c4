-- Sections whose bytes hold records in a chain: a title, and lines for each record. The part `n` is
-- such, and the version definitions and needs of `V`. A chain that goes bad has its message behind
-- the lines of what stands before.
use Rattle.std.specs.Prelude.{◌≡◌, ◌++◌, ◌<◌, ℕ, List, length, Option, Some, None, codes}
use Rattle.elf_types.specs.declared.records.Kind.TheVariants as kinds
use Rattle.elf_types.specs.declared.errors.ElfError.{ElfError}
use Rattle.elf_types.specs.Text.{error_text}
use Rattle.elf_object.specs.Object.{Object}
use Rattle.elf_object.specs.Answers.{bytes_of, items_at, lend_refusal}
use Rattle.elf_object.specs.Strings.{section_name}
use Rattle.tool_objects.specs.gelf_view.Calls.{first_version_place}
use Rattle.tool_objects.specs.gelf_view.Chains.{Chain}
use Rattle.tool_output.specs.Names.{Name}
use Rattle.tool_output.specs.Messages.{section_message}
use Rattle.tool_output.specs.Reports.{Report, no_report, shown_report, joined_reports, reports_of}
use Rattle.readelf_rows.specs.Data.{readelf_refusal, if_told, data_title}

-- ---- The records

-- the message of what is found bad in a section
abbrev pub bad_report : Name → ℕ → Option ElfError → Report
bad_report name s None = no_report
bad_report name s (Some e) = readelf_refusal name (section_message s (error_text e))

-- what is said of each record of a chain, and then that message
unfoldable pub chain_report : {A : Type 0} → Name → ℕ → (A → Report) → Chain A → Report
chain_report name s of chain =
    joined_reports (reports_of of chain.found) (bad_report name s chain.bad)

-- ---- The section

-- the bytes of a section
abbrev pub section_bytes : Object → ℕ → List ℕ
section_bytes o s = bytes_of (items_at o s 0)

-- the section is there, its bytes can be told, and the first of its records stands at that place;
-- an empty section has none
pub record HasRecords (o : Object) (s : ℕ) (first : Option ℕ) : Type 0 where
  pub section : s < length o.sections
  pub passed : lend_refusal o kinds.Bytes s 0 ≡ None
  pub place : first ≡ first_version_place (length (section_bytes o s))

-- `TITLE S NAME` on a line
unfoldable pub chain_title : List ℕ → ℕ → Option (List ℕ) → List ℕ
chain_title title s name = data_title title s name ++ codes "\n"

-- the title, and what is said of the records
unfoldable pub chain_lines : List ℕ → Object → ℕ → Report → Report
chain_lines title o s records =
    joined_reports (shown_report (chain_title title s (section_name o s))) records

-- those of a section whose bytes can be told, or the message that says why they can not
unfoldable pub bytes_report : List ℕ → Name → Object → ℕ → Report → Report
bytes_report title name o s records =
    if_told name (lend_refusal o kinds.Bytes s 0) (chain_lines title o s records)

-- What elflint finds in an object: findings, each of a rule at a place, and the lines in which it
-- says so.
use Rattle.std.specs.Prelude.{◌++◌, ℕ, List, [], ◌∷◌, flat_map, Bool, true, false, codes, decimal}
use Rattle.std.specs.List.{enumerate_from}
use Rattle.elf_types.specs.declared.records.Phdr.{Phdr}
use Rattle.elf_types.specs.Text.{numbered, numbered_twice}
use Rattle.tool_objects.specs.elf_object.Object.{Object}
use Rattle.tool_objects.specs.tool_output.Names.{Name, shown_name}
use Rattle.tool_objects.specs.tool_output.Reports.{Report, shown_report, found, reports_of}
use Rattle.elf_lint_findings.specs.declared.places.Place.{Place}
use Rattle.elf_lint_findings.specs.declared.places.Place.TheVariants.{Header, File, Segment, Section, Item}

-- ---- Findings

-- the number of the rule, where it finds something, and what
pub record Finding : Type 0 where
  pub number : ℕ
  pub place : Place
  pub text : List ℕ

abbrev pub finding : ℕ → Place → List ℕ → Finding
finding number place text = record { number = number; place = place; text = text }

-- what a rule finds in an object
abbrev pub Rule : Type 0
Rule = Object → List Finding

-- ---- Where a rule looks, with one text for all that it finds

-- the finding, where the test holds
abbrev pub found_if : Bool → Finding → List Finding
found_if true f = f ∷ []
found_if false f = []

-- at the ELF header
abbrev pub at_header : ℕ → List ℕ → Bool → List Finding
at_header number text test = found_if test (finding number Header text)

-- at each program header that passes the test
unfoldable pub at_segments : ℕ → List ℕ → (Phdr → Bool) → List Phdr → List Finding
at_segments number text test segments =
    flat_map
    (λ row. found_if (test row.1) (finding number (Segment row.0) text))
    (enumerate_from 0 segments)

-- at each section that passes, of some by their numbers
unfoldable pub at_sections : ℕ → List ℕ → (ℕ → Bool) → List ℕ → List Finding
at_sections number text test sections =
    flat_map (λ s. found_if (test s) (finding number (Section s) text)) sections

-- at each item of a section that passes, by its index
unfoldable pub at_items : {X : Type 0} → ℕ → List ℕ → ℕ → (ℕ → X → Bool) → List X → List Finding
at_items number text s test items =
    flat_map
    (λ row. found_if (test row.0 row.1) (finding number (Item s row.0) text))
    (enumerate_from 0 items)

-- ---- Lines

-- `header`, `file`, `segment I`, `section S` or `section S item I`
unfoldable pub finding_place_text : Place → List ℕ
finding_place_text Header = codes "header"
finding_place_text File = codes "file"
finding_place_text (Segment i) = numbered (codes "segment ") i []
finding_place_text (Section s) = numbered (codes "section ") s []
finding_place_text (Item s i) = numbered_twice (codes "section ") s (codes " item ") i

-- `FILE: N PLACE`
unfoldable pub finding_start : Name → ℕ → Place → List ℕ
finding_start name number place =
    shown_name name ++ codes ": " ++ decimal number ++ codes " " ++ finding_place_text place

-- `FILE: N PLACE: TEXT`
unfoldable pub finding_line : Name → Finding → List ℕ
finding_line name f =
    finding_start name f.number f.place ++ codes ": " ++ f.text ++ codes "\n"

-- `FILE: no findings`
unfoldable pub no_findings_line : Name → List ℕ
no_findings_line name = shown_name name ++ codes ": no findings\n"

-- ---- Reports

-- a line for each finding; a finding counts as a refusal
unfoldable pub findings_shown : Name → List Finding → Report
findings_shown name findings = reports_of (λ (f : Finding). found (finding_line name f)) findings

-- the lines of all findings, or the one that says that there are none
unfoldable pub findings_report : Name → List Finding → Report
findings_report name [] = shown_report (no_findings_line name)
findings_report name (f ∷ fs) = findings_shown name (f ∷ fs)

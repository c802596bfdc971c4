-- Commands that make files: what such a command gives, and what a step that makes a file does.
use Rattle.std.specs.Prelude.{◌≡◌, ◌⊎◌, ℕ, false, List, [], ◌∷◌, take, Option, Some, None, IfSome, IsTrue, Result, Ok, Err, OnOk, OnErr}
use Rattle.elf_types.specs.declared.errors.ElfError.{ElfError}
use Rattle.elf_types.specs.Text.{error_text}
use Rattle.elf_outside.specs.Counts.{Rose}
use Rattle.elf_outside.specs.Names.{SameOthers}
use Rattle.elf_outside.specs.declared.file_sets.Files.{Ghosts}
use Rattle.tool_output.specs.declared.stops.Stop.{Stop}
use Rattle.tool_output.specs.Names.{file_name}
use Rattle.tool_output.specs.Statuses.{refused_status}
use Rattle.tool_output.specs.Reports.{Report, no_report, shown_report, refusal_report}
use Rattle.tool_output.specs.Steps.{OnRead, OnWrite}
use Rattle.tool_output.specs.Files.{Totals}
use Rattle.tool_output.specs.Outcomes.{FileWrite, Outcome}

-- a file that is made anew
abbrev pub made_file : List ℕ → List ℕ → FileWrite
made_file name bytes = record { name = name; bytes = bytes; in_place = false }

-- ---- What such a command gives: all its files, or why it makes none

-- what is shown where nothing is refused, and the files
pub record Done : Type 0 where
  pub shown : List ℕ
  pub writes : List FileWrite

-- a file alone, with nothing shown
abbrev pub made_file_alone : List ℕ → List ℕ → Done
made_file_alone name bytes = record { shown = []; writes = made_file name bytes ∷ [] }

-- why a command ends: a file, and what is wrong with it
pub record Complaint : Type 0 where
  pub file : List ℕ
  pub text : List ℕ

abbrev pub complaint : List ℕ → List ℕ → Complaint
complaint file text = record { file = file; text = text }

-- a refusal, as one of a file
abbrev pub of_file : {A : Type 0} → List ℕ → Result A ElfError → Result A Complaint
of_file file (Ok x) = Ok x
of_file file (Err e) = Err (complaint file (error_text e))

-- the message of a complaint, where there is one
abbrev pub complaint_report : {A : Type 0} → List ℕ → Result A Complaint → Report
complaint_report command (Ok x) = no_report
complaint_report command (Err c) = refusal_report command (file_name c.file) c.text

-- a report, and the files that are made; no bound on what is asked for or given is promised
abbrev pub outcome_with : Report → List FileWrite → Outcome
outcome_with report writes = record {
  marks = report.marks;
  status = refused_status report.refused;
  writes = writes;
  asks = None;
  gives = None;
}

-- status 1 and one message where something is refused
unfoldable pub written_outcome : List ℕ → Result Done Complaint → Outcome
written_outcome command (Ok done) = outcome_with (shown_report done.shown) done.writes
written_outcome command (Err c) = outcome_with (refusal_report command (file_name c.file) c.text) []

-- ---- A step that makes a file

-- The name holds the image, where one is stated and the set tells its map; where the step stops, it
-- holds what it held or a front of the image. No other name changes. The causes of its stops: of
-- Read a failed read of what the image is read from, which may be open still and counts by itself;
-- of Write a failed write of a file.
pub record MakesFile {F D T : Type 0} (f : Ghosts F D) (name : List ℕ) (image : Option (List ℕ))
    (result : Result T Stop) (faults_old faults_new : ℕ) (old new : F) : Type 0 where
  pub others : SameOthers (f.tells old) (f.named old) (f.tells new) (f.named new) name
  pub made : IsTrue (f.tells old)
      → IfSome image (λ bytes. OnOk result (f.named new name ≡ Some bytes))
  pub left : IsTrue (f.tells old) → IfSome image (λ bytes. OnErr result
      ((f.named new name ≡ f.named old name)
      ⊎ ((n : ℕ) × (f.named new name ≡ Some (take n bytes)))))
  pub totals : Totals f old new
  pub read : OnRead result (Rose faults_old faults_new)
  pub write : OnWrite result (Rose (f.write_faults old) (f.write_faults new))

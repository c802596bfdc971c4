-- What a tool says of a file, and what it says of several.
use Rattle.std.specs.Prelude.{◌≡◌, ◌++◌, ◌||◌, List, [], ◌∷◌, ℕ, map, Bool, true, false, Result, Ok}
use Rattle.elf_outside.specs.declared.sinks.Sink.{Ghosts}
use Rattle.tool_output.specs.declared.stops.Stop.{Stop}
use Rattle.tool_output.specs.declared.outputs.Outputs.{Outputs}
use Rattle.tool_output.specs.declared.outputs.Side.TheVariants.{Out, Error}
use Rattle.tool_output.specs.Marks.{Mark, said}
use Rattle.tool_output.specs.Names.{Name}
use Rattle.tool_output.specs.Messages.{message}
use Rattle.tool_output.specs.Steps.{Performs}

-- what is written, and whether something was refused
pub record Report : Type 0 where
  pub marks : List Mark
  pub refused : Bool

-- a text on standard output
unfoldable pub shown_report : List ℕ → Report
shown_report text = record { marks = said Out text; refused = false }

-- a text on standard output that counts as a refusal: a finding
unfoldable pub found : List ℕ → Report
found text = record { marks = said Out text; refused = true }

-- a message on standard error that refuses nothing
unfoldable pub noted : List ℕ → Name → List ℕ → Report
noted command name text =
    record { marks = said Error (message command name text); refused = false }

-- a file that is refused: a message on standard error
unfoldable pub refusal_report : List ℕ → Name → List ℕ → Report
refusal_report command name text =
    record { marks = said Error (message command name text); refused = true }

-- nothing, and one report after another
unfoldable pub no_report : Report
no_report = record { marks = []; refused = false }

unfoldable pub joined_reports : Report → Report → Report
joined_reports a b = record { marks = a.marks ++ b.marks; refused = a.refused || b.refused }

unfoldable pub all_reports_joined : List Report → Report
all_reports_joined [] = no_report
all_reports_joined (r ∷ rs) = joined_reports r (all_reports_joined rs)

-- the reports on the items of a list, one after another
unfoldable pub reports_of : {X : Type 0} → (X → Report) → List X → Report
reports_of report xs = all_reports_joined (map report xs)

-- a step gives a report: it writes its marks, and answers whether something was refused
abbrev pub Reports : {O E : Type 0} → Ghosts O → Ghosts E → Result Bool Stop
    → Outputs O E → Outputs O E → Report → Type 0
Reports o e result old new report = Performs o e result old new report.marks report.refused

-- A report is under way: what was done of it is given, with `refused` as the answer so far, and the
-- rest is left.
pub record UnderWay {O E : Type 0} (o : Ghosts O) (e : Ghosts E) (refused : Bool)
    (old new : Outputs O E) (whole rest : Report) : Type 0 where
  pub done : Report
  pub given : Reports o e (Ok refused) old new done
  pub left : joined_reports done rest ≡ whole

-- What a step over a set of files does and leaves.
use Rattle.std.specs.Prelude.{◌≡◌, ◌⊎◌, ◌≤◌, ◌<◌, ◌^◌, ◌-◌, ◌+◌, ℕ, List, [], ◌∷◌, Bool, Option, Some, None, IfSome, Result, IsTrue, codes}
use Rattle.elf_outside.specs.Counts.{Rose}
use Rattle.elf_outside.specs.Names.{Map, SameNames}
use Rattle.elf_outside.specs.declared.sinks.Sink.{Ghosts as SinkGhosts}
use Rattle.elf_outside.specs.declared.file_sets.Files.{Ghosts as FilesGhosts}
use Rattle.tool_output.specs.declared.stops.Stop.{Stop}
use Rattle.tool_output.specs.declared.outputs.Outputs.{Outputs}
use Rattle.tool_output.specs.Names.{Name, file_name}
use Rattle.tool_output.specs.Reports.{Report, Reports, refusal_report}
use Rattle.tool_output.specs.Steps.{KeepsSinks, OnRead, OnWrite, SinkRose}

-- ---- What is said of names

-- the report on a name: the one on its bytes, or that it is not there
unfoldable pub report_on : List ℕ → (Name → List ℕ → Report) → Map → List ℕ → Report
report_on command report named file = on_held (named file)
  where
    on_held : Option (List ℕ) → Report
    on_held (Some bytes) = report (file_name file) bytes
    on_held None = refusal_report command (file_name file) (codes "not found")

-- how many bytes are asked for at most to give it, where that is promised
unfoldable pub asks_on : (List ℕ → Option ℕ) → Map → List ℕ → Option ℕ
asks_on asks named file = of_held (named file)
  where
    of_held : Option (List ℕ) → Option ℕ
    of_held (Some bytes) = asks bytes
    of_held None = Some 0

-- ---- What a step leaves

-- no total of a set of files falls, each file that was opened is closed again, and the set tells
-- its map as before
pub record Totals {F D : Type 0} (f : FilesGhosts F D) (old new : F) : Type 0 where
  pub tells : f.tells new ≡ f.tells old
  pub read_faults : f.read_faults old ≤ f.read_faults new
  pub write_faults : f.write_faults old ≤ f.write_faults new
  pub taken : f.taken old ≤ f.taken new
  pub given : f.given old ≤ f.given new
  pub live : f.live old < 2 ^ 64 - 8 → f.live new ≡ f.live old

-- What a step over files leaves, and the causes of its stops: of Read the one that is given, of
-- Write a failed write of a file or a failed put. A file that is open while the step runs counts
-- its failed reads by itself.
pub record LeavesFilesBy {F D O E T : Type 0}
    (f : FilesGhosts F D) (o : SinkGhosts O) (e : SinkGhosts E) (reads : Type 0)
    (result : Result T Stop) (files_old files_new : F) (old new : Outputs O E) : Type 0 where
  pub totals : Totals f files_old files_new
  pub keeps : KeepsSinks o e old new
  pub read : OnRead result reads
  pub write : OnWrite result (Rose (f.write_faults files_old) (f.write_faults files_new)
      ⊎ SinkRose o e old.out.now new.out.now old.err.now new.err.now)

-- of a step over files that are closed again: of Read a failed read of one of them
abbrev pub LeavesFiles : {F D O E T : Type 0} → FilesGhosts F D → SinkGhosts O → SinkGhosts E
    → Result T Stop → F → F → Outputs O E → Outputs O E → Type 0
LeavesFiles f o e result files_old files_new old new =
    LeavesFilesBy f o e (Rose (f.read_faults files_old) (f.read_faults files_new))
    result files_old files_new old new

-- no file is written: every name is as before, and nothing is handed to writes
pub record OnlyReads {F D : Type 0} (f : FilesGhosts F D) (old new : F) : Type 0 where
  pub names : IsTrue (f.tells old)
      → SameNames (f.tells old) (f.named old) (f.tells new) (f.named new)
  pub given : f.given new ≡ f.given old

-- ---- A step that only reads files

-- it gives the report on the map of names, where the set tells it
pub record ReportsFiles {F D O E : Type 0}
    (f : FilesGhosts F D) (o : SinkGhosts O) (e : SinkGhosts E)
    (report : Map → Report) (result : Result Bool Stop)
    (files_old files_new : F) (old new : Outputs O E) : Type 0 where
  pub reports : IsTrue (f.tells files_old)
      → Reports o e result old new (report (f.named files_old))
  pub reads : OnlyReads f files_old files_new
  pub leaves : LeavesFiles f o e result files_old files_new old new

-- ---- Bounds on a count of bytes

-- the count rose by no more than the bound, where there is one
abbrev pub IsWithin : Option ℕ → ℕ → ℕ → Type 0
IsWithin bound before now = IfSome bound (λ n. now ≤ before + n)

-- the bound of two steps, one after another
abbrev pub both_bounds : Option ℕ → Option ℕ → Option ℕ
both_bounds (Some a) (Some b) = Some (a + b)
both_bounds _ _ = None

unfoldable pub all_bounds : List (Option ℕ) → Option ℕ
all_bounds [] = Some 0
all_bounds (b ∷ bs) = both_bounds b (all_bounds bs)

-- of a whole bound, where there is one, what is left may still be asked for
abbrev pub IsWithinLeft : Option ℕ → Option ℕ → ℕ → ℕ → Type 0
IsWithinLeft None left before now = Unit {0}
IsWithinLeft (Some whole) None before now = ⊥
IsWithinLeft (Some whole) (Some left) before now = now + left ≤ before + whole

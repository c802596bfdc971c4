-- The files of -u and of -a, which copy reads whole before it opens FILE.
use Rattle.std.specs.Prelude.{◌≡◌, ◌⊎◌, ◌≤◌, ◌+◌, ◌++◌, ℕ, Bool, true, false, List, [], ◌∷◌, length, map, Option, Some, None, IsTrue, IfSome, IfOk, IfErr, Result, Ok, Err, codes}
use Rattle.elf_types.specs.declared.errors.ElfError.{ElfError}
use Rattle.elf_types.specs.declared.errors.ElfError.TheVariants.{Memory, Read}
use Rattle.elf_types.specs.Answers.{◌>>=◌}
use Rattle.elf_outside.specs.Asks.{Asks}
use Rattle.elf_outside.specs.Names.{Map}
use Rattle.elf_outside.specs.declared.sources.Source.{Ghosts}
use Rattle.elf_outside.specs.declared.sinks.Sink.{Ghosts as SinkGhosts}
use Rattle.elf_outside.specs.declared.file_sets.Files.{Ghosts as FilesGhosts}
use Rattle.rebuild_changes.specs.declared.options.NamedFile.{NamedFile}
use Rattle.tool_output.specs.declared.stops.Stop.{Stop}
use Rattle.tool_output.specs.declared.outputs.Outputs.{Outputs}
use Rattle.tool_output.specs.Steps.{Performs}
use Rattle.tool_output.specs.Files.{OnlyReads, LeavesFiles}
use Rattle.tool_output.specs.Made.{Complaint, complaint_report}
use Rattle.rebuild_files.specs.elfkit_outcomes.Files.{bytes_named}
use Rattle.rebuild_changes.specs.declared.changes.NameBytes.{NameBytes}
use Rattle.rebuild_changes.specs.Stated.{bytes_pair}

-- ---- A source, read whole

-- It answers all bytes of the source, where that tells them, and over every one as many. It asks
-- for each once.
pub record ReadsWhole {S : Type 0} (g : Ghosts S) (result : Result (List ℕ) ElfError) (old new : S)
    : Type 0 where
  pub value : IfSome (g.holds old) (λ bytes. IfOk result (λ read. read ≡ bytes))
  pub long : IfOk result (λ read. length read ≡ g.size old)
  pub asks : Asks g result old new (g.size old)
  pub err : IfErr result (λ e. (e ≡ Memory) ⊎ (e ≡ Read))

-- ---- Files by name

-- the value, where there is no complaint
abbrev pub value_if_any : {A : Type 0} → Result A Complaint → Option A
value_if_any (Ok x) = Some x
value_if_any (Err c) = None

-- how many bytes a name holds
abbrev pub length_held : Option (List ℕ) → ℕ
length_held (Some bytes) = length bytes
length_held None = 0

-- and several do
unfoldable pub lengths_named : Map → List NamedFile → ℕ
lengths_named named [] = 0
lengths_named named (f ∷ files) = length_held (named f.file) + lengths_named named files

-- A step over files answers what is stated of the map of names, or none and the message of the
-- complaint, where the set tells its map. It writes no file, and asks for no more than so many
-- bytes. It stops by Read only where a read of a file failed.
pub record ReadsFiles {F D O E A : Type 0} (f : FilesGhosts F D) (o : SinkGhosts O)
    (e : SinkGhosts E) (stated : Map → Result A Complaint) (due : Map → ℕ)
    (result : Result (Option A) Stop) (files_old files_new : F) (old new : Outputs O E)
    : Type 0 where
  pub says : IsTrue (f.tells files_old) → Performs o e result old new
      (complaint_report (codes "copy") (stated (f.named files_old))).marks
      (value_if_any (stated (f.named files_old)))
  pub asks : IsTrue (f.tells files_old) →
      f.taken files_new ≤ f.taken files_old + due (f.named files_old)
  pub reads : OnlyReads f files_old files_new
  pub leaves : LeavesFiles f o e result files_old files_new old new

-- ---- Bytes under names

abbrev pub named_bytes : List ℕ → List ℕ → NameBytes
named_bytes name bytes = record { name = name; bytes = bytes }

abbrev pub pairs : List NameBytes → List (List ℕ × List ℕ)
pairs list = map bytes_pair list

abbrev pub byte_names : List NameBytes → List (List ℕ)
byte_names list = map (λ n. n.name) list

abbrev pub file_names : List NamedFile → List (List ℕ)
file_names list = map (λ n. n.name) list

-- ---- One file after another

-- the bytes of a file, under its name and behind those of the files before it
abbrev pub with_file : List (List ℕ × List ℕ) → NamedFile → Map
    → Result (List (List ℕ × List ℕ)) Complaint
with_file before f named =
    bytes_named named f.file >>= λ bytes. Ok (before ++ (f.name, bytes) ∷ [])

abbrev pub onto : {A : Type 0} → List A → Result (List A) Complaint → Result (List A) Complaint
onto before (Ok list) = Ok (before ++ list)
onto before (Err c) = Err c

-- the list, where all files were there
abbrev pub list_if_all_found : {A : Type 0} → Result Bool Stop → A → Result (Option A) Stop
list_if_all_found (Ok true) list = Ok (Some list)
list_if_all_found (Ok false) list = Ok None
list_if_all_found (Err stop) list = Err stop

-- what is answered, as it is seen
abbrev pub seen_in : {A B : Type 0} → (A → B) → Result (Option A) Stop → Result (Option B) Stop
seen_in see (Ok (Some x)) = Ok (Some (see x))
seen_in see (Ok None) = Ok None
seen_in see (Err stop) = Err stop

-- A list of files that is read, one file after another.
use Rattle.std.proofs.Common.{◌≡◌, ◌+◌, ◌≤◌, ◌<◌, ℕ, List, [], length, drop, get_or, Option, Some, None, Result, Ok, Err, ap, subst, arith}
use Rattle.elf_types.specs.Answers.{◌>>=◌}
use Rattle.elf_outside.specs.Names.{Map}
use Rattle.elf_outside.specs.declared.sinks.Sink.{Ghosts as SinkGhosts}
use Rattle.elf_outside.specs.declared.file_sets.Files.{Ghosts as FilesGhosts}
use Rattle.rebuild_changes.specs.declared.options.CopyChanges.{CopyChanges}
use Rattle.rebuild_changes.specs.declared.options.NamedFile.{NamedFile}
use Rattle.tool_output.specs.declared.stops.Stop.{Stop}
use Rattle.tool_output.specs.declared.outputs.Outputs.{Outputs}
use Rattle.rebuild_files.specs.elfkit_outcomes.Copy.{changes_with}
use Rattle.rebuild_files.specs.elfkit_outcomes.Files.{bytes_of_each}
use Rattle.copy_tool.specs.Words.{added_changes}
use Rattle.copy_tool.specs.Files.{ReadsFiles, length_held, lengths_named, with_file, onto}
use Rattle.copy_tool.proofs.ByteLemmas.{NamedPairs, ReadPairs, SameMap, onto_none, each_same, with_file_same, read_upto, due_upto, upto_all, upto_left, due_left, upto_more, due_more}
use Rattle.copy_tool.proofs.ReadLemmas.{reads_as, reads_then, reads_none, reads_stop}

-- the changes by two maps that have the same at each name
pub added_same : (words : CopyChanges) (update : NamedPairs) (m n : Map) → SameMap m n
    → added_changes words update n ≡ added_changes words update m
added_same words update m n same =
    ap (λ (q : ReadPairs). q >>= λ add. Ok (changes_with words update add))
    (each_same m n same words.add)

-- nothing was there before
pub none_before_read : {F D O E : Type 0} (f : FilesGhosts F D) (o : SinkGhosts O)
    (e : SinkGhosts E) (list : List NamedFile) (r : Result (Option NamedPairs) Stop) (a b : F)
    (s t : Outputs O E)
    → ReadsFiles f o e (λ m. onto [] (bytes_of_each m list)) (λ m. lengths_named m list) r a b s t
    → ReadsFiles f o e (λ m. bytes_of_each m list) (λ m. lengths_named m list) r a b s t
none_before_read f o e list r a b s t h =
    reads_as f o e (λ m. onto [] (bytes_of_each m list)) (λ m. bytes_of_each m list)
    (λ m. lengths_named m list) (λ m. lengths_named m list) r a b s t
    (λ m. onto_none (bytes_of_each m list)) (λ m. omega arith) h

module _ {F D O E : Type 0} (f : FilesGhosts F D) (o : SinkGhosts O) (e : SinkGhosts E)
    (before : NamedPairs) (list : List NamedFile) where
  -- all of the list, behind what was there
  abbrev Whole : Result (Option NamedPairs) Stop → F → F → Outputs O E → Outputs O E → Type 0
  Whole r a b s t =
      ReadsFiles f o e (λ m. onto before (bytes_of_each m list)) (λ m. lengths_named m list) r
      a b s t

  abbrev Upto : ℕ → Result (Option NamedPairs) Stop → F → F → Outputs O E → Outputs O E → Type 0
  Upto i r a b s t = ReadsFiles f o e (read_upto before list i) (due_upto list i) r a b s t

  -- no file is left
  pub all_read : (i : ℕ) → length list ≤ i → (read : NamedPairs) (a b : F) (s t : Outputs O E)
      → Upto i (Ok (Some read)) a b s t → Whole (Ok (Some read)) a b s t
  all_read i past read a b s t h =
      reads_as f o e (read_upto before list i) (λ m. onto before (bytes_of_each m list))
      (due_upto list i) (λ m. lengths_named m list) (Ok (Some read)) a b s t
      (λ m. upto_all before list m i past) (λ m. due_left before list m i) h

  -- a file was not there, and those behind it are left
  upto_none_whole : (i : ℕ) (a b : F) (s t : Outputs O E) → Upto i (Ok None) a b s t
      → Whole (Ok None) a b s t
  upto_none_whole i a b s t h =
      reads_as f o e
      (λ m. read_upto before list i m >>= λ read. onto read (bytes_of_each m (drop i list)))
      (λ m. onto before (bytes_of_each m list)) (λ m. due_upto list i m + 0)
      (λ m. lengths_named m list) (Ok None) a b s t (λ m. upto_left before list m i)
      (λ m. let most = due_left before list m i in omega (arith, most))
      (reads_none f o e (read_upto before list i) (due_upto list i) a b s t
      (λ read m. onto read (bytes_of_each m (drop i list))) (λ m. 0) h)

  -- or the step stopped
  upto_stop_whole : (i : ℕ) (stop : Stop) (a b : F) (s t : Outputs O E) → Upto i (Err stop) a b s t
      → Whole (Err stop) a b s t
  upto_stop_whole i stop a b s t h =
      reads_as f o e
      (λ m. read_upto before list i m >>= λ read. onto read (bytes_of_each m (drop i list)))
      (λ m. onto before (bytes_of_each m list)) (λ m. due_upto list i m + 0)
      (λ m. lengths_named m list) (Err stop) a b s t (λ m. upto_left before list m i)
      (λ m. let most = due_left before list m i in omega (arith, most))
      (reads_stop f o e (read_upto before list i) (due_upto list i) a b s t
      (λ read m. onto read (bytes_of_each m (drop i list))) (λ m. 0) stop h)

  module _ (i : ℕ) (each : NamedFile) (lt : i < length list) (item : each ≡ get_or list i each)
      (read : NamedPairs) where
    -- one file more
    pub file_step : (r : Result (Option NamedPairs) Stop) (a b c : F) (s t u : Outputs O E)
        → Upto i (Ok (Some read)) a b s t
        → ReadsFiles f o e (with_file read each) (λ m. length_held (m each.file)) r b c t u
        → Upto (i + 1) r a c s u
    file_step r a b c s t u h k =
        reads_as f o e (λ m. read_upto before list i m >>= λ read. with_file read each m)
        (read_upto before list (i + 1)) (λ m. due_upto list i m + length_held (m each.file))
        (due_upto list (i + 1)) r a c s u (λ m. upto_more before list m i each lt item)
        (λ m. due_more before list m i each lt item)
        (reads_then f o e (read_upto before list i) (due_upto list i) a b s t
        (λ read m. with_file read each m) (λ m. length_held (m each.file)) read r c u
        (λ m n same. with_file_same read each m n same)
        (λ m n same. ap (λ (held : Option (List ℕ)). length_held held) (same each.file)) h k)

    pub left_none : (r : Result (Option NamedPairs) Stop) (a b c : F) (s t u : Outputs O E)
        → r ≡ Ok None → Upto i (Ok (Some read)) a b s t
        → ReadsFiles f o e (with_file read each) (λ m. length_held (m each.file)) r b c t u
        → Whole (Ok None) a c s u
    left_none r a b c s t u is h k =
        upto_none_whole (i + 1) a c s u
        (subst (λ (q : Result (Option NamedPairs) Stop). Upto (i + 1) q a c s u) is
        (file_step r a b c s t u h k))

    pub left_stopped : (stop : Stop) (a b c : F) (s t u : Outputs O E)
        → Upto i (Ok (Some read)) a b s t
        → ReadsFiles f o e (with_file read each) (λ m. length_held (m each.file)) (Err stop)
        b c t u → Whole (Err stop) a c s u
    left_stopped stop a b c s t u h k =
        upto_stop_whole (i + 1) stop a c s u (file_step (Err stop) a b c s t u h k)

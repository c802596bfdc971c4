-- The command of copy: files are read, and then a file is made of another one.
use Rattle.std.proofs.Common.{◌≡◌, ◌++◌, ℕ, Bool, true, List, [], codes, Option, Some, None, Result, Ok, Err, IsTrue, refl, sym, ap, ◌∙◌, subst}
use Rattle.elf_types.specs.Answers.{◌>>=◌}
use Rattle.elf_outside.specs.Names.{Map}
use Rattle.elf_outside.specs.declared.sinks.Sink.{Ghosts as SinkGhosts}
use Rattle.elf_outside.specs.declared.file_sets.Files.{Ghosts as FilesGhosts}
use Rattle.rebuild_model.specs.Copied.{Changes}
use Rattle.rebuild_files.specs.elfkit_outcomes.Files.{bytes_of_each, object_named}
use Rattle.rebuild_files.specs.elfkit_outcomes.Copy.{changes_with, copy_done, copy_outcome}
use Rattle.rebuild_changes.specs.declared.options.CopyChanges.{CopyChanges}
use Rattle.tool_output.specs.declared.stops.Stop.{Stop}
use Rattle.tool_output.specs.declared.outputs.Outputs.{Outputs}
use Rattle.tool_output.specs.Names.{file_name}
use Rattle.tool_output.specs.Statuses.{refused_status}
use Rattle.tool_output.specs.Reports.{no_report, refusal_report}
use Rattle.tool_output.specs.Files.{both_bounds}
use Rattle.tool_output.specs.Outcomes.{Outcome, Does}
use Rattle.tool_output.specs.Made.{Done, Complaint, of_file, written_outcome}
use Rattle.tool_output.proofs.StepLemmas.{writes_went, stops_as}
use Rattle.tool_output.proofs.FileLemmas.{told_after}
use Rattle.tool_output.proofs.MadeLemmas.{does_then, report_done, stopped_done}
use Rattle.rebuild_files.specs.tool_objects.Images.{file_object}
use Rattle.rebuild_files.specs.tool_files.ElfImages.Writes.{named_done}
use Rattle.copy_tool.specs.Files.{ReadsFiles}
use Rattle.copy_tool.specs.Words.{word_changes, words_due}
use Rattle.copy_tool.specs.Writes.{copied_done}
use Rattle.copy_tool.proofs.ByteLemmas.{ReadPairs, bytes_are_same}
use Rattle.copy_tool.proofs.ReadLemmas.{SaysRead, value_said, none_said}

-- what is done with changes, by what a name holds
abbrev pub done_with : List ℕ → Map → List ℕ → Changes → Result Done Complaint
done_with out named file c = named_done (λ name o. copied_done c name out o) named file

copy_is : (words : CopyChanges) (named : Map) (out file : List ℕ)
    → copy_outcome words named out file
    ≡ written_outcome (codes "copy") (word_changes words named >>= done_with out named file)
unfolding copy_outcome copy_done
copy_is words named out file =
    ap (λ (q : Result Done Complaint). written_outcome (codes "copy") q)
    (by (bytes_of_each named words.update) (bytes_of_each named words.add))
  where
    by : (p q : ReadPairs)
        → (p >>= λ update. q >>= λ add. done_with out named file (changes_with words update add))
        ≡ ((p >>= λ update. q >>= λ add. Ok (changes_with words update add))
        >>= done_with out named file)
    by (Err c) q = refl
    by (Ok update) (Err c) = refl
    by (Ok update) (Ok add) = refl

done_same : (out : List ℕ) (m n : Map) (file : List ℕ) (c : Changes) → n file ≡ m file
    → done_with out n file c ≡ done_with out m file c
unfolding object_named
done_same out m n file c same =
    ap (λ (q : Result (List ℕ) Complaint).
    (q >>= λ image. of_file file (file_object image)) >>= λ o. copied_done c file out o)
    (bytes_are_same m n file same)

-- no bound, and no mark before
unmarked : (q : Result Done Complaint) → record (written_outcome (codes "copy") q) {
  marks = [] ++ (written_outcome (codes "copy") q).marks;
  asks = both_bounds None (written_outcome (codes "copy") q).asks;
} ≡ written_outcome (codes "copy") q
unfolding written_outcome
unmarked (Ok done) = refl
unmarked (Err c) = refl

module _ {F D O E : Type 0} (f : FilesGhosts F D) (o : SinkGhosts O) (e : SinkGhosts E)
    (words : CopyChanges) (out file : List ℕ) (a b : F) (s t : Outputs O E) where
  abbrev Reads : Result (Option Changes) Stop → Type 0
  Reads r = ReadsFiles f o e (word_changes words) (words_due words) r a b s t

  abbrev Copied : Result Bool Stop → F → Outputs O E → Type 0
  Copied r c u =
      Does f o e refused_status (copy_outcome words (f.named a) out file) r a c s u

  -- the files were there, and the file was made by the changes
  pub copy_done_with : (changes : Changes) (r : Result Bool Stop) (c : F) (u : Outputs O E)
      → Reads (Ok (Some changes))
      → (IsTrue (f.tells b) → Does f o e refused_status
      (written_outcome (codes "copy") (done_with out (f.named b) file changes)) r b c t u)
      → IsTrue (f.tells a) → Copied r c u
  copy_done_with changes r c u h k told =
      let was = value_said o e s t (word_changes words (f.named a)) changes (h.says told) in
      let stated = written_outcome (codes "copy") (done_with out (f.named b) file changes) in
      subst (λ (x : Outcome). Does f o e refused_status x r a c s u)
      (unmarked (done_with out (f.named b) file changes)
      ∙ ap (λ (q : Result Done Complaint). written_outcome (codes "copy") q)
      (done_same out (f.named a) (f.named b) file changes ((h.reads.names told).same file)
      ∙ ap (λ (q : Result Changes Complaint). q >>= done_with out (f.named a) file) (sym was.0))
      ∙ sym (copy_is words (f.named a) out file))
      (does_then f o e refused_status stated [] None tt r a b c s t u told h.reads tt was.1
      (k (told_after f o e a b h.reads told)))

  -- one was not there
  pub copy_done_without : Reads (Ok None) → IsTrue (f.tells a) → Copied (Ok true) b t
  unfolding written_outcome refusal_report
  copy_done_without h told =
      let was = none_said o e s t (word_changes words (f.named a)) (h.says told) in
      let report = refusal_report (codes "copy") (file_name was.0.file) was.0.text in
      subst (λ (x : Outcome). Does f o e refused_status x (Ok true) a b s t)
      (sym (copy_is words (f.named a) out file
      ∙ ap (λ (q : Result Changes Complaint). written_outcome (codes "copy")
      (q >>= done_with out (f.named a) file)) was.1))
      (report_done f o e report (Ok true) a b s t told h.reads (record {
        writes = writes_went o e true s t report.marks was.2.ok;
        value_is = refl;
      }))

  -- or the step stopped
  pub copy_stopped : (stop : Stop) → Reads (Err stop) → IsTrue (f.tells a)
      → Copied (Err stop) b t
  unfolding no_report written_outcome
  copy_stopped stop h told =
      subst (λ (x : Outcome). Does {T = Bool} f o e refused_status x (Err stop) a b s t)
      (sym (copy_is words (f.named a) out file))
      (by (word_changes words (f.named a)) (h.says told))
    where
      by : (q : Result Changes Complaint) → SaysRead o e q (Err stop) s t
          → Does {T = Bool} f o e refused_status
          (written_outcome (codes "copy") (q >>= done_with out (f.named a) file)) (Err stop) a b s t
      by (Ok changes) said =
          let stated =
          written_outcome (codes "copy") (done_with out (f.named a) file changes) in
          stopped_done f o e {T = Bool} {U = Option Changes} refused_status stated [] stated.marks
          stop a b s t refl told h.reads said.writes
      by (Err c) said =
          report_done f o e (refusal_report (codes "copy") (file_name c.file) c.text) (Err stop)
          a b s t told h.reads (record {
            writes = stops_as o e stop s t
                (refusal_report (codes "copy") (file_name c.file) c.text).marks said.writes;
            value_is = tt;
          })

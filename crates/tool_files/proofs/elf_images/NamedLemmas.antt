-- A command by the image of the file that it names.
use Rattle.std.proofs.Common.{◌≡◌, ◌≢◌, ℕ, Bool, List, [], Option, Some, None, Result, Ok, Err, refl, sym}
use Rattle.std.specs.Prelude.{OnOk}
use Rattle.elf_types.specs.declared.errors.ElfError.{ElfError}
use Rattle.elf_types.specs.Answers.{◌>>=◌}
use Rattle.elf_outside.specs.declared.sinks.Sink.{Ghosts as SinkGhosts}
use Rattle.elf_outside.specs.declared.file_sets.Files.{Ghosts as FilesGhosts}
use Rattle.elfkit_outcomes.specs.elf_object.Object.{Object}
use Rattle.tool_output.specs.declared.stops.Stop.{Stop}
use Rattle.tool_output.specs.declared.outputs.Outputs.{Outputs}
use Rattle.tool_output.specs.Reports.{Report}
use Rattle.tool_output.specs.Statuses.{refused_status}
use Rattle.tool_output.specs.Files.{IsWithin}
use Rattle.tool_output.specs.Outcomes.{Outcome, report_outcome, write_of, Does}
use Rattle.tool_output.specs.Made.{Done, Complaint, made_file, made_file_alone, written_outcome, outcome_with}
use Rattle.elfkit_outcomes.specs.tool_objects.Images.{file_object}
use Rattle.tool_files.specs.Edits.{edited_outcome}
use Rattle.tool_files.proofs.ChangeSteps.{other_write}
use Rattle.elfkit_outcomes.specs.Files.{bytes_named, object_named}
use Rattle.tool_files.specs.ElfImages.Writes.{image_done, named_done}

-- ---- The file that is made has another name

-- one file that a command makes, or none
module _ (command out file : List ℕ) (differ : out ≢ file) where
  pub unwritten : (q : Result (List ℕ) Complaint)
      → write_of (written_outcome command (q >>= λ l. Ok (made_file_alone out l))).writes file ≡ None
  unfolding written_outcome write_of
  unwritten (Ok l) = other_write (made_file out l) file (λ same. differ (sym same))
  unwritten (Err c) = refl

  -- whatever is made of an object
  pub unwritten_image : (done : List ℕ → Object → Result Done Complaint)
      → ((o : Object) → write_of (written_outcome command (done file o)).writes file ≡ None)
      → (r : Result Object ElfError)
      → write_of (written_outcome command (image_done done file r)).writes file ≡ None
  unfolding written_outcome write_of
  unwritten_image done each (Ok o) = each o
  unwritten_image done each (Err e) = refl

-- ---- The outcome, by what the name holds

module _ {F D O E : Type 0} (f : FilesGhosts F D) (o : SinkGhosts O) (e : SinkGhosts E)
    (command : List ℕ) (done : List ℕ → Object → Result Done Complaint) (file : List ℕ)
    (r : Result Bool Stop) (a b : F) (s t : Outputs O E) where
  abbrev edits : List ℕ → List ℕ → Outcome
  edits name bytes = written_outcome command (image_done done name (file_object bytes))

  abbrev Here : Outcome → Type 0
  Here stated = Does f o e refused_status stated r a b s t

  -- a message, with no bound stated
  unbound : (report : Report) → Here (report_outcome report (Some 0))
      → Here (outcome_with report [])
  unfolding report_outcome
  unbound report h = record {
    writes = h.writes;
    status = h.status;
    files = h.files;
    left = h.left;
    asks = free r;
    gives = tt;
  }
    where
      free : (q : Result Bool Stop) → OnOk q (IsWithin None (f.taken a) (f.taken b))
      free (Ok x) = tt
      free (Err stop) = tt

  abbrev Stated : Outcome
  Stated = written_outcome command (named_done done (f.named a) file)

  by_held : (held : Option (List ℕ)) → f.named a file ≡ held
      → Here (edited_outcome command edits file (f.named a)) → Here Stated
  unfolding edited_outcome object_named bytes_named written_outcome
  by_held (Some bytes) is h = rw is (rw is at h)
  by_held None is h = rw is (unbound _ (rw is at h))

  pub named_does : Here (edited_outcome command edits file (f.named a)) → Here Stated
  named_does h = by_held (f.named a file) refl h

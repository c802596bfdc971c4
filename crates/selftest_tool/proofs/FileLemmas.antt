-- The file of the self test: it is made, opened again, and told of.
use Rattle.std.proofs.Common.{◌≡◌, inr, ◌∷◌, ℕ, Bool, true, false, List, [], Option, Some, None, Result, Ok, Err, OnOk, IfSome, IsTrue, if◌then◌else◌, refl, sym, ap, ◌∙◌, subst}
use Rattle.std.specs.Prelude.{codes}
use Rattle.std.proofs.lemmas.Slice.Eq.{bytes_eq-Decides}
use Rattle.elf_types.specs.Answers.{answered, ◌>>=◌}
use Rattle.elf_types.specs.declared.errors.ElfError.{ElfError}
use Rattle.elf_outside.specs.Counts.{Rose}
use Rattle.elf_outside.specs.Names.{Map}
use Rattle.elf_outside.specs.declared.sources.Source.{Ghosts as SourceGhosts}
use Rattle.elf_outside.specs.declared.sinks.Sink.{Ghosts as SinkGhosts}
use Rattle.elf_outside.specs.declared.file_sets.Files.{Ghosts as FilesGhosts}
use Rattle.elf_object.specs.Object.{Object}
use Rattle.elf_object.specs.Open.{opened}
use Rattle.elf_object.specs.Image.{image}
use Rattle.elf_calls_generate.specs.elf_descriptor.State.{State}
use Rattle.rebuild_model.specs.Files.{file_of}
use Rattle.rebuild_model.specs.Generated.{generated_and_shifted, told_lines}
use Rattle.tool_output.specs.declared.stops.Stop.{Stop}
use Rattle.tool_output.specs.declared.stops.Stop.TheVariants.{Read, Write, Memory}
use Rattle.tool_output.specs.declared.outputs.Outputs.{Outputs}
use Rattle.tool_output.specs.Names.{file_name}
use Rattle.tool_output.specs.Statuses.{refused_status, stop_status}
use Rattle.tool_output.specs.Steps.{LeavesOutputs}
use Rattle.tool_output.specs.Reports.{Report, Reports, no_report, shown_report}
use Rattle.tool_output.specs.Sources.{ReportsOn}
use Rattle.tool_output.specs.Files.{LeavesFilesBy, LeavesFiles}
use Rattle.tool_output.specs.Outcomes.{FileWrite, Outcome, report_outcome, write_of, held_after, MayHold, Does}
use Rattle.tool_output.specs.Made.{Done, Complaint, of_file, made_file, outcome_with}
use Rattle.tool_output.proofs.StepLemmas.{writes_stop, writes_then, keeps_none, keeps_then}
use Rattle.tool_output.proofs.FileLemmas.{only_reads_none, totals_none, totals_then, leaves_stop, leaves_stop_by}
use Rattle.tool_output.proofs.OutcomeLemmas.{reads_done}
use Rattle.tool_output.proofs.MadeLemmas.{never_read}
use Rattle.elfkit_outcomes.specs.tool_objects.Images.{object_report, image_report}
use Rattle.tool_files.specs.Edits.{unbounded, edited_outcome, EditsFile}
use Rattle.tool_files.proofs.SaidLemmas.{said_after}
use Rattle.elfkit_outcomes.specs.Selftest.{selftest_done, selftest_outcome}
use Rattle.law_files.specs.Commands.SelftestSizes.{selftest_lines}
use Rattle.law_files.specs.Commands.SelftestLaw.{SelftestGives}
use Rattle.elf_calls_generate.specs.Stages.{StandsFor}
use Rattle.selftest_tool.specs.Told.{selftest_lines_report, told_report, told_outcome}

-- ---- What is told of a file

none_asked : (r : Result Bool Stop) → OnOk r (Unit {0})
none_asked (Ok x) = tt
none_asked (Err stop) = tt

module _ {F D O E : Type 0} (f : FilesGhosts F D) (o : SinkGhosts O) (e : SinkGhosts E) where
  -- no file is touched
  files_left : (P : Type 0) (r : Result Bool Stop) (a : F) (s t : Outputs O E)
      → LeavesOutputs o e P r s t → LeavesFilesBy f o e P r a a s t
  files_left P (Ok x) a s t h =
      record { totals = totals_none f o e a; keeps = h.keeps; read = tt; write = tt }
  files_left P (Err Read) a s t h =
      record { totals = totals_none f o e a; keeps = h.keeps; read = h.read; write = tt }
  files_left P (Err Write) a s t h =
      record { totals = totals_none f o e a; keeps = h.keeps; read = tt; write = inr h.write }
  files_left P (Err Memory) a s t h =
      record { totals = totals_none f o e a; keeps = h.keeps; read = tt; write = tt }

  pub told_edits : {S : Type 0} (g : SourceGhosts S) (report : List ℕ → Report)
      (r : Result Bool Stop) (src new : S) (a : F) (s t : Outputs O E)
      → ReportsOn g o e report r src new s t
      → EditsFile g f o e (λ bytes. report_outcome (report bytes) None) r src new a a s t
  unfolding report_outcome
  told_edits g report r src new a s t h = record {
    does = λ tells. by_done (g.holds src) h.reports tells;
    asks = λ tells. by_asked (g.holds src);
    source = h.source;
    later = h.later;
    live = λ small. refl;
    leaves = files_left (Rose (g.faults src) (g.faults new)) r a s t h.leaves;
  }
    where
      by_done : (held : Option (List ℕ)) → IfSome held (λ bytes. Reports o e r s t (report bytes))
          → IsTrue (f.tells a) → IfSome held (λ bytes.
          Does f o e refused_status (unbounded (report_outcome (report bytes) None)) r a a s t)
      by_done None k tells = tt
      by_done (Some bytes) k tells =
          reads_done f o e a a s t (report bytes) None r tells (only_reads_none f o e a)
          (none_asked r) k

      by_asked : (held : Option (List ℕ)) → IfSome held (λ bytes. OnOk r (Unit {0}))
      by_asked None = tt
      by_asked (Some bytes) = none_asked r

-- ---- What is told of the file that was made

-- what follows, once there are bytes
abbrev told_with : List ℕ → ℕ → List ℕ → Result Done Complaint
told_with out n bytes =
    of_file out (opened bytes) >>= λ o.
    of_file out (told_lines n o) >>= λ lines.
    Ok (record { shown = lines; writes = made_file out bytes ∷ [] })

module _ (out : List ℕ) (n : ℕ) (bytes : List ℕ) (done : Done) where
  by_lines : (res : Result (List ℕ) ElfError)
      → ◌≡◌ {A = Result Done Complaint} (of_file out res >>= λ lines.
      Ok (record { shown = lines; writes = made_file out bytes ∷ [] })) (Ok done)
      → selftest_lines_report (file_name out) res ≡ shown_report done.shown
  by_lines (Err e) is = cc
  by_lines (Ok lines) is = let same : lines ≡ done.shown = cc in ap shown_report same

  by_opened : (res : Result Object ElfError)
      → ◌≡◌ {A = Result Done Complaint} (of_file out res >>= λ o.
      of_file out (told_lines n o) >>= λ lines.
      Ok (record { shown = lines; writes = made_file out bytes ∷ [] })) (Ok done)
      → object_report (codes "selftest") (told_report n) (file_name out) res ≡ shown_report done.shown
  unfolding told_report
  by_opened (Err e) is = cc
  by_opened (Ok o) is = by_lines (told_lines n o) is

module _ (out : List ℕ) (n : ℕ) (law : SelftestGives out n) where
  abbrev object : Object
  object = generated_and_shifted n

  file_is : file_of object ≡ Ok (image object)
  unfolding file_of
  file_is = ap (λ (r : Option ElfError). answered r (image object)) law.updated

  -- the lines that are stated
  told_is : image_report (codes "selftest") (told_report n) (file_name out) (image object)
      ≡ shown_report (selftest_lines n)
  unfolding selftest_done image_report
  told_is =
      by_opened out n (image object)
      (record { shown = selftest_lines n; writes = made_file out (image object) ∷ [] })
      (opened (image object))
      (sym (ap (λ (r : Result (List ℕ) ElfError). of_file out r >>= told_with out n) file_is)
      ∙ law.done)

-- ---- The file, and what is told of it

module _ {F D O E : Type 0} (f : FilesGhosts F D) (o : SinkGhosts O) (e : SinkGhosts E)
    (a b c : F) (s t u : Outputs O E) where
  -- it holds the bytes
  made_there : (x : Bool) (name bytes : List ℕ) → Does {T = Bool} f o e refused_status
      (outcome_with no_report (made_file name bytes ∷ [])) (Ok x) a b s t
      → f.named b name ≡ Some bytes
  unfolding write_of
  made_there x name bytes h =
      h.files name
      ∙ ap (λ (q : Bool).
      held_after (if q then Some (made_file name bytes) else None) (f.named a name))
      ((bytes_eq-Decides name name).1 refl)

  edited_is : (n : ℕ) (out bytes : List ℕ) (named : Map) → named out ≡ Some bytes
      → edited_outcome (codes "selftest") (told_outcome n) out named ≡ told_outcome n out bytes
  unfolding edited_outcome
  edited_is n out bytes named there = rw there refl

  -- a file was made, and then a report is given of one that is only read
  made_and_told : (x : Bool) (report : Report) (name bytes : List ℕ) (r : Result Bool Stop)
      → Does {T = Bool} f o e refused_status
      (outcome_with no_report (made_file name bytes ∷ [])) (Ok x) a b s t
      → Does f o e refused_status (report_outcome report None) r b c t u
      → Does f o e refused_status (outcome_with report (made_file name bytes ∷ [])) r a c s u
  unfolding no_report report_outcome write_of
  made_and_told x report name bytes (Ok y) h k = record {
    writes = writes_then o e x (Ok y) s t u [] report.marks h.writes k.writes;
    status = k.status;
    files = λ other. k.files other ∙ h.files other;
    left = tt;
    asks = tt;
    gives = tt;
  }
  made_and_told x report name bytes (Err stop) h k = record {
    writes = writes_then o e x (Err stop) s t u [] report.marks h.writes k.writes;
    status = tt;
    files = tt;
    left = λ other.
        subst (λ (now : Option (List ℕ)).
        MayHold (stop_status stop) (write_of (made_file name bytes ∷ []) other)
        (f.named a other) now) (sym (k.left other))
        ((said_after f o e a b s t u x report name bytes (Err stop) h
        (record { writes = k.writes; value_is = tt })).left other);
    asks = tt;
    gives = tt;
  }

  -- the file is not made
  made_stopped : (stop : Stop) (report : Report) (writes : List FileWrite)
      → Does {T = Bool} f o e refused_status (outcome_with no_report writes) (Err stop) a b s t
      → Does {T = Bool} f o e refused_status (outcome_with report writes) (Err stop) a b s t
  unfolding no_report
  made_stopped stop report writes h = record {
    writes = writes_stop o e {T = Bool} {U = Bool} stop s t [] report.marks h.writes;
    status = tt;
    files = tt;
    left = h.left;
    asks = tt;
    gives = tt;
  }

  module _ (out : List ℕ) (n : ℕ) (law : SelftestGives out n) where
    abbrev DoesMade : Result Bool Stop → Type 0
    DoesMade r =
        Does f o e refused_status
        (outcome_with no_report (made_file out (image (generated_and_shifted n)) ∷ [])) r a b s t

    pub selftest_does : (x : Bool) (r : Result Bool Stop) → IsTrue (f.tells a)
        → f.tells b ≡ f.tells a → DoesMade (Ok x)
        → (IsTrue (f.tells b) → Does f o e refused_status
        (edited_outcome (codes "selftest") (told_outcome n) out (f.named b)) r b c t u)
        → Does f o e refused_status (selftest_outcome out n) r a c s u
    unfolding told_outcome
    selftest_does x r tells same h k =
        let bytes = image (generated_and_shifted n) in
        let there = made_there x out bytes h in
        let told = k (subst (λ (q : Bool). IsTrue q) (sym same) tells) in
        let known : Does f o e refused_status (told_outcome n out bytes) r b c t u =
        subst (λ (stated : Outcome). Does f o e refused_status stated r b c t u)
        (edited_is n out bytes (f.named b) there) told in
        subst (λ (stated : Outcome). Does f o e refused_status stated r a c s u) (sym law.outcome)
        (made_and_told x (shown_report (selftest_lines n)) out bytes r h
        (subst (λ (report : Report).
        Does f o e refused_status (report_outcome report None) r b c t u)
        (told_is out n law) known))

    pub selftest_stopped : (stop : Stop) → DoesMade (Err stop)
        → Does {T = Bool} f o e refused_status (selftest_outcome out n) (Err stop) a b s t
    selftest_stopped stop h =
        subst (λ (stated : Outcome).
        Does {T = Bool} f o e refused_status stated (Err stop) a b s t) (sym law.outcome)
        (made_stopped stop (shown_report (selftest_lines n))
        (made_file out (image (generated_and_shifted n)) ∷ []) h)

  -- ---- What is left

  pub left_then : (x : Bool) (r : Result Bool Stop)
      → LeavesFilesBy {T = Bool} f o e ⊥ (Ok x) a b s t → LeavesFiles f o e r b c t u
      → LeavesFiles f o e r a c s u
  left_then x (Ok y) h k = record {
    totals = totals_then f o e a b c h.totals k.totals;
    keeps = keeps_then o e s t u h.keeps k.keeps;
    read = tt;
    write = tt;
  }
  left_then x (Err stop) h k =
      leaves_stop f o e {T = Bool} {U = Bool} stop a b c s t u h.totals h.keeps k

  pub left_stopped : (stop : Stop) → LeavesFilesBy {T = Bool} f o e ⊥ (Err stop) a b s t
      → LeavesFiles {T = Bool} f o e (Err stop) a b s t
  left_stopped stop h =
      leaves_stop_by f o e {T = Bool} {U = Bool} ⊥ (Rose (f.read_faults a) (f.read_faults b)) stop
      a a b s s t (λ never. absurd never) (totals_none f o e a) (keeps_none o e s) h

  -- what is read has no faults
  pub left_unread : (r : Result Bool Stop) → LeavesFilesBy f o e (Rose 0 0) r a b s t
      → LeavesFilesBy f o e ⊥ r a b s t
  left_unread r h = record {
    totals = h.totals;
    keeps = h.keeps;
    read = never_read r h.read;
    write = h.write;
  }

-- the image of an object that was made
pub image_told : {S : Type 0} (P : List ℕ → Type 0) (v : State S) (p : Object) → StandsFor p v
    → IfSome (if v.told then Some (image v.o) else None) P → P (image p)
image_told {S} P v p at h = subst (λ (q : Object). P (image q)) at.object (by v.told at.told h)
  where
    by : (q : Bool) → q ≡ true → IfSome (if q then Some (image v.o) else None) P → P (image v.o)
    by true is k = k
    by false is k = cc

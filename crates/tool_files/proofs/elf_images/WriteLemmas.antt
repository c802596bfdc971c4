-- What a command writes of an object, and what it says where it writes nothing.
use Rattle.std.proofs.Common.{◌≡◌, inr, ◌∷◌, ◌-◌, ◌^◌, ◌<◌, ◌≤◌, ℕ, Bool, true, false, List, [], Option, Some, None, Result, Ok, Err, IfSome, IsTrue, refl, sym, ap, ◌∙◌, subst, arith}
use Rattle.std.specs.Prelude.{OnOk, if◌then◌else◌, is_some}
use Rattle.elf_types.specs.declared.errors.ElfError.{ElfError}
use Rattle.elf_types.specs.declared.errors.ElfError.TheVariants as error
use Rattle.elf_types.specs.Answers.{IsRefusal, Follows, answered, stated_refusal, ◌>>=◌}
use Rattle.elf_types.specs.Text.{error_text}
use Rattle.elf_outside.specs.Asks.{Asks, Leaves, ReadRose}
use Rattle.elf_outside.specs.Counts.{Rose}
use Rattle.elf_outside.specs.declared.sources.Source.{Ghosts as SourceGhosts}
use Rattle.elf_outside.specs.declared.sinks.Sink.{Ghosts as SinkGhosts}
use Rattle.elf_outside.specs.declared.file_sets.Files.{Ghosts as FilesGhosts}
use Rattle.elfkit_outcomes.specs.elf_object.Object.{Object}
use Rattle.elfkit_outcomes.specs.elf_object.Image.{image, image_length}
use Rattle.elfkit_outcomes.specs.elf_object.Layout.{placed}
use Rattle.elfkit_outcomes.specs.elf_object.Due.{update_to_due}
use Rattle.elfkit_outcomes.specs.elf_object.Valid.{IsObject}
use Rattle.elfkit_outcomes.specs.elf_object.Refusal.{refusal}
use Rattle.elfkit_outcomes.specs.elf_object.Calls as calls
use Rattle.elfkit_outcomes.specs.elf_object.Words.{Updates}
use Rattle.elfkit_outcomes.proofs.elf_object.RefusalLaws.{update_refuses}
use Rattle.elf_update_plan.proofs.law_object.TornLaws.{placed_stays}
use Rattle.elf_update_plan.specs.elf_descriptor.State.{State}
use Rattle.elf_update_plan.specs.elf_descriptor.Edits.{flagged}
use Rattle.elfkit_outcomes.specs.rebuild_model.Files.{file_of}
use Rattle.tool_output.specs.declared.stops.Stop.{Stop}
use Rattle.tool_output.specs.declared.stops.Stop.TheVariants.{Read, Write, Memory}
use Rattle.tool_output.specs.declared.outputs.Outputs.{Outputs}
use Rattle.tool_output.specs.Statuses.{refused_status}
use Rattle.tool_output.specs.Steps.{LeavesOutputs}
use Rattle.tool_output.specs.Names.{file_name}
use Rattle.tool_output.specs.Reports.{Report, Reports, no_report, refusal_report}
use Rattle.tool_output.specs.Files.{IsWithin, LeavesFilesBy}
use Rattle.tool_output.specs.Outcomes.{Outcome, Does}
use Rattle.tool_output.specs.Made.{Done, Complaint, made_file, made_file_alone, complaint, of_file, written_outcome, outcome_with}
use Rattle.tool_output.proofs.FileLemmas.{totals_none, only_reads_none}
use Rattle.tool_output.proofs.MadeLemmas.{report_done}
use Rattle.tool_output.proofs.OutcomeLemmas.{nothing_done}
use Rattle.tool_output.proofs.StepLemmas.{keeps_none}
use Rattle.tool_output.proofs.UnderWayLemmas.{shown_none}
use Rattle.elfkit_outcomes.specs.tool_objects.Images.{file_object}
use Rattle.elfkit_outcomes.specs.tool_objects.Refusals.{ReportsRefusal}
use Rattle.elfkit_outcomes.specs.tool_objects.Steps.{SourceRose}
use Rattle.elfkit_outcomes.proofs.tool_objects.SourceSteps.{leaves_then}
use Rattle.tool_files.specs.Making.{ReadsFrom}
use Rattle.tool_files.specs.Edits.{unbounded, EditsFile}
use Rattle.tool_files.specs.ElfImages.Writes.{written_done, image_done, WritesFile}

module _ {F D O E : Type 0} (f : FilesGhosts F D) (o : SinkGhosts O) (e : SinkGhosts E)
    (command : List ℕ) where
  -- a step that writes on the outputs alone leaves the files
  pub outputs_leave : (P : Type 0) (r : Result Bool Stop) (a : F) (s t : Outputs O E)
      → LeavesOutputs o e ⊥ r s t → LeavesFilesBy f o e P r a a s t
  outputs_leave P (Ok x) a s t h =
      record { totals = totals_none f o e a; keeps = h.keeps; read = tt; write = tt }
  outputs_leave P (Err Read) a s t h = absurd h.read
  outputs_leave P (Err Write) a s t h =
      record { totals = totals_none f o e a; keeps = h.keeps; read = tt; write = inr h.write }
  outputs_leave P (Err Memory) a s t h =
      record { totals = totals_none f o e a; keeps = h.keeps; read = tt; write = tt }

  -- and so does one that stops before it writes
  nothing_left : (P : Type 0) (stop : Stop) (a : F) (s : Outputs O E) → (stop ≡ Write → ⊥)
      → (stop ≡ Read → P) → LeavesFilesBy {T = Bool} f o e P (Err stop) a a s s
  nothing_left P Read a s unwritten read = record {
    totals = totals_none f o e a;
    keeps = keeps_none o e s;
    read = read refl;
    write = tt;
  }
  nothing_left P Write a s unwritten read = absurd (unwritten refl)
  nothing_left P Memory a s unwritten read = record {
    totals = totals_none f o e a;
    keeps = keeps_none o e s;
    read = tt;
    write = tt;
  }

  abbrev pub DoesHere : Result Done Complaint → Result Bool Stop → F → F → Outputs O E → Outputs O E
      → Type 0
  DoesHere q r a b s t =
      Does f o e refused_status (written_outcome command q) r a b s t

  -- a message alone
  pub said_done : (file text : List ℕ) (r : Result Bool Stop) (a : F) (s t : Outputs O E)
      → IsTrue (f.tells a)
      → Reports o e r s t (refusal_report command (file_name file) text)
      → DoesHere (Err (complaint file text)) r a a s t
  unfolding written_outcome
  said_done file text r a s t tells h =
      report_done f o e (refusal_report command (file_name file) text) r a a s t tells
      (only_reads_none f o e a) h

  -- a file alone
  file_done : (out bytes : List ℕ) (r : Result Bool Stop) (a b : F) (s t : Outputs O E)
      → Does f o e refused_status (outcome_with no_report (made_file out bytes ∷ [])) r a b s t
      → DoesHere (Ok (made_file_alone out bytes)) r a b s t
  unfolding written_outcome
  file_done out bytes r a b s t h =
      subst (λ (x : Report).
      Does f o e refused_status (outcome_with x (made_file out bytes ∷ [])) r a b s t)
      (sym shown_none) h

  -- ---- An error of the library

  -- it is refused as is stated, or the step stops before it does anything
  pub refused_does : (file : List ℕ) (c : ElfError) (q : Result Done Complaint)
      (r : Result Bool Stop) (a : F) (s t : Outputs O E) → IsTrue (f.tells a)
      → IfSome (stated_refusal c) (λ d. q ≡ Err (complaint file (error_text d)))
      → ReportsRefusal o e command (file_name file) c r s t → DoesHere q r a a s t
  refused_does file error.Memory q r a s t tells is h =
      rw (h.stops.0, h.stops.1)
      (nothing_done f o e refused_status (written_outcome command q) Memory a s)
  refused_does file error.Read q r a s t tells is h =
      rw (h.stops.0, h.stops.1)
      (nothing_done f o e refused_status (written_outcome command q) Read a s)
  refused_does file error.Write q r a s t tells is h =
      rw (h.stops.0, h.stops.1)
      (nothing_done f o e refused_status (written_outcome command q) Write a s)
  refused_does file c q r a s t tells is h =
      subst (λ (x : Result Done Complaint). DoesHere x r a a s t) (sym is)
      (said_done file (error_text c) r a s t tells h.reports)

  pub refused_leaves : (P T : Type 0) (c : ElfError) (file : List ℕ) (before after : ℕ)
      (r : Result Bool Stop) (a : F) (s t : Outputs O E) → ReadRose {T = T} (Err c) before after
      → (Rose before after → P) → ReportsRefusal o e command (file_name file) c r s t
      → LeavesFilesBy f o e P r a a s t
  refused_leaves P T error.Memory file before after r a s t rose causes h =
      rw (h.stops.0, h.stops.1)
      (nothing_left P Memory a s (λ is. cc) (λ is. cc))
  refused_leaves P T error.Read file before after r a s t rose causes h =
      rw (h.stops.0, h.stops.1)
      (nothing_left P Read a s (λ is. cc) (λ is. causes rose))
  refused_leaves P T error.Write file before after r a s t rose causes h = absurd rose
  refused_leaves P T c file before after r a s t rose causes h = outputs_leave P r a s t h.leaves

-- ---- The source is handed back

-- what a step did with a descriptor, told of its source alone
pub source_handed_back : {S F D O E : Type 0} (g : SourceGhosts S) (f : FilesGhosts F D)
    (o : SinkGhosts O) (e : SinkGhosts E) (stated : Outcome) (r : Result Bool Stop)
    (old new : State S) (a b : F) (s t : Outputs O E)
    → WritesFile g f o e stated r old new a b s t
    → WritesFile g f o e stated r old (record old { source = new.source }) a b s t
source_handed_back g f o e stated r old new a b s t h = record {
  does = h.does;
  source = h.source;
  later = h.later;
  live = h.live;
  leaves = h.leaves;
}

-- ---- The update

pub update_refusal : (p : Object) (d : ElfError) → calls.update_null.answer p ≡ Err d
    → (refusal p ≡ Some d) × IsRefusal d
update_refusal p d is = by (refusal p) (update_refuses p) is
  where
    by : (x : Option ElfError) → IfSome x IsRefusal → answered x (image_length p) ≡ Err d
        → (x ≡ Some d) × IsRefusal d
    by None h k = cc
    by (Some c) h k =
        let same : c ≡ d = cc in
        (ap (λ (x : ElfError). Some x) same, subst (λ (x : ElfError). IsRefusal x) same h)

pub update_null_passes : (p : Object) (n : ℕ) → calls.update_null.answer p ≡ Ok n → refusal p ≡ None
update_null_passes p n is = by (refusal p) is
  where
    by : (x : Option ElfError) → answered x (image_length p) ≡ Ok n → x ≡ None
    by None h = refl
    by (Some c) h = cc

module _ (file out : List ℕ) (p : Object) where
  written_is : (q : Object) → refusal p ≡ None → image q ≡ image p
      → written_done file out p ≡ Ok (made_file_alone out (image q))
  unfolding file_of
  written_is q passed same =
      ap (λ (r : Option ElfError).
      of_file file (answered r (image p)) >>= λ bytes. Ok (made_file_alone out bytes)) passed
      ∙ ap (λ (bytes : List ℕ). Ok (made_file_alone out bytes)) (sym same)

  unwritten_is : (d : ElfError) → refusal p ≡ Some d
      → written_done file out p ≡ Err (complaint file (error_text d))
  unfolding file_of
  unwritten_is d is =
      ap (λ (r : Option ElfError).
      of_file file (answered r (image p)) >>= λ bytes. Ok (made_file_alone out bytes)) is

-- ---- A step that is refused, and one after another

module _ {S F D O E : Type 0} (g : SourceGhosts S) (f : FilesGhosts F D) (o : SinkGhosts O)
    (e : SinkGhosts E) (command : List ℕ) where
  -- an error of the library that is stated, or that stops the step before it does anything
  pub refused_writes : (file : List ℕ) (q : Result Done Complaint) (old new : State S) (T : Type 0)
      (d : ElfError) (r : Result Bool Stop) (a : F) (s t : Outputs O E)
      → (IsTrue (f.tells a) → IsTrue old.told → IfSome (stated_refusal d)
      (λ x. q ≡ Err (complaint file (error_text x))))
      → Leaves g old.source new.source → g.faults old.source ≤ g.faults new.source
      → ReadRose {T = T} (Err d) (g.faults old.source) (g.faults new.source)
      → ReportsRefusal o e command (file_name file) d r s t
      → WritesFile g f o e (written_outcome command q) r old new a a s t
  refused_writes file q old new T d r a s t is left later read h = record {
    does = λ tells told.
        refused_does f o e command file d q r a s t tells (is tells told) h;
    source = left;
    later = later;
    live = λ small. refl;
    leaves = refused_leaves f o e command (SourceRose g old new) T d file (g.faults old.source)
        (g.faults new.source) r a s t read (λ rose. rose) h;
  }

  later_leaves : (old mid new : State S) (r : Result Bool Stop) (a b : F) (s t : Outputs O E)
      → g.faults old.source ≤ g.faults mid.source
      → LeavesFilesBy f o e (SourceRose g mid new) r a b s t
      → LeavesFilesBy f o e (SourceRose g old new) r a b s t
  later_leaves old mid new (Ok x) a b s t first l =
      record { totals = l.totals; keeps = l.keeps; read = tt; write = tt }
  later_leaves old mid new (Err Read) a b s t first l = record {
    totals = l.totals;
    keeps = l.keeps;
    read = let rose = l.read in omega (arith, first, rose);
    write = tt;
  }
  later_leaves old mid new (Err Write) a b s t first l =
      record { totals = l.totals; keeps = l.keeps; read = tt; write = l.write }
  later_leaves old mid new (Err Memory) a b s t first l =
      record { totals = l.totals; keeps = l.keeps; read = tt; write = tt }

  -- a step that looks at the object, and then one that writes
  pub written_then : (q p : Result Done Complaint) (old mid new : State S) (r : Result Bool Stop)
      (a b : F) (s t : Outputs O E) → mid.told ≡ old.told → Leaves g old.source mid.source
      → g.faults old.source ≤ g.faults mid.source → (IsTrue old.told → q ≡ p)
      → WritesFile g f o e (written_outcome command p) r mid new a b s t
      → WritesFile g f o e (written_outcome command q) r old new a b s t
  written_then q p old mid new r a b s t told left later same second = record {
    does = λ tells is.
        subst (λ (x : Result Done Complaint). DoesHere f o e command x r a b s t) (sym (same is))
        (second.does tells (subst (λ (x : Bool). IsTrue x) (sym told) is));
    source = leaves_then g old.source mid.source new.source left second.source;
    later = let two = second.later in omega (arith, later, two);
    live = second.live;
    leaves = later_leaves old mid new r a b s t later second.leaves;
  }

module _ {S F D O E : Type 0} (g : SourceGhosts S) (f : FilesGhosts F D) (o : SinkGhosts O)
    (e : SinkGhosts E) (command file out : List ℕ) where
  abbrev Writes : Result Done Complaint → Result Bool Stop → State S → State S → F → F
      → Outputs O E → Outputs O E → Type 0
  Writes q r old new a b s t =
      WritesFile g f o e (written_outcome command q) r old new a b s t

  pub laid_passes : (old mid : State S) (n : ℕ) → IsObject old.o
      → Updates {A = ℕ} (Ok n) old mid (calls.update_null.answer old.o)
      (flagged calls.update_null old)
      → refusal mid.o ≡ None
  laid_passes old mid n ok came =
      subst (λ (m : State S). refusal m.o ≡ None) (sym came.1)
      (placed_stays old.o ok (update_null_passes old.o n came.0)).1

  -- the places are stored, and the image is written
  pub updated_written : (old mid new : State S) (n : ℕ) (r : Result Bool Stop) (a b : F)
      (s t : Outputs O E) → IsObject old.o
      → Updates {A = ℕ} (Ok n) old mid (calls.update_null.answer old.o)
      (flagged calls.update_null old)
      → (IsTrue (f.tells a) → IfSome (if mid.told then Some (image mid.o) else None)
      (λ bytes. Does f o e refused_status
      (outcome_with no_report (made_file out bytes ∷ [])) r a b s t))
      → LeavesFilesBy f o e (SourceRose g mid new) r a b s t
      → ReadsFrom g mid.source new.source (update_to_due mid.o mid.loaded)
      → (f.live a < 2 ^ 64 - 2 → f.live b ≡ f.live a)
      → Writes (written_done file out old.o) r old new a b s t
  updated_written old mid new n r a b s t ok came does leaves source live = record {
    does = λ tells told.
        subst (λ (q : Result Done Complaint). DoesHere f o e command q r a b s t)
        (sym (written_is file out old.o (placed old.o) (update_null_passes old.o n came.0)
        (placed_stays old.o ok (update_null_passes old.o n came.0)).2))
        (file_done f o e command out (image (placed old.o)) r a b s t
        (by old.told told (subst (λ (m : State S).
        IfSome (if m.told then Some (image m.o) else None)
        (λ bytes. Does f o e refused_status
        (outcome_with no_report (made_file out bytes ∷ [])) r a b s t)) came.1 (does tells))));
    source = (subst (λ (m : State S). ReadsFrom g m.source new.source
        (update_to_due mid.o mid.loaded)) came.1 source).leaves;
    later = (subst (λ (m : State S). ReadsFrom g m.source new.source
        (update_to_due mid.o mid.loaded)) came.1 source).later;
    live = live;
    leaves = subst (λ (m : State S). LeavesFilesBy f o e (SourceRose g m new) r a b s t) came.1
        leaves;
  }
    where
      by : (q : Bool) → IsTrue q → IfSome (if q then Some (image (placed old.o)) else None)
          (λ bytes. Does f o e refused_status
          (outcome_with no_report (made_file out bytes ∷ [])) r a b s t)
          → Does f o e refused_status
          (outcome_with no_report (made_file out (image (placed old.o)) ∷ [])) r a b s t
      by true is h = h
      by false is h = cc

  -- the update is refused
  updated_by : (old : State S) (d : ElfError) (r : Result Bool Stop) (a : F) (s t : Outputs O E)
      → (IsTrue (f.tells a) → IfSome (stated_refusal d)
      (λ x. written_done file out old.o ≡ Err (complaint file (error_text x))))
      → ReadRose {T = ℕ} (Err d) (g.faults old.source) (g.faults old.source)
      → ReportsRefusal o e command (file_name file) d r s t
      → Writes (written_done file out old.o) r old old a a s t
  updated_by old d r a s t is read h =
      refused_writes g f o e command file (written_done file out old.o) old old ℕ d r a s t
      (λ tells told. is tells) (record { same_len = refl; same_bytes = refl; same_rest = refl })
      (omega arith) read h

  pub updated_refused : (old mid : State S) (d : ElfError) (r : Result Bool Stop) (a : F)
      (s t : Outputs O E)
      → Updates {A = ℕ} (Err d) old mid (calls.update_null.answer old.o)
      (flagged calls.update_null old)
      → ReportsRefusal o e command (file_name file) d r s t
      → Writes (written_done file out old.o) r old mid a a s t
  updated_refused old mid error.Memory r a s t came h =
      subst (λ (m : State S). Writes (written_done file out old.o) r old m a a s t) (sym came.1)
      (updated_by old error.Memory r a s t (λ tells. tt) tt h)
  updated_refused old mid error.Read r a s t came h =
      absurd (update_refusal old.o error.Read came.0).1
  updated_refused old mid error.Write r a s t came h =
      absurd (update_refusal old.o error.Write came.0).1
  updated_refused old mid d r a s t came h =
      subst (λ (m : State S). Writes (written_done file out old.o) r old m a a s t) (sym came.1)
      (updated_by old d r a s t
      (λ tells. unwritten_is file out old.o d (update_refusal old.o d came.0).0) tt h)

-- ---- The image of an open file

module _ {S F D O E : Type 0} (g : SourceGhosts S) (f : FilesGhosts F D) (o : SinkGhosts O)
    (e : SinkGhosts E) (command : List ℕ) (done : List ℕ → Object → Result Done Complaint)
    (file : List ℕ) (r : Result Bool Stop) (src : S) (a b : F)
    (s t : Outputs O E) where
  abbrev stated : List ℕ → Outcome
  stated bytes = written_outcome command (image_done done file (file_object bytes))

  -- no bound is stated
  no_bound : (q : Result Done Complaint)
      → unbounded (written_outcome command q) ≡ written_outcome command q
  unfolding written_outcome
  no_bound (Ok done) = refl
  no_bound (Err c) = refl

  none_asked : (q : Result Done Complaint) (x : Result Bool Stop) (m n : ℕ)
      → OnOk x (IsWithin (written_outcome command q).asks m n)
  unfolding written_outcome
  none_asked (Ok done) (Ok y) m n = tt
  none_asked (Err c) (Ok y) m n = tt
  none_asked q (Err stop) m n = tt

  asked_none : (held : Option (List ℕ)) (m n : ℕ)
      → IfSome held (λ bytes. OnOk r (IsWithin (stated bytes).asks m n))
  asked_none None m n = tt
  asked_none (Some bytes) m n = none_asked _ r m n

  unbound : (q : Result Done Complaint) → DoesHere f o e command q r a b s t
      → Does f o e refused_status (unbounded (written_outcome command q)) r a b s t
  unbound q h =
      subst (λ (x : Outcome). Does f o e refused_status x r a b s t) (sym (no_bound q)) h

  -- the image is an object
  pub edits_written : (begun new : State S) (n : ℕ)
      → Asks {T = Object} g (Ok begun.o) src begun.source n
      → IfSome (g.holds src) (λ bytes. Follows (Ok begun.o) (file_object bytes))
      → begun.told ≡ is_some (g.holds src)
      → WritesFile g f o e (written_outcome command (done file begun.o)) r begun new a b s t
      → EditsFile g f o e stated r src new.source a b s t
  edits_written begun new n asks answer told h = record {
    does = λ tells. by (g.holds src) answer told tells;
    asks = λ tells. asked_none (g.holds src) _ _;
    source = leaves_then g src begun.source new.source asks.leaves h.source;
    later = let one = asks.later in let two = h.later in omega (arith, one, two);
    live = h.live;
    leaves = on_way r h.leaves;
  }
    where
      by : (held : Option (List ℕ))
          → IfSome held (λ bytes. Follows (Ok begun.o) (file_object bytes))
          → begun.told ≡ is_some held → IsTrue (f.tells a)
          → IfSome held (λ bytes. Does f o e refused_status (unbounded (stated bytes)) r a b s t)
      by None is told_is tells = tt
      by (Some bytes) is told_is tells =
          rw is (unbound (done file begun.o) (h.does tells told_is))

      on_way : (q : Result Bool Stop) → LeavesFilesBy f o e (SourceRose g begun new) q a b s t
          → LeavesFilesBy f o e (Rose (g.faults src) (g.faults new.source)) q a b s t
      on_way (Ok x) l = record { totals = l.totals; keeps = l.keeps; read = tt; write = tt }
      on_way (Err Read) l = record {
        totals = l.totals;
        keeps = l.keeps;
        read = let rose = l.read in let first = asks.later in omega (arith, first, rose);
        write = tt;
      }
      on_way (Err Write) l =
          record { totals = l.totals; keeps = l.keeps; read = tt; write = l.write }
      on_way (Err Memory) l =
          record { totals = l.totals; keeps = l.keeps; read = tt; write = tt }

module _ {S F D O E : Type 0} (g : SourceGhosts S) (f : FilesGhosts F D) (o : SinkGhosts O)
    (e : SinkGhosts E) (command : List ℕ) (done : List ℕ → Object → Result Done Complaint)
    (file : List ℕ) (r : Result Bool Stop) (src : S) (a : F)
    (s t : Outputs O E) where
  -- it is none, or an archive
  pub edits_refused : (after : S) (n : ℕ) (d : ElfError)
      → Asks {T = Object} g (Err d) src after n
      → IfSome (g.holds src) (λ bytes. Follows {T = Object} (Err d) (file_object bytes))
      → ReportsRefusal o e command (file_name file) d r s t
      → EditsFile g f o e (stated g f o e command done file r src a a s t) r src after a a s t
  edits_refused after n d asks answer h = record {
    does = λ tells. by (g.holds src) answer tells;
    asks = λ tells. asked_none g f o e command done file r src a a s t (g.holds src) _ _;
    source = asks.leaves;
    later = asks.later;
    live = λ small. refl;
    leaves = refused_leaves f o e command (Rose (g.faults src) (g.faults after)) Object d file
        (g.faults src) (g.faults after) r a s t asks.read (λ rose. rose) h;
  }
    where
      failed : (q : Result Object ElfError) (c : Option ElfError) → IfSome c (λ x. q ≡ Err x)
          → IfSome c (λ x. image_done done file q
          ≡ Err (complaint file (error_text x)))
      failed q None is = tt
      failed q (Some x) is =
          ap (λ (y : Result Object ElfError). image_done done file y) is

      by : (held : Option (List ℕ))
          → IfSome held (λ bytes. Follows {T = Object} (Err d) (file_object bytes))
          → IsTrue (f.tells a)
          → IfSome held (λ bytes. Does f o e refused_status
          (unbounded (stated g f o e command done file r src a a s t bytes)) r a a s t)
      by None is tells = tt
      by (Some bytes) is tells =
          unbound g f o e command done file r src a a s t _
          (refused_does f o e command file d _ r a s t tells
          (failed (file_object bytes) (stated_refusal d) is) h)

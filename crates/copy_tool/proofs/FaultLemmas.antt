-- A fault of copy, by what is stated of it.
use Rattle.std.proofs.Common.{◌≡◌, ◌⊎◌, ◌++◌, ℕ, Bool, List, codes, Option, Some, None, Result, Ok, Err, IfSome, IfNone, refl, sym, ap, ◌∙◌, subst, append-nil}
use Rattle.elf_types.specs.Answers.{◌>>=◌}
use Rattle.elf_types.specs.declared.errors.ElfError.{ElfError}
use Rattle.elf_types.specs.declared.errors.ElfError.TheVariants as error
use Rattle.elf_outside.specs.Asks.{ReadRose}
use Rattle.elf_outside.specs.Counts.{Rose}
use Rattle.elf_outside.specs.declared.sources.Source.{Ghosts as SourceGhosts}
use Rattle.elf_outside.specs.declared.sinks.Sink.{Ghosts as SinkGhosts}
use Rattle.elf_outside.specs.declared.file_sets.Files.{Ghosts as FilesGhosts}
use Rattle.elf_object.specs.Object.{Object}
use Rattle.rebuild_files.specs.elf_descriptor.State.{State}
use Rattle.rebuild_model.specs.Arranged.{Rebuilt}
use Rattle.rebuild_model.specs.Copied.{Changes, CopyFault as StatedFault, or_strip, copied}
use Rattle.rebuild_model.specs.Copied.CopyFault.{NoSection, NoBytes, Allocated, Fixed, NoTable, Strip}
use Rattle.rebuild_model.specs.Files.{file_of}
use Rattle.rebuild_files.specs.elfkit_outcomes.Copy.{copy_text}
use Rattle.tool_output.specs.declared.stops.Stop.{Stop}
use Rattle.tool_output.specs.declared.stops.Stop.TheVariants as stops
use Rattle.tool_output.specs.declared.outputs.Outputs.{Outputs}
use Rattle.tool_output.specs.Names.{file_name}
use Rattle.tool_output.specs.Statuses.{refused_status}
use Rattle.tool_output.specs.Reports.{Reports, refusal_report}
use Rattle.tool_output.specs.Steps.{OnRead, OnWrite, LeavesOutputs, SinkRose}
use Rattle.tool_output.specs.Made.{Done, Complaint, made_file_alone, complaint, of_file, written_outcome}
use Rattle.tool_output.proofs.StepLemmas.{keeps_none}
use Rattle.tool_output.proofs.FileLemmas.{totals_none}
use Rattle.tool_output.proofs.OutcomeLemmas.{nothing_done}
use Rattle.rebuild_files.specs.tool_objects.Steps.{SourceRose}
use Rattle.rebuild_files.specs.tool_files.ElfImages.Writes.{WritesFile}
use Rattle.rebuild_files.proofs.tool_files.elf_images.WriteLemmas.{DoesHere, outputs_leave, said_done}
use Rattle.rebuild_changes.specs.declared.faults.CopyFault.{CopyFault}
use Rattle.rebuild_changes.specs.declared.faults.CopyFault.TheVariants as faults
use Rattle.rebuild_changes.specs.Stated.{stated_copy_fault, outer_result}
use Rattle.rebuild_copy.specs.rebuild_plan.declared.plans.RangedPlan.{RangedPlan}
use Rattle.rebuild_copy.specs.Plans.{file_copied, StreamsCopied}
use Rattle.copy_tool.specs.Faults.{named_text, copy_fault_text, fault_stop}
use Rattle.copy_tool.specs.Writes.{made_done, copied_done, file_done}

-- ---- A refusal

-- a fault that is no stop is stated, with its text
refusal_stated : (fault : CopyFault) → fault_stop fault ≡ None
    → (d : StatedFault) × (stated_copy_fault fault ≡ Some d) × (copy_text d ≡ copy_fault_text fault)
unfolding copy_text copy_fault_text named_text
refusal_stated (faults.NoSection name) none =
    (NoSection name, refl, sym (append-nil (codes "no section " ++ name)))
refusal_stated (faults.NoBytes name) none = (NoBytes name, refl, refl)
refusal_stated (faults.Allocated name) none = (Allocated name, refl, refl)
refusal_stated (faults.Fixed name) none = (Fixed name, refl, refl)
refusal_stated faults.NoTable none = (NoTable, refl, refl)
refusal_stated (faults.Strip error.Memory) none = cc
refusal_stated (faults.Strip error.Read) none = cc
refusal_stated (faults.Strip error.Write) none = cc
refusal_stated (faults.Strip e) none = (Strip e, refl, refl)

-- what is done is known by the file: a refusal of the update is said as one of a step
pub done_as_file : (file out : List ℕ) (r : Result Rebuilt StatedFault)
    → made_done file out r ≡ file_done file out (file_copied r)
unfolding copy_text
done_as_file file out (Err f) = refl
done_as_file file out (Ok m) = by (file_of m.object)
  where
    by : (q : Result (List ℕ) ElfError)
        → (of_file file q >>= λ bytes. Ok (made_file_alone out bytes)) ≡ file_done file out
        (or_strip q)
    by (Ok bytes) = refl
    by (Err e) = refl

fault_done : (c : Changes) (o : Object) (file out : List ℕ) (fault : CopyFault)
    → fault_stop fault ≡ None
    → IfSome (stated_copy_fault fault) (λ d. file_copied (copied c o) ≡ Err d)
    → copied_done c file out o ≡ Err (complaint file (copy_fault_text fault))
fault_done c o file out fault none is =
    let d = refusal_stated fault none in
    let refused : file_copied (copied c o) ≡ Err d.0 =
    subst (λ (x : Option StatedFault). IfSome x (λ y. file_copied (copied c o) ≡ Err y)) d.1 is in
    done_as_file file out (copied c o)
    ∙ ap (λ (r : Result (List ℕ) StatedFault). file_done file out r) refused
    ∙ ap (λ (text : List ℕ). Err (complaint file text)) d.2

-- ---- A stop

stop_cause : (fault : CopyFault) (stop : Stop) (x y : ℕ) → fault_stop fault ≡ Some stop
    → ReadRose (outer_result {T = RangedPlan} (Err fault)) x y
    → OnRead {T = Bool} (Err stop) (Rose x y) × OnWrite {T = Bool} (Err stop) ⊥
stop_cause (faults.NoSection name) stop x y is rose = cc
stop_cause (faults.NoBytes name) stop x y is rose = cc
stop_cause (faults.Allocated name) stop x y is rose = cc
stop_cause (faults.Fixed name) stop x y is rose = cc
stop_cause faults.NoTable stop x y is rose = cc
stop_cause (faults.Strip error.Memory) stop x y is rose =
    let same : stops.Memory ≡ stop = cc in
    subst (λ (q : Stop). OnRead {T = Bool} (Err q) (Rose x y) × OnWrite {T = Bool} (Err q) ⊥) same
    (tt, tt)
stop_cause (faults.Strip error.Read) stop x y is rose =
    let same : stops.Read ≡ stop = cc in
    subst (λ (q : Stop). OnRead {T = Bool} (Err q) (Rose x y) × OnWrite {T = Bool} (Err q) ⊥) same
    (rose, tt)
stop_cause (faults.Strip error.Write) stop x y is rose = absurd rose
stop_cause (faults.Strip e) stop x y is rose = cc

never_written : (stop : Stop) (P : Type 0) → OnWrite {T = Bool} (Err stop) ⊥
    → OnWrite {T = Bool} (Err stop) P
never_written stops.Read P h = tt
never_written stops.Write P h = absurd h
never_written stops.Memory P h = tt

-- ---- The step

module _ {S F D O E : Type 0} (g : SourceGhosts S) (f : FilesGhosts F D) (o : SinkGhosts O)
    (e : SinkGhosts E) (c : Changes) (file out : List ℕ) (fault : CopyFault) (old mid : State S)
    (a : F) where
  abbrev Writes : Result Bool Stop → Outputs O E → Outputs O E → Type 0
  Writes r s t =
      WritesFile g f o e (written_outcome (codes "copy") (copied_done c file out old.o)) r old
      (record old { source = mid.source }) a a s t

  -- the message was given
  fault_said : (r : Result Bool Stop) (s t : Outputs O E) → StreamsCopied g c (Err fault) old mid
      → fault_stop fault ≡ None
      → Reports o e r s t (refusal_report (codes "copy") (file_name file) (copy_fault_text fault))
      → LeavesOutputs o e ⊥ r s t → Writes r s t
  fault_said r s t copies none said left = record {
    does = λ tells told.
        subst (λ (q : Result Done Complaint). DoesHere f o e (codes "copy") q r a a s t)
        (sym (fault_done c old.o file out fault none (copies.answer told)))
        (said_done f o e (codes "copy") file (copy_fault_text fault) r a s t tells said);
    source = copies.asks.source.leaves;
    later = copies.asks.source.later;
    live = λ small. refl;
    leaves = outputs_leave f o e (codes "copy")
        (SourceRose g old (record old { source = mid.source })) r a s t left;
  }

  -- or the step stopped before it wrote
  fault_stopped : (stop : Stop) (s : Outputs O E) → StreamsCopied g c (Err fault) old mid
      → fault_stop fault ≡ Some stop → Writes (Err stop) s s
  fault_stopped stop s copies is =
      let cause = stop_cause fault stop (g.faults old.source) (g.faults mid.source) is
      copies.asks.source.read in
      record {
        does = λ tells told.
            nothing_done f o e refused_status
            (written_outcome (codes "copy") (copied_done c file out old.o)) stop a s;
        source = copies.asks.source.leaves;
        later = copies.asks.source.later;
        live = λ small. refl;
        leaves = record {
          totals = totals_none f o e a;
          keeps = keeps_none o e s;
          read = cause.0;
          write = never_written stop
              (Rose (f.write_faults a) (f.write_faults a)
              ⊎ SinkRose o e s.out.now s.out.now s.err.now s.err.now) cause.1;
        };
      }

  pub fault_writes : (r : Result Bool Stop) (s t : Outputs O E)
      → StreamsCopied g c (Err fault) old mid
      → IfNone (fault_stop fault) (Reports o e r s t
      (refusal_report (codes "copy") (file_name file) (copy_fault_text fault)))
      → IfSome (fault_stop fault) (λ stop. (r ≡ Err stop) × (t ≡ s))
      → IfNone (fault_stop fault) (LeavesOutputs o e ⊥ r s t) → Writes r s t
  fault_writes r s t copies said stopped left = by (fault_stop fault) refl said stopped left
    where
      by : (q : Option Stop) → fault_stop fault ≡ q
          → IfNone q (Reports o e r s t
          (refusal_report (codes "copy") (file_name file) (copy_fault_text fault)))
          → IfSome q (λ stop. (r ≡ Err stop) × (t ≡ s))
          → IfNone q (LeavesOutputs o e ⊥ r s t) → Writes r s t
      by None is said_so unstopped left_so = fault_said r s t copies is said_so left_so
      by (Some stop) is unsaid came unleft =
          rw (came.0, came.1) (fault_stopped stop s copies is)

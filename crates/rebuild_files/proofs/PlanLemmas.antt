-- The file of a plan is written, where the plan is that of a stated file.
use Rattle.std.proofs.Common.{◌≡◌, ◌∷◌, ◌≤◌, ℕ, Bool, true, false, List, [], Some, None, Result, Ok, IfSome, IsTrue, refl, sym, ap, ◌∙◌, subst}
use Rattle.std.specs.Prelude.{if◌then◌else◌}
use Rattle.elf_outside.specs.Asks.{Leaves}
use Rattle.elf_outside.specs.declared.sources.Source.{Ghosts as SourceGhosts}
use Rattle.elf_outside.specs.declared.sinks.Sink.{Ghosts as SinkGhosts}
use Rattle.elf_outside.specs.declared.file_sets.Files.{Ghosts as FilesGhosts}
use Rattle.elfkit_outcomes.specs.elf_object.Object.{Object}
use Rattle.tool_files.specs.elf_descriptor.State.{State}
use Rattle.tool_output.specs.declared.stops.Stop.{Stop}
use Rattle.tool_output.specs.declared.outputs.Outputs.{Outputs}
use Rattle.tool_output.specs.Outcomes.{Does}
use Rattle.tool_output.specs.Made.{Done, Complaint, made_file, made_file_alone, written_outcome, outcome_with}
use Rattle.tool_output.specs.Reports.{Report, no_report}
use Rattle.tool_output.specs.Statuses.{refused_status}
use Rattle.tool_output.proofs.UnderWayLemmas.{shown_none}
use Rattle.tool_files.specs.ElfImages.Writes.{WritesFile}
use Rattle.tool_files.proofs.elf_images.WriteLemmas.{DoesHere, written_then}
use Rattle.rebuild_plan.specs.rebuild_image.Ranges.Images.{ranged_text}
use Rattle.rebuild_plan.specs.rebuild_image.Ranges.Ranges.{KeptSource, kept_of_source}
use Rattle.rebuild_plan.specs.declared.plans.RangedPlan.{RangedPlan}
use Rattle.rebuild_plan.specs.Plans.{CopiesAs, kept_with}
use Rattle.rebuild_files.specs.Writing.{WritesImage, IsOverSource, text_with, plan_text}
use Rattle.rebuild_files.proofs.BegunLemmas.{over_stays}

module _ {S F D O E : Type 0} (g : SourceGhosts S) (f : FilesGhosts F D) (o : SinkGhosts O)
    (e : SinkGhosts E) (command out : List ℕ) where
  -- a file alone
  file_alone : (bytes : List ℕ) (r : Result Bool Stop) (a b : F) (s t : Outputs O E)
      → Does f o e refused_status (outcome_with no_report (made_file out bytes ∷ [])) r a b s t
      → DoesHere f o e command (Ok (made_file_alone out bytes)) r a b s t
  unfolding written_outcome
  file_alone bytes r a b s t h =
      subst (λ (x : Report).
      Does f o e refused_status (outcome_with x (made_file out bytes ∷ [])) r a b s t)
      (sym shown_none) h

  told_text : (k : KeptSource) (x : RangedPlan) (bytes : List ℕ) (r : Result Bool Stop) (a b : F)
      (s t : Outputs O E) → IsTrue k.told → ranged_text (kept_with k x) x.plan x.end ≡ bytes
      → IfSome (text_with k x) (λ y. Does f o e refused_status
      (outcome_with no_report (made_file out y ∷ [])) r a b s t)
      → Does f o e refused_status (outcome_with no_report (made_file out bytes ∷ [])) r a b s t
  told_text k x bytes r a b s t told same h = by k.told told h
    where
      by : (y : Bool) → IsTrue y
          → IfSome (if y then Some (ranged_text (kept_with k x) x.plan x.end) else None) (λ z.
          Does f o e refused_status (outcome_with no_report (made_file out z ∷ [])) r a b s t)
          → Does f o e refused_status (outcome_with no_report (made_file out bytes ∷ [])) r a b s t
      by true is here =
          subst (λ (z : List ℕ). Does f o e refused_status
          (outcome_with no_report (made_file out z ∷ [])) r a b s t) same here
      by false is here = cc

  -- what is stated is the file, and the plan is that of its bytes over the base
  abbrev IsFileOf : Result Done Complaint → List ℕ → RangedPlan → Type 0
  IsFileOf q base x =
      (bytes : List ℕ) × (q ≡ Ok (made_file_alone out bytes)) × CopiesAs base x bytes

  module _ (old mid : State S) (next : S) (x : RangedPlan) (q : Result Done Complaint)
      (r : Result Bool Stop) (a b : F) (s t : Outputs O E) (over : IsOverSource g old)
      (object : mid.o ≡ old.o) (told_same : mid.told ≡ old.told)
      (leaves : Leaves g old.source mid.source)
      (stated : IsTrue old.told → IsFileOf q old.o.base x)
      (writes : WritesImage g f o e out (plan_text g mid.source x) r mid.source next a b s t) where
    plan_done : WritesFile g f o e (written_outcome command q) r mid
        (record old { source = next }) a b s t
    plan_done = record {
      does = λ tells told.
          let known = stated (subst (λ (y : Bool). IsTrue y) told_same told) in
          let here = over_stays g old mid over object told_same leaves in
          subst (λ (y : Result Done Complaint). DoesHere f o e command y r a b s t) (sym known.1)
          (file_alone known.0 r a b s t
          (told_text (kept_of_source g mid.source) x known.0 r a b s t
          (subst (λ (y : Bool). IsTrue y) here.told told)
          (known.2 (kept_of_source g mid.source)
          (sym here.base ∙ ap (λ (p : Object). p.base) object))
          (writes.does tells)));
      source = writes.source;
      later = writes.later;
      live = writes.live;
      leaves = writes.leaves;
    }

    -- it is written over the object that was read for it
    pub plan_written : g.faults old.source ≤ g.faults mid.source
        → WritesFile g f o e (written_outcome command q) r old (record old { source = next }) a b
        s t
    plan_written later =
        written_then g f o e command q q old mid (record old { source = next }) r a b s t
        told_same leaves later (λ t. refl) plan_done

-- What strip writes, and what it says where it writes nothing.
use Rattle.std.proofs.Common.{◌≡◌, ℕ, Bool, List, codes, Result, Ok, Err, IfSome, ap}
use Rattle.elf_types.specs.declared.errors.ElfError.{ElfError}
use Rattle.elf_types.specs.declared.errors.ElfError.TheVariants as error
use Rattle.elf_types.specs.Answers.{stated_refusal}
use Rattle.elf_types.specs.Text.{error_text}
use Rattle.elf_outside.specs.declared.sources.Source.{Ghosts as SourceGhosts}
use Rattle.elf_outside.specs.declared.sinks.Sink.{Ghosts as SinkGhosts}
use Rattle.elf_outside.specs.declared.file_sets.Files.{Ghosts as FilesGhosts}
use Rattle.rebuild_files.specs.elfkit_outcomes.elf_object.Object.{Object}
use Rattle.rebuild_files.specs.elf_descriptor.State.{State}
use Rattle.rebuild_files.specs.elfkit_outcomes.rebuild_model.Removed.{removed_sections}
use Rattle.rebuild_files.specs.elfkit_outcomes.rebuild_model.Rebuilt.{rebuilt}
use Rattle.rebuild_files.specs.elfkit_outcomes.rebuild_model.Files.{file_made}
use Rattle.rebuild_files.specs.elfkit_outcomes.Strip.{strip_alone}
use Rattle.tool_output.specs.declared.stops.Stop.{Stop}
use Rattle.tool_output.specs.declared.outputs.Outputs.{Outputs}
use Rattle.tool_output.specs.Names.{file_name}
use Rattle.tool_output.specs.Made.{complaint, written_outcome}
use Rattle.rebuild_files.specs.tool_objects.Refusals.{ReportsRefusal}
use Rattle.rebuild_files.specs.tool_files.ElfImages.Writes.{WritesFile}
use Rattle.rebuild_files.proofs.tool_files.elf_images.WriteLemmas.{refused_writes}
use Rattle.rebuild_files.specs.rebuild_plan.declared.plans.RangedPlan.{RangedPlan}
use Rattle.rebuild_files.specs.rebuild_plan.Plans.{FileAnswers}
use Rattle.rebuild_files.specs.Writing.{WritesImage, IsOverSource, plan_text}
use Rattle.rebuild_files.proofs.PlanLemmas.{plan_written}
use Rattle.strip_tool.specs.Steps.{PlansStripped}
use Rattle.strip_tool.specs.Writes.{stripped_done, object_done}

module _ (debug_only : Bool) (names : List (List ℕ)) (file out : List ℕ) where
  abbrev stated : Object → Result (List ℕ) ElfError
  stated p = file_made (rebuilt p (removed_sections debug_only names p))

  alone_is : (p : Object) (q : Result (List ℕ) ElfError) → stated p ≡ q
      → object_done debug_only names file out p ≡ stripped_done file out q
  unfolding strip_alone
  alone_is p q is = ap (stripped_done file out) is

  fault_is : (base : List ℕ) (p : Object) (e : ElfError) → FileAnswers base (Err e) (stated p)
      → IfSome (stated_refusal e)
      (λ d. object_done debug_only names file out p ≡ Err (complaint file (error_text d)))
  fault_is base p error.Memory is = tt
  fault_is base p error.Read is = tt
  fault_is base p error.Write is = absurd is
  fault_is base p e is = alone_is p (Err e) is

module _ {S F D O E : Type 0} (g : SourceGhosts S) (f : FilesGhosts F D) (o : SinkGhosts O)
    (e : SinkGhosts E) (debug_only : Bool) (names : List (List ℕ)) (file out : List ℕ) where
  abbrev Writes : Object → Result Bool Stop → State S → State S → F → F → Outputs O E
      → Outputs O E → Type 0
  Writes p r old new a b s t =
      WritesFile g f o e (written_outcome (codes "strip") (object_done debug_only names file out p))
      r old new a b s t

  pub stripped_written : (old mid : State S) (next : S) (x : RangedPlan) (r : Result Bool Stop)
      (a b : F) (s t : Outputs O E) → IsOverSource g old
      → PlansStripped g debug_only names (Ok x) old mid
      → WritesImage g f o e out (plan_text g mid.source x) r mid.source next a b s t
      → Writes old.o r old (record old { source = next }) a b s t
  stripped_written old mid next x r a b s t over plans writes =
      plan_written g f o e (codes "strip") out old mid next x
      (object_done debug_only names file out old.o) r a b s t over plans.object plans.told
      plans.leaves
      (λ told.
      let known = plans.answer told in
      (known.0, alone_is debug_only names file out old.o (Ok known.0) known.1, known.2))
      writes plans.later

  pub stripped_refused : (old mid : State S) (d : ElfError) (r : Result Bool Stop) (a : F)
      (s t : Outputs O E) → PlansStripped g debug_only names (Err d) old mid
      → ReportsRefusal o e (codes "strip") (file_name file) d r s t
      → Writes old.o r old (record old { source = mid.source }) a a s t
  stripped_refused old mid d r a s t plans h =
      refused_writes g f o e (codes "strip") file (object_done debug_only names file out old.o)
      old (record old { source = mid.source }) RangedPlan d r a s t
      (λ tells told. fault_is debug_only names file out old.o.base old.o d (plans.answer told))
      plans.leaves plans.later plans.read h

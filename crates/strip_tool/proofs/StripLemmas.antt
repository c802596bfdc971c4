-- What is removed of an object, and the plan of the image without it.
use Rattle.std.proofs.Common.{ℕ, Bool, List, [], Result, Ok, Err, sym, ◌∙◌, subst, arith}
use Rattle.std.specs.Prelude.{IsTrue}
use Rattle.elf_types.specs.declared.errors.ElfError.{ElfError}
use Rattle.elf_outside.specs.declared.sources.Source.{Ghosts}
use Rattle.elf_outside.proofs.AskLemmas.{read_rose_before, read_rose_on}
use Rattle.rebuild_files.specs.elfkit_outcomes.elf_object.Object.{Object}
use Rattle.rebuild_files.specs.elfkit_outcomes.elf_object.Words.{Wants, Answers}
use Rattle.rebuild_files.specs.elf_descriptor.State.{State}
use Rattle.rebuild_files.specs.elf_descriptor.Reads.{Queries}
use Rattle.rebuild_files.proofs.tool_objects.SourceSteps.{leaves_then}
use Rattle.rebuild_files.specs.elfkit_outcomes.rebuild_model.Files.{file_made}
use Rattle.rebuild_files.specs.elfkit_outcomes.rebuild_model.Removed.{removed_sections}
use Rattle.rebuild_files.specs.elfkit_outcomes.rebuild_model.Rebuilt.{rebuilt}
use Rattle.rebuild_files.specs.rebuild_plan.rebuild_select.Calls as calls
use Rattle.rebuild_files.specs.rebuild_plan.declared.plans.RangedPlan.{RangedPlan}
use Rattle.rebuild_files.specs.rebuild_plan.Plans.{FileAnswers, StreamsRebuilt}
use Rattle.rebuild_files.proofs.rebuild_plan.RemovedLaws.{set_is, never_refused}
use Rattle.strip_tool.specs.Steps.{PlansStripped}

module _ {S : Type 0} (g : Ghosts S) (debug_only : Bool) (names : List (List ℕ)) (wants : Wants)
    (old mid : State S) where
  abbrev Removes : Result (List ℕ) ElfError → Type 0
  Removes r = Queries g (calls.removed debug_only names) [] r old mid

  pub planned_without : (new : State S) (set : List ℕ) (r : Result RangedPlan ElfError) (n : ℕ)
      → Answers old.told wants (Ok set) ((calls.removed debug_only names).answer old.o)
      → Removes (Ok set) → StreamsRebuilt g set r n mid new
      → PlansStripped g debug_only names r old new
  planned_without new set r n came queries streams = record {
    answer = λ t.
        subst (λ (l : List ℕ). FileAnswers old.o.base r (file_made (rebuilt old.o l)))
        (set_is debug_only names wants old.told old.o set came t)
        (subst (λ (o : Object). FileAnswers o.base r (file_made (rebuilt o set))) queries.object
        (streams.answer (subst (λ (b : Bool). IsTrue b) (sym queries.reads.told) t)));
    object = streams.asks.object ∙ queries.object;
    told = streams.asks.told ∙ queries.reads.told;
    leaves = leaves_then g old.source mid.source new.source queries.reads.source.leaves
        streams.asks.source.leaves;
    later = let one = queries.reads.source.later in let two = streams.asks.source.later in
        omega (arith, one, two);
    read = read_rose_before r (g.faults old.source) (g.faults mid.source) (g.faults new.source)
        queries.reads.source.later streams.asks.source.read;
  }

  pub unplanned : (e : ElfError)
      → Answers {A = List ℕ} old.told wants (Err e)
      ((calls.removed debug_only names).answer old.o)
      → Removes (Err e) → PlansStripped g debug_only names (Err e) old mid
  unplanned e came queries = record {
    answer = λ t.
        never_refused debug_only names wants old.told old.o (λ d. FileAnswers old.o.base (Err d)
        (file_made (rebuilt old.o (removed_sections debug_only names old.o)))) e came tt tt;
    object = queries.object;
    told = queries.reads.told;
    leaves = queries.reads.source.leaves;
    later = queries.reads.source.later;
    read = read_rose_on (List ℕ) RangedPlan e (g.faults old.source) (g.faults mid.source)
        queries.reads.source.read;
  }

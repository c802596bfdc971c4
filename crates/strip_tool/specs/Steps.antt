-- The step of strip on a descriptor.
use Rattle.std.specs.Prelude.{◌≡◌, ◌≤◌, ℕ, Bool, List, IsTrue, Result}
use Rattle.elf_types.specs.declared.errors.ElfError.{ElfError}
use Rattle.elf_outside.specs.declared.sources.Source.{Ghosts}
use Rattle.elf_outside.specs.Asks.{Leaves, ReadRose}
use Rattle.rebuild_files.specs.elf_descriptor.State.{State}
use Rattle.rebuild_files.specs.elfkit_outcomes.rebuild_model.Files.{file_made}
use Rattle.rebuild_files.specs.elfkit_outcomes.rebuild_model.Removed.{removed_sections}
use Rattle.rebuild_files.specs.elfkit_outcomes.rebuild_model.Rebuilt.{rebuilt}
use Rattle.rebuild_files.specs.rebuild_plan.declared.plans.RangedPlan.{RangedPlan}
use Rattle.rebuild_files.specs.rebuild_plan.Plans.{FileAnswers}

-- It plans the file of the object without the removed sections, or refuses it, where the source
-- tells its bytes. Over every source it leaves the object and what the source holds, and tells the
-- cause of a failed read.
pub record PlansStripped {S : Type 0} (g : Ghosts S) (debug_only : Bool) (names : List (List ℕ))
    (result : Result RangedPlan ElfError) (old new : State S) : Type 0 where
  pub answer : IsTrue old.told → FileAnswers old.o.base result
      (file_made (rebuilt old.o (removed_sections debug_only names old.o)))
  pub object : new.o ≡ old.o
  pub told : new.told ≡ old.told
  pub leaves : Leaves g old.source new.source
  pub later : g.faults old.source ≤ g.faults new.source
  pub read : ReadRose result (g.faults old.source) (g.faults new.source)

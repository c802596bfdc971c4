-- How copy answers, over a source that tells its bytes and over one that does not.
use Rattle.std.specs.Prelude.{◌≡◌, ◌⊎◌, ℕ, Bool, true, List, Result, IfOk, IsTrue}
use Rattle.elf_types.specs.Answers.{FollowsBy}
use Rattle.elf_outside.specs.declared.sources.Source.{Ghosts}
use Rattle.rebuild_object.specs.elf_descriptor.State.{State}
use Rattle.rebuild_model.specs.Arranged.{Rebuilt}
use Rattle.rebuild_model.specs.Rebuilt.{renews_names}
use Rattle.rebuild_model.specs.Removed.{removed_by_name}
use Rattle.rebuild_model.specs.Copied.{Changes, CopyFault as StatedFault, copied}
use Rattle.rebuild_edits.specs.rebuild_select.Steps.{IsRemovable}
use Rattle.rebuild_object.specs.rebuild_keep.declared.rebuilding.Rebuilt.{Rebuilt as Made}
use Rattle.rebuild_object.specs.rebuild_keep.Makes.{AsksFor}
use Rattle.rebuild_changes.specs.declared.faults.CopyFault.{CopyFault}
use Rattle.rebuild_changes.specs.Stated.{stated_copy_fault, outer_result}
use Rattle.rebuild_copy.specs.Changing.{changed_anew, EndsEarly}
use Rattle.rebuild_copy.specs.Plans.{copy_due}

-- what was made, as it is stated
abbrev pub seen_made : Made → Rebuilt
seen_made r = record { object = r.elf.o; tail = r.tail }

-- the stated object or fault, but for want of memory and failed reads
abbrev pub CopyAnswers : Result Made CopyFault → Result Rebuilt StatedFault → Type 0
CopyAnswers result stated = FollowsBy seen_made stated_copy_fault result stated

-- what is stated of the changes of some object that was made anew
pub record EndsChanged (c : Changes) (renewed : Bool) (result : Result Made CopyFault) : Type 0
  where
    pub anew : Rebuilt
    pub answer : CopyAnswers result (changed_anew c renewed anew)

-- It gives the object with these changes, where the source tells its bytes. Over every source some
-- sections are removed, and it ends as is stated of that. What it makes is known, and it leaves the
-- object that it reads.
pub record Copies {S : Type 0} (g : Ghosts S) (c : Changes) (result : Result Made CopyFault)
    (old new : State S) : Type 0 where
  pub answer : IsTrue old.told → CopyAnswers result (copied c old.o)
  pub removed : List ℕ
  pub removable : IsRemovable old.o removed
  pub exact : IsTrue old.told → removed ≡ removed_by_name c.remove old.o
  pub ends : EndsEarly old.o removed result
      ⊎ EndsChanged c (renews_names old.o removed) result
  pub made : IfOk result (λ r. r.elf.told ≡ true)
  pub asks : AsksFor g (outer_result result) old new (copy_due old.o removed)

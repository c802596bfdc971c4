-- The plan of the debug half, and its object.
use Rattle.std.specs.Prelude.{◌≡◌, ◌≤◌, ℕ, None, Result, IsTrue, IfOk, IfErr}
use Rattle.elf_types.specs.declared.errors.ElfError.{ElfError}
use Rattle.elf_types.specs.declared.errors.ElfError.TheVariants.{Memory}
use Rattle.elf_outside.specs.Asks.{ReadRose}
use Rattle.elf_object.specs.Object.{Object}
use Rattle.rebuild_model.specs.Files.{file_of}
use Rattle.rebuild_model.specs.Split.{debug_half}
use Rattle.rebuild_object.specs.elf_descriptor.State.{State}
use Rattle.rebuild_object.specs.rebuild_plan.declared.arranged.Arranged.{Arranged}
use Rattle.rebuild_object.specs.rebuild_plan.declared.plans.RangedPlan.{RangedPlan}
use Rattle.rebuild_object.specs.rebuild_plan.Plans.{FileAnswers, IsListable, IsRangedBy}
use Rattle.rebuild_object.specs.rebuild_plan.Reading.{ranges_due}
use Rattle.rebuild_debug.specs.Half.{half_due, half_kinds}

-- what was arranged is over no base, is read as bytes, and of the homes that keep theirs alone
pub record MakesHalf (o : Object) (x : Arranged) : Type 0 where
  pub tail_is : x.tail ≡ None
  pub kinds_are : x.kinds ≡ half_kinds o
  pub within : ranges_due x.ranges ≤ half_due o

-- a step arranges it, where the source tells its bytes; only memory can be wanted, and nothing is
-- read
pub record ArrangesHalf {S : Type 0} (s : State S) (result : Result Arranged ElfError)
    : Type 0 where
  pub answer : IsTrue s.told
      → IfOk result (λ x. IsRangedBy s.o.phdrs s.o.base (debug_half s.o) x)
  pub makes : IfOk result (MakesHalf s.o)
  pub small : IfOk result IsListable
  pub err : IfErr result (λ e. e ≡ Memory)

-- a step plans the file that an update writes of it, or refuses that as the update does, where the
-- source tells its bytes; it reads nothing
pub record PlansHalf {S : Type 0} (s : State S) (result : Result RangedPlan ElfError)
    : Type 0 where
  pub answer : IsTrue s.told → FileAnswers s.o.base result (file_of (debug_half s.o))
  pub unread : (a b : ℕ) → ReadRose result a b

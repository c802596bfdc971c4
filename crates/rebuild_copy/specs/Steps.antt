-- Steps of copy on what was gathered of an object.
use Rattle.std.specs.Prelude.{ℕ, ◌≤◌, Bool, true, false, [], Option, Some, None, Result, Err, OnOk}
use Rattle.elf_object.specs.Object.{Object}
use Rattle.rebuild_edits.specs.elf_descriptor.State.{State}
use Rattle.rebuild_model.specs.Copied.{CopyFault as StatedFault}
use Rattle.rebuild_changes.specs.declared.faults.CopyFault.{CopyFault}
use Rattle.rebuild_changes.specs.Stated.{IsWithoutDeviceFault}
use Rattle.rebuild_edits.specs.Edits.Steps.{IsPresentSection, Alters}
use Rattle.rebuild_plan.specs.declared.arranged.Arranged.{Arranged}
use Rattle.rebuild_plan.specs.Reading.{ranges_due}
use Rattle.rebuild_copy.specs.Changing.{IsUsable}
use Rattle.rebuild_copy.specs.Rows.{Origin, IsContents}

-- an object, as the state of a descriptor that tells its bytes: nothing of it is read
abbrev pub known : Object → State (Unit {0})
known o = record {
  o = o;
  told = true;
  loaded = [];
  held = [];
  room = [];
  ready = false;
  source = tt;
}

-- a step leaves the contents of the object that is stated, or the stated fault came
pub record Turns {T : Type 0} (o : Origin) (p : Object) (answer : Result Object StatedFault)
    (result : Result T CopyFault) (new : Arranged) : Type 0 where
  pub left : Object
  pub alters : Alters answer result (known p) (known left)
  pub contents : OnOk result (IsContents o left new)

-- no more is read of the base than before
abbrev pub ReadsNoMore : Arranged → Arranged → Type 0
ReadsNoMore old new = ranges_due new.ranges ≤ ranges_due old.ranges

-- so it is of every object whose contents they were, and of which something holds
pub record AltersContents {T : Type 0} (Holds : Object → Type 0)
    (answer : Object → Result Object StatedFault) (result : Result T CopyFault)
    (old new : Arranged) : Type 0 where
  pub unread : IsWithoutDeviceFault result
  pub less : OnOk result (ReadsNoMore old new)
  pub turns : (o : Origin) (p : Object) → IsContents o p old → Holds p
      → Turns o p (answer p) result new

abbrev pub always_holds : Object → Type 0
always_holds p = Unit {0}

-- the same where section s is there
abbrev pub AltersAt : {T : Type 0} → ℕ → (Object → Type 0) → (Object → Result Object StatedFault)
    → Result T CopyFault → Arranged → Arranged → Type 0
AltersAt s Holds answer result old new =
    AltersContents (λ p. IsPresentSection p s × Holds p) answer result old new

-- a usable string index
abbrev pub IsUsableIf : Bool → Object → Type 0
IsUsableIf renewed p = IsUsable p renewed

-- they become those of the object that is made of theirs
abbrev pub BecomesContents : (Object → Object) → Arranged → Arranged → Type 0
BecomesContents made old new =
    (o : Origin) (p : Object) → IsContents o p old → IsContents o (made p) new

-- a fault that may come tells no read and no write
abbrev pub IsFaultUnread : Option CopyFault → Type 0
IsFaultUnread None = Unit {0}
IsFaultUnread (Some fault) = IsWithoutDeviceFault {T = Unit {0}} (Err fault)

-- What a step of copy finds in an object that was made anew, and what it changes.
use Rattle.std.specs.Prelude.{◌≡◌, ◌≤◌, ◌<◌, ℕ, List, length, Option, Some, None, IsTrue, IfSome, Result, Ok, Err}
use Rattle.elf_types.specs.Answers.{FollowsBy}
use Rattle.law_rebuild.specs.elf_object.Object.{Object}
use Rattle.rebuild_making.specs.elf_descriptor.State.{State}
use Rattle.rebuild_changes.specs.rebuild_model.Copied.{CopyFault as StatedFault}
use Rattle.rebuild_changes.specs.declared.faults.CopyFault.{CopyFault}
use Rattle.rebuild_changes.specs.Stated.{stated_copy_fault, IsFault, IsWithoutDeviceFault}

-- ---- Sections

-- a section from 1 on that is there
abbrev pub IsPresentSection : Object → ℕ → Type 0
IsPresentSection o s = (0 < s) × (s < length o.sections)

-- the string index stays, and no section goes
pub record KeepsIndex (old new : Object) : Type 0 where
  pub index : new.header.shstrndx ≡ old.header.shstrndx
  pub count : length old.sections ≤ length new.sections

-- ---- Faults

-- there is a fault where one is stated, and it is that one
abbrev pub IsFaultIf : Option StatedFault → Option CopyFault → Type 0
IsFaultIf None None = Unit {0}
IsFaultIf None (Some fault) = ⊥
IsFaultIf (Some fault) None = ⊥
IsFaultIf (Some fault) (Some came) = IsFault fault came

-- the number of a section, where there is one of the name
abbrev pub IsNumber : Option ℕ → List ℕ → Result ℕ CopyFault → Type 0
IsNumber (Some s) name result = result ≡ Ok s
IsNumber None name (Ok s) = ⊥
IsNumber None name (Err fault) = IsFault (StatedFault.NoSection name) fault

-- ---- Steps

-- It finds what is stated, as it is seen, and leaves the object.
pub record Finds {S A T : Type 0} (see : T → A) (answer : Result A StatedFault)
    (result : Result T CopyFault) (old new : State S) : Type 0 where
  pub object : new.o ≡ old.o
  pub told : new.told ≡ old.told
  pub unread : IsWithoutDeviceFault result
  pub found : IsTrue old.told → FollowsBy see stated_copy_fault result answer

-- the object that is stated is left, or the stated fault came
abbrev pub IsAltered : {T : Type 0} → Result T CopyFault → Result Object StatedFault → Object
    → Type 0
IsAltered (Ok x) answer o = answer ≡ Ok o
IsAltered (Err fault) answer o = IfSome (stated_copy_fault fault) (λ d. answer ≡ Err d)

-- It leaves the object that is stated.
pub record Alters {S T : Type 0} (answer : Result Object StatedFault) (result : Result T CopyFault)
    (old new : State S) : Type 0 where
  pub told : new.told ≡ old.told
  pub keeps : KeepsIndex old.o new.o
  pub unread : IsWithoutDeviceFault result
  pub altered : IsTrue old.told → IsAltered result answer new.o

-- What copy arranges and plans: the object with the changes, as headers and ranges, and its file
-- (objcopy(1) has the like of them).
use Rattle.std.specs.Prelude.{◌≡◌, ◌⊎◌, ◌≤◌, ℕ, ◌+◌, Bool, List, [], Option, Result, Ok, Err, IsTrue, IfSome, IfOk, IfErr, OnOk}
use Rattle.elf_types.specs.Answers.{◌>>=◌}
use Rattle.elf_types.specs.declared.errors.ElfError.{ElfError}
use Rattle.elf_types.specs.declared.errors.ElfError.TheVariants.{Memory, Read}
use Rattle.elf_outside.specs.declared.sources.Source.{Ghosts}
use Rattle.elf_object.specs.Object.{Object, section_at}
use Rattle.elf_object.specs.Due.{homes_due}
use Rattle.rebuild_edits.specs.elf_descriptor.State.{State}
use Rattle.rebuild_model.specs.Arranged.{Rebuilt}
use Rattle.rebuild_model.specs.Files.{file_of}
use Rattle.rebuild_model.specs.Rebuilt.{rebuilt, renews_names}
use Rattle.rebuild_model.specs.Removed.{removed_by_name}
use Rattle.rebuild_model.specs.Copied.{Changes, CopyFault as StatedFault, or_strip, copied}
use Rattle.rebuild_edits.specs.rebuild_making.Placing.{made_of}
use Rattle.rebuild_edits.specs.rebuild_select.Calls.{names_home}
use Rattle.rebuild_edits.specs.rebuild_select.Steps.{IsRemovable}
use Rattle.rebuild_object.specs.rebuild_keep.Answers.{rebuild_due}
use Rattle.rebuild_object.specs.rebuild_keep.Makes.{AsksFor}
use Rattle.rebuild_object.specs.Objects.{Bases, AreBasesOf, object_over, object_from_arranged, object_due}
use Rattle.rebuild_plan.specs.declared.arranged.Arranged.{Arranged}
use Rattle.rebuild_plan.specs.declared.plans.RangedPlan.{RangedPlan}
use Rattle.rebuild_plan.specs.Plans.{CopiesAs, IsListable, IsRangedBy, stream_due}
use Rattle.rebuild_plan.specs.Reading.{ranges_due}
use Rattle.rebuild_changes.specs.declared.faults.CopyFault.{CopyFault}
use Rattle.rebuild_changes.specs.Stated.{stated_copy_fault, IsWithoutDeviceFault, outer_result}
use Rattle.rebuild_changes.specs.declared.faults.CopyFault.TheVariants as faults
use Rattle.rebuild_object.specs.Fitting.{IsArrangementReady}
use Rattle.rebuild_copy.specs.Changing.{changed_placed, changed_anew, IsUsable, IsNoSection, EndsEarly}
use Rattle.rebuild_copy.specs.Rows.{Origin, origin, IsListedAs, IsContents}

-- ---- Objects

-- what was arranged stands for an object, over bytes that the source may have given
abbrev pub seen_over : Bases → Object → Arranged → Rebuilt
seen_over b o x = record { object = object_over b o x; tail = x.tail }

-- what is read of an object over some bytes
abbrev pub origin_over : Object → Bases → Option ℕ → Origin
origin_over o b tail = record { object = o; tail = tail; bases = b }

-- a stated object is listed by these headers and ranges, or the stated fault came
abbrev pub ArrangesAs : Origin → Result Rebuilt StatedFault → Result Arranged CopyFault → Type 0
ArrangesAs o stated (Ok x) = (q : Object) × (stated ≡ Ok (made_of q o.tail)) × IsListedAs o q x
ArrangesAs o stated (Err fault) = IfSome (stated_copy_fault fault) (λ d. stated ≡ Err d)

-- Over every source: whatever bytes it gave, it is what the changes make of what another plan
-- stands for; or the fault is that of the changes of some object that was made anew.
abbrev pub IsChangedFrom : Object → Changes → Bool → Result Arranged CopyFault → Type 0
IsChangedFrom o c renewed (Ok x) =
    (anew : Arranged)
    × ((b : Bases) → AreBasesOf o b
    → changed_anew c renewed (seen_over b o anew) ≡ Ok (seen_over b o x))
IsChangedFrom o c renewed (Err fault) =
    (anew : Rebuilt)
    × IfSome (stated_copy_fault fault) (λ d. changed_anew c renewed anew ≡ Err d)

-- or it ended before the changes
abbrev pub EndsArranged : Object → Changes → Bool → List ℕ → Result Arranged CopyFault → Type 0
EndsArranged o c renewed removed result =
    EndsEarly o removed result ⊎ IsChangedFrom o c renewed result

-- ---- Steps

-- contents are changed, and get their places again
pub record ArrangesChanged (c : Changes) (renewed : Bool) (x : Arranged)
    (result : Result Arranged CopyFault) : Type 0 where
  pub each : (o : Origin) (p : Object) → IsContents o p x → IsUsable p renewed
      → ArrangesAs o (changed_placed c renewed o.tail p) result
  pub small : IfOk result IsListable
  pub less : IfOk result (λ y. ranges_due y.ranges ≤ ranges_due x.ranges)
  pub unread : IsWithoutDeviceFault result

-- an index that is usable of every object that is listed so, or else it is refused
abbrev pub ChecksIndex : Arranged → Bool → Result (Unit {0}) ElfError → Type 0
ChecksIndex x renewed (Ok u) = (o : Origin) (p : Object) → IsListedAs o p x → IsUsable p renewed
ChecksIndex x renewed (Err e) =
    ((o : Origin) (p : Object) → IsListedAs o p x → IsUsable p renewed → ⊥) × IsNoSection e

-- refused, since the index names no section
abbrev pub IsUnusable : {T : Type 0} → Result T CopyFault → Type 0
IsUnusable (Err (faults.Strip e)) = IsNoSection e
IsUnusable _ = ⊥

-- the same where the index may not be usable
pub record ArrangesUsable (c : Changes) (renewed : Bool) (x : Arranged)
    (result : Result Arranged CopyFault) : Type 0 where
  pub each : (o : Origin) (p : Object) → IsContents o p x
      → ArrangesAs o (changed_placed c renewed o.tail p) result
      ⊎ ((IsUsable p renewed → ⊥) × IsUnusable result)
  pub small : IfOk result IsListable
  pub less : IfOk result (λ y. ranges_due y.ranges ≤ ranges_due x.ranges)
  pub unread : IsWithoutDeviceFault result

-- the length of the home of the names
unfoldable pub table_due : Object → ℕ
table_due o = (section_at o o.header.shstrndx).home.len

-- The table of the names is held: the contents stay those of the object where the source tells its
-- bytes, and are those of some object over every one.
pub record HoldsTable {S : Type 0} (g : Ghosts S) (x next : Arranged)
    (result : Result (Unit {0}) ElfError) (old new : State S) : Type 0 where
  pub ok : IsTrue old.told → OnOk result ((p : Object) (tail : Option ℕ)
      → IsListedAs (origin old.o tail) p x → IsContents (origin old.o tail) p next)
  pub every : OnOk result ((b : Bases) (p : Object) (tail : Option ℕ) → AreBasesOf old.o b
      → IsListedAs (origin_over old.o b tail) p x
      → (q : Object) × IsContents (origin_over old.o b tail) q next)
  pub tail_is : OnOk result (next.tail ≡ x.tail)
  pub err : IfErr result (λ e. (e ≡ Memory) ⊎ (e ≡ Read))
  pub due : ℕ
  pub few : due ≤ table_due old.o
  pub some : due ≤ ranges_due x.ranges
  pub less : OnOk result (due + ranges_due next.ranges ≤ ranges_due x.ranges)
  pub asks : AsksFor g result old new due

-- it is held, and then the changes are made, where the plan may be one
pub record ArrangesWhere {S : Type 0} (g : Ghosts S) (c : Changes) (renewed : Bool) (x : Arranged)
    (ready : Type 0) (result : Result Arranged CopyFault) (old new : State S) : Type 0 where
  pub told : IsTrue old.told → (p : Object)
      → (ready → IsListedAs (origin old.o x.tail) p x) → IsUsable p renewed
      → ArrangesAs (origin old.o x.tail) (changed_placed c renewed x.tail p) result
  pub ends : (removed : List ℕ) → EndsArranged old.o c renewed removed result
  pub small : IfOk result IsListable
  pub tail_is : IfOk result (λ y. y.tail ≡ x.tail)
  pub due : ℕ
  pub few : due ≤ table_due old.o
  pub some : due ≤ ranges_due x.ranges
  pub less : IfOk result (λ y. due + ranges_due y.ranges ≤ ranges_due x.ranges)
  pub asks : AsksFor g (outer_result result) old new due

-- a plan that is one
abbrev pub ArrangesHeld : {S : Type 0} → Ghosts S → Changes → Bool → Arranged
    → Result Arranged CopyFault → State S → State S → Type 0
ArrangesHeld g c renewed x result old new = ArrangesWhere g c renewed x (Unit {0}) result old new

-- or one of which that is looked at
abbrev pub ArrangesReady : {S : Type 0} → Ghosts S → Changes → Bool → Arranged
    → Result Arranged CopyFault → State S → State S → Type 0
ArrangesReady g c renewed x result old new =
    ArrangesWhere g c renewed x (IsArrangementReady old.o x) result old new

-- ---- The whole, arranged

-- the stated object, by its ranges and as the object of the plan; or the stated fault
abbrev pub CopyArranges : Object → Result Rebuilt StatedFault → Result Arranged CopyFault → Type 0
CopyArranges o stated (Ok x) =
    (q : Object) × (stated ≡ Ok (made_of q x.tail)) × IsRangedBy o.phdrs o.base q x
    × (object_from_arranged o x ≡ q)
CopyArranges o stated (Err fault) = IfSome (stated_copy_fault fault) (λ d. stated ≡ Err d)

-- what is asked for: the names, what is asked for to make the image anew, and once more the names
abbrev pub copy_stream_due : Object → List ℕ → ℕ
copy_stream_due o removed =
    homes_due o [] (names_home o) + (stream_due o removed + table_due o)

-- and all that is asked for to make the object
abbrev pub copy_due : Object → List ℕ → ℕ
copy_due o removed = homes_due o [] (names_home o) + rebuild_due o removed

-- with the removed sections known
pub record ArrangesWithout {S : Type 0} (g : Ghosts S) (c : Changes) (removed : List ℕ)
    (result : Result Arranged CopyFault) (old new : State S) : Type 0 where
  pub answer : IsTrue old.told → CopyArranges old.o
      (or_strip (rebuilt old.o removed) >>= changed_anew c (renews_names old.o removed)) result
  pub ends : EndsArranged old.o c (renews_names old.o removed) removed result
  pub small : IfOk result IsListable
  pub due : ℕ
  pub few : due ≤ stream_due old.o removed + table_due old.o
  pub some : due ≤ rebuild_due old.o removed
  pub less : IfOk result (λ x. due + object_due x ≤ rebuild_due old.o removed)
  pub asks : AsksFor g (outer_result result) old new due

-- It arranges the object with these changes, where the source tells its bytes. Over every source
-- some sections are removed, and it ends as is stated of that; what is asked for, then and when the
-- object is made, is within what copy may ask for.
pub record ArrangesCopied {S : Type 0} (g : Ghosts S) (c : Changes)
    (result : Result Arranged CopyFault) (old new : State S) : Type 0 where
  pub answer : IsTrue old.told → CopyArranges old.o (copied c old.o) result
  pub removed : List ℕ
  pub removable : IsRemovable old.o removed
  pub exact : IsTrue old.told → removed ≡ removed_by_name c.remove old.o
  pub ends : EndsArranged old.o c (renews_names old.o removed) removed result
  pub small : IfOk result IsListable
  pub due : ℕ
  pub few : due ≤ copy_stream_due old.o removed
  pub some : due ≤ copy_due old.o removed
  pub less : IfOk result (λ x. due + object_due x ≤ copy_due old.o removed)
  pub asks : AsksFor g (outer_result result) old new due

-- ---- The whole, planned

-- the file of what copy makes, or the fault: a refusal of the update is one of a step
abbrev pub file_copied : Result Rebuilt StatedFault → Result (List ℕ) StatedFault
file_copied r = r >>= λ m. or_strip (file_of m.object)

-- the plan of a stated file, or the stated fault; or memory is wanted, or a read failed
abbrev pub CopyFileAnswers : List ℕ → Result RangedPlan CopyFault → Result (List ℕ) StatedFault
    → Type 0
CopyFileAnswers base (Ok x) stated =
    (bytes : List ℕ) × (stated ≡ Ok bytes) × CopiesAs base x bytes
CopyFileAnswers base (Err fault) stated = IfSome (stated_copy_fault fault) (λ d. stated ≡ Err d)

-- It answers the plan of the file that an update writes of what copy makes, where the source tells
-- its bytes. Over every source some sections are removed, and it leaves the object.
pub record StreamsCopied {S : Type 0} (g : Ghosts S) (c : Changes)
    (result : Result RangedPlan CopyFault) (old new : State S) : Type 0 where
  pub answer : IsTrue old.told
      → CopyFileAnswers old.o.base result (file_copied (copied c old.o))
  pub removed : List ℕ
  pub removable : IsRemovable old.o removed
  pub exact : IsTrue old.told → removed ≡ removed_by_name c.remove old.o
  pub asks : AsksFor g (outer_result result) old new (copy_stream_due old.o removed)

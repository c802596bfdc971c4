-- The changes, one kind after the other.
use Rattle.std.proofs.Common.{◌≡◌, ℕ, Bool, List, Option, Result, Ok, Err, refl, subst}
use Rattle.elf_types.specs.declared.errors.ElfError.{ElfError}
use Rattle.elf_types.specs.Answers.{◌>>=◌}
use Rattle.elf_outside.specs.Counts.{Rose}
use Rattle.elf_outside.specs.declared.sources.Source.{Ghosts}
use Rattle.elf_object.specs.Object.{Object}
use Rattle.rebuild_object.specs.elf_descriptor.State.{State}
use Rattle.elf_object.specs.Sections.{in_turn}
use Rattle.rebuild_model.specs.Copied.{Changes as StatedChanges, CopyFault as StatedFault, names_in, with_bytes, with_name, with_changes}
use Rattle.rebuild_edits.specs.rebuild_select.Calls.{ReadsNames}
use Rattle.rebuild_changes.specs.declared.changes.ChangeLists.{ChangeLists}
use Rattle.rebuild_changes.specs.declared.faults.CopyFault.{CopyFault}
use Rattle.rebuild_changes.specs.declared.faults.CopyFault.TheVariants as faults
use Rattle.rebuild_changes.specs.Stated.{stated_changes}
use Rattle.rebuild_edits.specs.Edits.Names.{names_now}
use Rattle.rebuild_edits.specs.Edits.Steps.{Finds, Alters}
use Rattle.rebuild_edits.proofs.edits.FindLaws.{found_end}
use Rattle.rebuild_edits.proofs.edits.StepLaws.{find_then, find_end, alter_then, alter_end, alter_as}
use Rattle.rebuild_copy.specs.Changing.{after_names, after_updates}

-- the names could not be worked out
pub plan_end : {S T : Type 0} (h : Ghosts S) (answer : Result Object StatedFault) (e : ElfError)
    (old new : State S) → ((m n : S) → Rose (h.faults m) (h.faults n) → ⊥)
    → ReadsNames {T = T} h (Err e) old new
    → Alters {T = Unit {0}} answer (Err (faults.Strip e)) old new
plan_end {S} {T} h answer e old new never reads =
    find_end {T = Unit {0}} (Unit {0}) (λ (u : Unit {0}). u) (Ok tt) (λ (u : Unit {0}). answer)
    (faults.Strip e) old new
    (found_end {T = T} {U = Unit {0}} h (λ (u : Unit {0}). u) (Ok tt) e old new never reads)

-- sections were renamed
module _ {S : Type 0} (ch : ChangeLists) (renewed : Bool) (old mid : State S) where
  pub renamed_then : (marks : List ℕ) (q : Result (Unit {0}) CopyFault) (new : State S)
      → Finds (λ marks. names_now old.o marks ch.rename)
      (in_turn with_name (names_in old.o) (stated_changes ch).rename) (Ok marks) old mid
      → Alters (after_names (stated_changes ch) renewed mid.o (names_now mid.o marks ch.rename))
      q mid new
      → Alters (after_updates (stated_changes ch) renewed old.o) q old new
  renamed_then marks q new found more =
      find_then (λ (marks : List ℕ). names_now old.o marks ch.rename)
      (in_turn with_name (names_in old.o) (stated_changes ch).rename)
      (λ (o : Object) (names : List (Option (List ℕ))).
      after_names (stated_changes ch) renewed o names) marks q old mid new found
      (subst (λ (o : Object).
      Alters (after_names (stated_changes ch) renewed mid.o (names_now o marks ch.rename))
      q mid new) found.object more)

  pub renamed_end : (f : CopyFault)
      → Finds {T = List ℕ} (λ marks. names_now old.o marks ch.rename)
      (in_turn with_name (names_in old.o) (stated_changes ch).rename) (Err f) old mid
      → Alters {T = Unit {0}} (after_updates (stated_changes ch) renewed old.o) (Err f) old mid
  renamed_end f found =
      find_end {T = List ℕ} (Unit {0}) (λ (marks : List ℕ). names_now old.o marks ch.rename)
      (in_turn with_name (names_in old.o) (stated_changes ch).rename)
      (after_names (stated_changes ch) renewed old.o) f old mid found

-- all changes
changes_are : (c : StatedChanges) (renewed : Bool) (o : Object)
    → (in_turn with_bytes o c.update >>= after_updates c renewed) ≡ with_changes c renewed o
unfolding with_changes
changes_are c renewed o = refl

module _ {S : Type 0} (c : StatedChanges) (renewed : Bool) (old mid : State S) where
  pub changed_then : (q : Result (Unit {0}) CopyFault) (new : State S)
      → Alters {T = Unit {0}} (in_turn with_bytes old.o c.update) (Ok tt) old mid
      → Alters (after_updates c renewed mid.o) q mid new
      → Alters (with_changes c renewed old.o) q old new
  changed_then q new first second =
      alter_as (in_turn with_bytes old.o c.update >>= after_updates c renewed)
      (with_changes c renewed old.o) q old new (changes_are c renewed old.o)
      (alter_then (in_turn with_bytes old.o c.update) (after_updates c renewed) (tt {0}) q old mid
      new first second)

  pub changed_end : (f : CopyFault)
      → Alters {T = Unit {0}} (in_turn with_bytes old.o c.update) (Err f) old mid
      → Alters {T = Unit {0}} (with_changes c renewed old.o) (Err f) old mid
  changed_end f first =
      alter_as (in_turn with_bytes old.o c.update >>= after_updates c renewed)
      (with_changes c renewed old.o) (Err f) old mid (changes_are c renewed old.o)
      (alter_end (Unit {0}) (Unit {0}) (in_turn with_bytes old.o c.update)
      (after_updates c renewed) f old mid first)

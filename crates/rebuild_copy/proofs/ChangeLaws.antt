-- All changes of what was gathered, one kind after the other.
use Rattle.std.proofs.Common.{ℕ, Bool, List, Result, Ok, Err, refl}
use Rattle.elf_object.specs.Object.{Object}
use Rattle.elf_object.specs.Sections.{in_turn}
use Rattle.rebuild_model.specs.Copied.{CopyFault as StatedFault, names_in, with_name, with_bytes, with_section_flags, with_added, changes_names, with_changes}
use Rattle.rebuild_plan.specs.declared.arranged.Arranged.{Arranged}
use Rattle.rebuild_changes.specs.declared.changes.ChangeLists.{ChangeLists}
use Rattle.rebuild_changes.specs.declared.faults.CopyFault.{CopyFault}
use Rattle.rebuild_changes.specs.Stated.{stated_changes, IsWithoutDeviceFault}
use Rattle.rebuild_edits.specs.Edits.Names.{names_now}
use Rattle.rebuild_edits.specs.Edits.Steps.{Finds}
use Rattle.rebuild_edits.proofs.edits.FaultLaws.{unread_on}
use Rattle.rebuild_edits.specs.declared.naming.Naming.{Naming}
use Rattle.rebuild_edits.specs.Stores.{IsNaming, HasNameTable, named_by}
use Rattle.rebuild_edits.specs.Texts.{all_texts}
use Rattle.rebuild_copy.specs.Changing.{added_named, flagged_named, after_names, after_updates}
use Rattle.rebuild_copy.proofs.StatedNames.{naming_planned, usable_stays, name_table_there, table_stays}
use Rattle.rebuild_copy.proofs.StatedChanges.{renamed_then, renamed_end, changed_then, changed_end}
use Rattle.rebuild_copy.specs.Rows.{Origin, IsContents}
use Rattle.rebuild_copy.specs.Steps.{known, AltersContents, always_holds, IsUsableIf}
use Rattle.rebuild_copy.proofs.TurnLaws.{less_then, alters_then, alters_end}

module _ (ch : ChangeLists) (naming : Naming) (x y z : Arranged) where
  -- sections are added, and then the names are stored
  pub added_then : (r : Result (Unit {0}) CopyFault)
      → AltersContents {T = Unit {0}} always_holds (λ p. in_turn with_added p
      (stated_changes ch).add)
      (Ok tt) x y
      → AltersContents (HasNameTable naming) (named_by naming) r y z
      → AltersContents (HasNameTable naming) (added_named (stated_changes ch) naming) r x z
  added_then r first second =
      alters_then (HasNameTable naming) (λ (p : Object). in_turn with_added p
      (stated_changes ch).add)
      (named_by naming) (tt {0}) r x y z (λ p q keeps has. table_stays naming p q keeps has)
      first second

  pub added_end : (f : CopyFault)
      → AltersContents {T = Unit {0}} always_holds (λ p. in_turn with_added p
      (stated_changes ch).add)
      (Err f) x y
      → AltersContents {T = Unit {0}} (HasNameTable naming) (added_named (stated_changes ch) naming)
      (Err f) x z
  added_end f first =
      alters_end (Unit {0}) (Unit {0}) (HasNameTable naming)
      (λ (p : Object). in_turn with_added p (stated_changes ch).add) (named_by naming) f x y z
      first

  -- other flags before that
  module _ (marks : List ℕ) where
    abbrev flags_turned : Object → Result Object StatedFault
    flags_turned p =
        in_turn (with_section_flags (names_now p marks ch.rename)) p (stated_changes ch).flags

    pub flagged_then : (r : Result (Unit {0}) CopyFault)
        → AltersContents {T = Unit {0}} always_holds flags_turned (Ok tt) x y
        → AltersContents (HasNameTable naming) (added_named (stated_changes ch) naming) r y z
        → AltersContents (HasNameTable naming) (λ p. flagged_named (stated_changes ch)
        (names_now p marks ch.rename) naming p) r x z
    flagged_then r first second =
        alters_then (HasNameTable naming) flags_turned (added_named (stated_changes ch) naming)
        (tt {0}) r x y z (λ p q keeps has. table_stays naming p q keeps has) first second

    pub flagged_end : (f : CopyFault)
        → AltersContents {T = Unit {0}} always_holds flags_turned (Err f) x y
        → AltersContents {T = Unit {0}} (HasNameTable naming) (λ p. flagged_named
        (stated_changes ch)
        (names_now p marks ch.rename) naming p) (Err f) x z
    flagged_end f first =
        alters_end (Unit {0}) (Unit {0}) (HasNameTable naming) flags_turned
        (added_named (stated_changes ch) naming) f x y z first

-- what becomes of the names is known before that
pub planned_then : (ch : ChangeLists) (renewed : Bool) (marks : List ℕ) (naming : Naming)
    (x y : Arranged) (r : Result (Unit {0}) CopyFault)
    → ((o : Origin) (p : Object) → IsContents o p x
    → IsNaming (changes_names (stated_changes ch)) renewed (all_texts p marks ch) naming)
    → AltersContents (HasNameTable naming)
    (λ p. flagged_named (stated_changes ch) (names_now p marks ch.rename) naming p) r x y
    → AltersContents (IsUsableIf renewed)
    (λ p. after_names (stated_changes ch) renewed p (names_now p marks ch.rename)) r x y
planned_then ch renewed marks naming x y r is step = record {
  unread = step.unread;
  less = step.less;
  turns = λ o p contents usable.
      let one = step.turns o p contents
      (name_table_there (changes_names (stated_changes ch)) renewed (all_texts p marks ch) naming p
      (is o p contents) usable) in
      record {
        left = one.left;
        alters = naming_planned ch renewed marks naming r (known p) (known p) (known one.left)
            (is o p contents) refl refl one.alters;
        contents = one.contents;
      };
}

-- and they are given before that
module _ (ch : ChangeLists) (renewed : Bool) (x y : Arranged) where
  abbrev Renames : Result (List ℕ) CopyFault → Type 0
  Renames r = (o : Origin) (p : Object) → IsContents o p x
      → Finds (λ marks. names_now p marks ch.rename)
      (in_turn with_name (names_in p) (stated_changes ch).rename) r (known p) (known p)

  pub named_then : (marks : List ℕ) (r : Result (Unit {0}) CopyFault) → Renames (Ok marks)
      → AltersContents (IsUsableIf renewed)
      (λ p. after_names (stated_changes ch) renewed p (names_now p marks ch.rename)) r x y
      → AltersContents (IsUsableIf renewed) (after_updates (stated_changes ch) renewed) r x y
  named_then marks r renames step = record {
    unread = step.unread;
    less = step.less;
    turns = λ o p is usable.
        let one = step.turns o p is usable in
        record {
          left = one.left;
          alters = renamed_then ch renewed (known p) (known p) marks r (known one.left)
              (renames o p is) one.alters;
          contents = one.contents;
        };
  }

  pub named_end : (f : CopyFault) → Renames (Err f) → IsWithoutDeviceFault {T = List ℕ} (Err f)
      → AltersContents {T = Unit {0}} (IsUsableIf renewed)
      (after_updates (stated_changes ch) renewed) (Err f) x y
  named_end f renames unread = record {
    unread = unread_on (List ℕ) (Unit {0}) f unread;
    less = tt;
    turns = λ o p is usable. record {
      left = p;
      alters = renamed_end ch renewed (known p) (known p) f (renames o p is);
      contents = tt;
    };
  }

-- the bytes come first
module _ (ch : ChangeLists) (renewed : Bool) (x y z : Arranged) where
  pub updated_then : (r : Result (Unit {0}) CopyFault)
      → AltersContents {T = Unit {0}} always_holds
      (λ p. in_turn with_bytes p (stated_changes ch).update) (Ok tt) x y
      → AltersContents (IsUsableIf renewed) (after_updates (stated_changes ch) renewed) r y z
      → AltersContents (IsUsableIf renewed) (with_changes (stated_changes ch) renewed) r x z
  updated_then r first second = record {
    unread = second.unread;
    less = less_then r x y z first.less second.less;
    turns = λ o p is usable.
        let one = first.turns o p is tt in
        let two = second.turns o one.left one.contents
        (usable_stays p one.left renewed one.alters.keeps usable) in
        record {
          left = two.left;
          alters = changed_then (stated_changes ch) renewed (known p) (known one.left) r
              (known two.left) one.alters two.alters;
          contents = two.contents;
        };
  }

  pub updated_end : (f : CopyFault)
      → AltersContents {T = Unit {0}} always_holds
      (λ p. in_turn with_bytes p (stated_changes ch).update) (Err f) x y
      → AltersContents {T = Unit {0}} (IsUsableIf renewed)
      (with_changes (stated_changes ch) renewed) (Err f) x z
  updated_end f first = record {
    unread = first.unread;
    less = tt;
    turns = λ o p is usable.
        let one = first.turns o p is tt in
        record {
          left = one.left;
          alters = changed_end (stated_changes ch) renewed (known p) (known one.left) f
              one.alters;
          contents = tt;
        };
  }

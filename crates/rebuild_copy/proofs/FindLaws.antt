-- Sections that are found by their names, and what is done to them.
use Rattle.std.proofs.Common.{◌≡◌, ◌<◌, ℕ, true, List, length, get_or, Option, Some, None, Result, Ok, Err, refl, sym, ap, ◌∙◌}
use Rattle.std.specs.Prelude.{All}
use Rattle.elf_types.specs.declared.errors.ElfError.{ElfError}
use Rattle.elf_types.specs.declared.errors.ElfError.TheVariants.{Memory}
use Rattle.elf_types.specs.Answers.{answered, ◌>>=◌}
use Rattle.elf_object.specs.Object.{Object}
use Rattle.rebuild_model.specs.Copied.{CopyFault as StatedFault, section_named}
use Rattle.rebuild_plan.specs.declared.arranged.Arranged.{Arranged}
use Rattle.rebuild_select.specs.declared.sought.sections.NameIndex.{NameIndex}
use Rattle.rebuild_select.specs.Sought.Names.{is_sought}
use Rattle.rebuild_changes.specs.declared.changes.NameBytes.{NameBytes}
use Rattle.rebuild_changes.specs.declared.changes.NameBits.{NameBits}
use Rattle.rebuild_changes.specs.declared.faults.CopyFault.{CopyFault}
use Rattle.rebuild_changes.specs.declared.faults.CopyFault.TheVariants as faults
use Rattle.rebuild_changes.specs.Stated.{IsWithoutDeviceFault}
use Rattle.rebuild_edits.specs.Edits.Names.{names_now}
use Rattle.rebuild_edits.specs.Edits.Steps.{IsPresentSection, IsFaultIf}
use Rattle.rebuild_edits.proofs.edits.FaultLaws.{unread_on, memory_fault_unread, memory_given, fault_none, fault_given, no_fault_passes_on}
use Rattle.rebuild_copy.specs.Rows.{Origin, IsContents}
use Rattle.rebuild_copy.specs.Steps.{Turns, AltersContents, AltersAt, always_holds, IsFaultUnread}
use Rattle.rebuild_copy.specs.Indexes.{IsIndexOf, FindsNamed}
use Rattle.rebuild_copy.proofs.IndexLaws.{named_there}
use Rattle.rebuild_copy.proofs.TurnLaws.{turns_not, turns_as, found_then, found_not}

-- ---- Contents that are altered

pub memory_alters : {T : Type 0} (Holds : Object → Type 0)
    (answer : Object → Result Object StatedFault) (e : ElfError) (x y : Arranged) → e ≡ Memory
    → AltersContents {T = T} Holds answer (Err (faults.Strip e)) x y
memory_alters {T} Holds answer e x y want = record {
  unread = memory_fault_unread T e want;
  less = tt;
  turns = λ o p is holds.
      turns_not o p T (answer p) (faults.Strip e) y (memory_fault_unread T e want)
      (memory_given e want (answer p));
}

-- a section is found by the index of the names, and then altered
module _ (index : NameIndex) (marks : List ℕ) (renames : List NameBytes) (name : List ℕ)
    (next : Object → ℕ → Result Object StatedFault) (x y : Arranged) where
  abbrev Sought : Result ℕ CopyFault → Type 0
  Sought r = (names : List (Option (List ℕ))) → IsIndexOf index names → FindsNamed names name r

  abbrev Named : Object → Type 0
  Named p = IsIndexOf index (names_now p marks renames)

  pub named_alters : (s : ℕ) (r : Result (Unit {0}) CopyFault) → Sought (Ok s)
      → AltersAt s always_holds (λ p. next p s) r x y
      → AltersContents Named (λ p. section_named (names_now p marks renames) name >>= next p) r x y
  named_alters s r found step = record {
    unread = step.unread;
    less = step.less;
    turns = λ o p is holds.
        let at = found (names_now p marks renames) holds in
        found_then o p (λ (n : ℕ). n) (section_named (names_now p marks renames) name) (next p) s
        r y (at.finds p) (step.turns o p is (named_there p marks renames name s at.here, tt));
  }

  pub unnamed_alters : (f : CopyFault) → Sought (Err f) → IsWithoutDeviceFault {T = ℕ} (Err f)
      → AltersContents {T = Unit {0}} Named
      (λ p. section_named (names_now p marks renames) name >>= next p) (Err f) x y
  unnamed_alters f found unread = record {
    unread = unread_on ℕ (Unit {0}) f unread;
    less = tt;
    turns = λ o p is holds.
        found_not o p {T = ℕ} (Unit {0}) (λ (n : ℕ). n)
        (section_named (names_now p marks renames) name) (next p) f y
        ((found (names_now p marks renames) holds).finds p);
  }

-- what is looked for of each is looked for of one
pub flag_sought : (sought : List (List ℕ)) (xs : List NameBits) (i : ℕ) (x : NameBits)
    → i < length xs → x ≡ get_or xs i x → All (λ n. is_sought sought n.name ≡ true) xs
    → is_sought sought x.name ≡ true
flag_sought sought xs i x below is all =
    ap (λ (y : NameBits). is_sought sought y.name) is ∙ all i x below

-- a fault comes, or else the section is altered
module _ (s : ℕ) (fault : Object → Option StatedFault)
    (next : Object → ℕ → Result Object StatedFault) (x y : Arranged) where
  pub fault_alters : (f : CopyFault)
      → ((o : Origin) (p : Object) → IsContents o p x → IsPresentSection p s
      → IsFaultIf (fault p) (Some f))
      → IsFaultUnread (Some f)
      → AltersAt {T = Unit {0}} s always_holds (λ p. answered (fault p) s >>= next p) (Err f) x y
  fault_alters f came unread = record {
    unread = unread;
    less = tt;
    turns = λ o p is there. by o p (fault p) (came o p is there.0);
  }
    where
      by : (o : Origin) (p : Object) (d : Option StatedFault) → IsFaultIf d (Some f)
          → Turns {T = Unit {0}} o p (answered d s >>= next p) (Err f) y
      by o p None is = absurd is
      by o p (Some d) is =
          turns_not o p (Unit {0}) (answered (Some d) s >>= next p) f y unread
          (fault_given d f is (answered (Some d) s >>= next p) refl)

  pub unfaulted_alters : (Holds : Object → Type 0) (r : Result (Unit {0}) CopyFault)
      → ((o : Origin) (p : Object) → IsContents o p x → IsPresentSection p s
      → IsFaultIf (fault p) None)
      → ((p : Object) → fault p ≡ None → Holds p) → AltersAt s Holds (λ p. next p s) r x y
      → AltersAt s always_holds (λ p. answered (fault p) s >>= next p) r x y
  unfaulted_alters Holds r came holds step = record {
    unread = step.unread;
    less = step.less;
    turns = λ o p is there.
        let none = fault_none (fault p) (came o p is there.0) in
        turns_as o p (next p s) (answered (fault p) s >>= next p) r y
        (sym (no_fault_passes_on (fault p) s (next p) none))
        (step.turns o p is (there.0, holds p none));
  }

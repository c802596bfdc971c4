-- Names of sections, and steps that they end.
use Rattle.std.proofs.Common.{◌≡◌, ◌+◌, ◌-◌, ℕ, zero, suc, Bool, List, [], ◌∷◌, length, map, Option, None, Result, Err, refl, sym, ap, ◌∙◌, subst}
use Rattle.std.specs.Prelude.{IfSome, slice_get, if◌then◌else◌}
use Rattle.std.specs.List.{range_with_len}
use Rattle.std.specs.Option.{option_map}
use Rattle.std.proofs.lemmas.Bool.{eq-eqb}
use Rattle.elf_types.specs.declared.errors.ElfError.{ElfError}
use Rattle.elf_types.specs.declared.errors.ElfError.TheVariants.{Memory, Read, Write}
use Rattle.rebuild_making.specs.elf_outside.Counts.{Rose}
use Rattle.rebuild_making.specs.elf_outside.declared.sources.Source.{Ghosts}
use Rattle.law_rebuild.specs.elf_object.Object.{Object}
use Rattle.law_rebuild.specs.elf_object.Strings.{section_name}
use Rattle.rebuild_making.specs.elf_descriptor.State.{State}
use Rattle.rebuild_changes.specs.rebuild_model.Copied.{names_in, CopyFault as StatedFault}
use Rattle.rebuild_select.specs.Calls.{ReadsNames}
use Rattle.rebuild_changes.specs.declared.changes.NameBytes.{NameBytes}
use Rattle.rebuild_changes.specs.declared.faults.CopyFault.TheVariants as faults
use Rattle.rebuild_changes.specs.Stated.{stated_copy_fault, IsWithoutDeviceFault}
use Rattle.rebuild_edits.specs.Edits.Names.{mark_of, new_name, name_over, name_now, names_now}
use Rattle.rebuild_edits.specs.Edits.Steps.{Finds}

-- ---- New names

pub new_none : (renames : List NameBytes) (mark : ℕ) → mark ≡ 0 → None ≡ new_name renames mark
new_none renames mark is =
    sym (ap (λ (b : Bool).
    if b then None else option_map (λ (n : NameBytes). n.bytes) (slice_get renames (mark - 1)))
    (eq-eqb mark 0 is))

-- ---- Names that end a step

-- over a source that is never read the names of an object end a step for want of memory alone
ended_unread : {S T : Type 0} (h : Ghosts S) (U : Type 0) (e : ElfError) (old new : State S)
    → ((m n : S) → Rose (h.faults m) (h.faults n) → ⊥)
    → ReadsNames {T = T} h (Err e) old new → IsWithoutDeviceFault {T = U} (Err (faults.Strip e))
ended_unread h U Memory old new never reads = tt
ended_unread h U Read old new never reads =
    absurd (never old.source new.source reads.reads.source.read)
ended_unread h U Write old new never reads = absurd reads.ended
ended_unread h U e old new never reads = absurd reads.ended

-- no answer is stated for one that ended so
pub ended_stated : {S T : Type 0} (h : Ghosts S) (e : ElfError) (old new : State S)
    → ReadsNames {T = T} h (Err e) old new → stated_copy_fault (faults.Strip e) ≡ None
ended_stated h Memory old new reads = refl
ended_stated h Read old new reads = refl
ended_stated h e old new reads = absurd reads.ended

pub found_end : {S T A U : Type 0} (h : Ghosts S) (see : U → A) (answer : Result A StatedFault)
    (e : ElfError) (old new : State S) → ((m n : S) → Rose (h.faults m) (h.faults n) → ⊥)
    → ReadsNames {T = T} h (Err e) old new
    → Finds {T = U} see answer (Err (faults.Strip e)) old new
found_end {S} {T} {A} {U} h see answer e old new never reads = record {
  object = reads.object;
  told = reads.reads.told;
  unread = ended_unread h U e old new never reads;
  found = λ t.
      subst (λ (o : Option StatedFault). IfSome o (λ d. answer ≡ Err d))
      (sym (ended_stated h e old new reads)) tt;
}

-- ---- While no section has a new name

names_first : (o : Object) (marks : List ℕ) (renames : List NameBytes)
    → ((t : ℕ) → mark_of marks t ≡ 0) → (a m : ℕ)
    → map (name_now o marks renames) (range_with_len a m)
    ≡ map (section_name o) (range_with_len a m)
unfolding name_now
names_first o marks renames none a zero = refl
names_first o marks renames none a (suc m) =
    ap (λ (k : ℕ).
    name_over (new_name renames k) (section_name o a)
    ∷ map (name_now o marks renames) (range_with_len (a + 1) m)) (none a)
    ∙ ap (λ (l : List (Option (List ℕ))). section_name o a ∷ l)
    (names_first o marks renames none (a + 1) m)

pub names_unmarked : (o : Object) (marks : List ℕ) (renames : List NameBytes)
    → ((t : ℕ) → mark_of marks t ≡ 0) → names_now o marks renames ≡ names_in o
unfolding names_now names_in
names_unmarked o marks renames none =
    ap (λ (l : List (Option (List ℕ))). None ∷ l)
    (names_first o marks renames none 1 (length o.sections - 1))

pub names_at_first : (o : Object) (marks : List ℕ) (renames : List NameBytes) → marks ≡ []
    → names_now o marks renames ≡ names_in o
names_at_first o marks renames none =
    names_unmarked o marks renames (λ t. ap (λ (l : List ℕ). mark_of l t) none)

-- The table of the names as a call: its answer, and what it reads.
use Rattle.std.proofs.Common.{◌≡◌, ◌⊎◌, ◌-◌, ◌^◌, ◌<◌, ◌≤◌, ℕ, Bool, true, false, List, [], length, map, Option, Some, None, Result, Ok, Err, refl, sym, ap, ◌∙◌, subst, inl, inr}
use Rattle.std.specs.Prelude.{IsTrue, IfOk, IfErr}
use Rattle.std.proofs.lemmas.Bool.{lt-ltb, le-ltb}
use Rattle.elf_types.specs.declared.errors.ElfError.{ElfError}
use Rattle.elf_types.specs.declared.errors.ElfError.TheVariants.{Memory, Read, TooLarge}
use Rattle.elf_types.specs.Answers.{refused_if, answered}
use Rattle.rebuild_numbers.specs.elf_outside.declared.sources.Source.{Ghosts}
use Rattle.rebuild_numbers.specs.elf_outside.Asks.{ReadRose}
use Rattle.strtab_shared.specs.strtab_build.Table.{table}
use Rattle.strtab_shared.proofs.strtab_build.TableLemmas.{table-distinct}
use Rattle.rebuild_numbers.specs.elf_object.Object.{Object}
use Rattle.rebuild_numbers.specs.elf_object.Due.{all_sections, homes_due}
use Rattle.rebuild_numbers.specs.elf_object.Words.{AnswersRead}
use Rattle.rebuild_numbers.specs.elf_descriptor.State.{State}
use Rattle.rebuild_numbers.specs.elf_descriptor.Reads.{Queries, wanted}
use Rattle.rebuild_numbers.proofs.elf_descriptor.ReadsLaws.{reads_then}
use Rattle.rebuild_numbers.specs.rebuild_model.Rebuilt.{kept_names, table_refusal}
use Rattle.rebuild_numbers.specs.rebuild_select.Calls.{names_home, MayEndReadingNames, ReadsNames}
use Rattle.rebuild_names.specs.declared.building.Making.{Making}
use Rattle.rebuild_names.specs.declared.building.NewNames.{NewNames}
use Rattle.rebuild_names.specs.Names as stated
use Rattle.rebuild_names.specs.Names.{name_place, AreNamed, AreNamesAdded, IsFinished}
use Rattle.rebuild_names.specs.Calls.{new_names, names_refusals}
use Rattle.rebuild_names.proofs.BelowLaws.{all_strings, all_fit}

abbrev names_by : List ℕ → List ℕ → NewNames
names_by bytes places = record { table = bytes; places = places }

-- how a call ends that did not add all names
abbrev pub EndsIf : Bool → ElfError → Type 0
EndsIf fits e = (e ≡ Memory) ⊎ ((fits ≡ false) × (e ≡ TooLarge))

abbrev stated_answer : Object → List ℕ → Result NewNames ElfError
stated_answer o removed =
    answered (table_refusal (kept_names o removed)) (stated.new_names o removed)

ends_large : (fits : Bool) → EndsIf fits TooLarge → fits ≡ false
ends_large fits (inl memory) = absurd (let differ : TooLarge ≡ Memory = memory in cc)
ends_large fits (inr is) = is.0

ends_other : (fits : Bool) (e : ElfError) → EndsIf fits e → (e ≡ Memory → ⊥)
    → (e ≡ TooLarge → ⊥) → ⊥
ends_other fits e (inl memory) no_memory no_large = no_memory memory
ends_other fits e (inr large) no_memory no_large = no_large large.1

pub finishes_when : (making : Making) (fits : Bool) (r : Result NewNames ElfError)
    → fits ≡ true → IfOk r (λ names. IsFinished making names)
    → IfOk r (λ names. (fits ≡ true) × IsFinished making names)
finishes_when making fits (Ok names) is ok = (is, ok)
finishes_when making fits (Err e) is ok = tt

pub ends_when : (fits : Bool) (r : Result NewNames ElfError) → IfErr r (λ e. e ≡ Memory)
    → IfErr r (EndsIf fits)
ends_when fits (Ok names) err = tt
ends_when fits (Err e) err = inl err

module _ (o : Object) (removed : List ℕ) where
  refusal_none : length (table (kept_names o removed)) ≤ 2 ^ 32 - 1
      → table_refusal (kept_names o removed) ≡ None
  unfolding table_refusal
  refusal_none fits =
      ap (λ (b : Bool). refused_if b TooLarge)
      (le-ltb (2 ^ 32 - 1) (length (table (kept_names o removed))) fits)

  refusal_large : 2 ^ 32 - 1 < length (table (kept_names o removed))
      → table_refusal (kept_names o removed) ≡ Some TooLarge
  unfolding table_refusal
  refusal_large large =
      ap (λ (b : Bool). refused_if b TooLarge)
      (lt-ltb (2 ^ 32 - 1) (length (table (kept_names o removed))) large)

  finished_is : (making : Making) (names : NewNames)
      → AreNamesAdded o removed making (length o.sections) → IsFinished making names
      → stated.new_names o removed ≡ names
  unfolding stated.new_names
  finished_is making names are is =
      let bytes : names.table ≡ table (kept_names o removed) =
      is.table_is ∙ ap table (all_strings o removed making are)
      ∙ table-distinct (kept_names o removed) in
      let places : names.places ≡ map (name_place o removed) (all_sections o) =
      is.places_are ∙ are.places in
      ap (λ (l : List ℕ). names_by l (map (name_place o removed) (all_sections o))) (sym bytes)
      ∙ ap (λ (l : List ℕ). names_by names.table l) (sym places)

  ok_answer : (making : Making) (names : NewNames) → AreNamed o removed making true
      → IsFinished making names → stated_answer o removed ≡ Ok names
  ok_answer making names are is =
      ap (λ (r : Option ElfError). answered r (stated.new_names o removed))
      (refusal_none (all_fit o removed making are))
      ∙ ap (λ (n : NewNames). Ok n) (finished_is making names are is)

  large_answer : (making : Making) → AreNamed o removed making false
      → stated_answer o removed ≡ Err TooLarge
  large_answer making large =
      ap (λ (r : Option ElfError). answered r (stated.new_names o removed)) (refusal_large large)

-- ---- The answer

pub names_answer : {S : Type 0} (old : State S) (removed : List ℕ) (making : Making) (fits : Bool)
    (r : Result NewNames ElfError) → (IsTrue old.told → AreNamed old.o removed making fits)
    → IfOk r (λ names. (fits ≡ true) × IsFinished making names) → IfErr r (EndsIf fits)
    → AnswersRead old.told (wanted (new_names removed) old) names_refusals r
    (stated_answer old.o removed)
names_answer old removed making fits (Ok names) named ok err = (
  refl,
  λ told. ok_answer old.o removed making names
      (subst (λ (b : Bool). AreNamed old.o removed making b) ok.0 (named told)) ok.1,
)
names_answer old removed making fits (Err Memory) named ok err = (refl, refl)
names_answer old removed making fits (Err TooLarge) named ok err = inr (
  refl,
  refl,
  λ told. large_answer old.o removed making
      (subst (λ (b : Bool). AreNamed old.o removed making b) (ends_large fits err) (named told)),
)
names_answer old removed making fits (Err e) named ok err =
    absurd (ends_other fits e err (λ same. (cc)) (λ same. (cc)))

pub names_stopped : {S : Type 0} (old : State S) (removed : List ℕ) (e : ElfError) → MayEndReadingNames old e
    → AnswersRead old.told (wanted (new_names removed) old) names_refusals (Err e)
    (stated_answer old.o removed)
names_stopped old removed Memory may = (refl, refl)
names_stopped old removed Read may =
    (refl, lt-ltb 0 (homes_due old.o old.loaded (names_home old.o)) may)
names_stopped old removed e may = absurd may

-- ---- What is read

module _ {S : Type 0} (g : Ghosts S) where
  pub names_read : {T : Type 0} (r : Result T ElfError) (removed : List ℕ) (old new : State S)
      → ReadsNames g r old new → Queries g (new_names removed) [] r old new
  names_read r removed old new reads = record { object = reads.object; reads = reads.reads }

  no_read : {U : Type 0} (fits : Bool) (r : Result U ElfError) (before now : ℕ)
      → IfErr r (EndsIf fits) → ReadRose r before now
  no_read fits (Ok y) before now err = tt
  no_read fits (Err Memory) before now err = tt
  no_read fits (Err TooLarge) before now err = tt
  no_read fits (Err e) before now err =
      absurd (ends_other fits e err (λ same. (cc)) (λ same. (cc)))

  -- a table that is made, or not, of names that were read
  pub names_then : {T U : Type 0} (x : T) (fits : Bool) (r : Result U ElfError) (removed : List ℕ)
      (old new : State S) → IfErr r (EndsIf fits) → ReadsNames g (Ok x) old new
      → Queries g (new_names removed) [] r old new
  names_then x fits r removed old new err reads = record {
    object = reads.object;
    reads = reads_then g (Ok x) r old new (names_home old.o) []
        (homes_due old.o old.loaded (names_home old.o)) (λ is. tt)
        (no_read fits r (g.faults old.source) (g.faults new.source) err) reads.reads;
  }

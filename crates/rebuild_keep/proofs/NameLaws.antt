-- The names, as they are made anew.
use Rattle.std.proofs.Common.{◌≡◌, ◌⊎◌, inl, inr, ℕ, Bool, true, List, [], Option, Some, None, Result, Ok, Err, refl, sym, subst}
use Rattle.std.specs.Prelude.{IsTrue, IfOk, IfErr}
use Rattle.elf_types.specs.declared.errors.ElfError.{ElfError}
use Rattle.elf_types.specs.declared.errors.ElfError.TheVariants as errors
use Rattle.elf_types.specs.declared.errors.ElfError.TheVariants.{Memory, Read}
use Rattle.rebuild_making.specs.elf_outside.declared.sources.Source.{Ghosts}
use Rattle.rebuild_making.specs.elf_object.Object.{Object}
use Rattle.rebuild_making.specs.elf_object.Due.{homes_due}
use Rattle.rebuild_making.specs.elf_object.Words.{Wants, AnswersRead}
use Rattle.rebuild_making.proofs.elf_object.AnswerLaws.{answered_value, answered_refusal}
use Rattle.elf_update_plan.specs.elf_descriptor.State.{State}
use Rattle.elf_update_plan.specs.elf_descriptor.Reads.{Queries}
use Rattle.rebuild_making.specs.rebuild_model.Rebuilt.{kept_names, table_refusal}
use Rattle.rebuild_numbers.specs.rebuild_select.Calls.{names_home}
use Rattle.rebuild_names.specs.declared.building.NewNames.{NewNames}
use Rattle.rebuild_names.specs.Names as stated
use Rattle.rebuild_names.specs.Calls.{new_names, names_refusals}
use Rattle.rebuild_keep.specs.declared.naming.Names.{Names}
use Rattle.rebuild_keep.specs.declared.naming.Names.TheVariants.{Anew, TooLarge}
use Rattle.rebuild_keep.specs.Makes.{AsksFor}
use Rattle.rebuild_keep.specs.Keepers.{AreNames, NamesFor, RenewsAs}
use Rattle.rebuild_keep.proofs.AskLaws.{asks_reads, asks_as, asks_stop}

module _ (told : Bool) (wants : Wants) (o : Object) (removed : List ℕ) where
  abbrev Came : Result NewNames ElfError → Type 0
  Came r = AnswersRead told wants names_refusals r ((new_names removed).answer o)

  pub names_told : (names : NewNames) → Came (Ok names) → IsTrue told
      → AreNames o removed (Anew names)
  names_told names came tells =
      answered_value (table_refusal (kept_names o removed)) (stated.new_names o removed) names
      (came.1 tells)

  pub large_told : Came (Err errors.TooLarge) → IsTrue told → AreNames o removed TooLarge
  large_told (inl early) tells = cc
  large_told (inr met) tells =
      answered_refusal (table_refusal (kept_names o removed)) (stated.new_names o removed)
      errors.TooLarge (met.2 tells)

  -- any other error is none that is stated
  pub error_told : (e : ElfError) (r : Result Names ElfError) → NamesFor e r → Came (Err e)
      → IsTrue told → IfOk r (AreNames o removed)
  error_told errors.TooLarge r is came tells =
      subst (λ (x : Result Names ElfError). IfOk x (AreNames o removed)) (sym is)
      (large_told came tells)
  error_told e r is came tells =
      subst (λ (x : Result Names ElfError). IfOk x (AreNames o removed)) (sym is) tt

  pub error_stops : (e : ElfError) (r : Result Names ElfError) → NamesFor e r → Came (Err e)
      → IfErr r (λ d. (d ≡ Memory) ⊎ (d ≡ Read))
  error_stops Memory r is came =
      subst (λ (x : Result Names ElfError). IfErr x (λ d. (d ≡ Memory) ⊎ (d ≡ Read))) (sym is)
      (inl refl)
  error_stops Read r is came =
      subst (λ (x : Result Names ElfError). IfErr x (λ d. (d ≡ Memory) ⊎ (d ≡ Read))) (sym is)
      (inr refl)
  error_stops errors.TooLarge r is came =
      subst (λ (x : Result Names ElfError). IfErr x (λ d. (d ≡ Memory) ⊎ (d ≡ Read))) (sym is) tt
  error_stops e r is (inl early) =
      let clash : ◌≡◌ {A = Option ElfError} None (Some e) = early.0 in cc
  error_stops e r is (inr met) = let clash : e ≡ errors.TooLarge = met.1 in cc

pub error_renews : (e : ElfError) (r : Result Names ElfError) → NamesFor e r
    → IfOk r (RenewsAs true)
error_renews errors.TooLarge r is =
    subst (λ (x : Result Names ElfError). IfOk x (RenewsAs true)) (sym is) refl
error_renews e r is =
    subst (λ (x : Result Names ElfError). IfOk x (RenewsAs true)) (sym is) tt

-- ---- What is asked for

module _ {S : Type 0} (g : Ghosts S) (removed : List ℕ) (old new : State S) where
  abbrev Asked : {T : Type 0} → Result T ElfError → Type 0
  Asked r = AsksFor g r old new (homes_due old.o [] (names_home old.o))

  names_asked : {T : Type 0} (r : Result T ElfError) → Queries g (new_names removed) [] r old new
      → Asked r
  names_asked r is = asks_reads g r old new (names_home old.o) [] is.object is.reads

  pub names_made : (x : NewNames) (y : Names) → Queries g (new_names removed) [] (Ok x) old new
      → Asked (Ok y)
  names_made x y is =
      asks_as g (Ok x) (Ok y) old new (homes_due old.o [] (names_home old.o)) tt
      (names_asked (Ok x) is)

  names_large : (y : Names)
      → Queries {T = NewNames} g (new_names removed) [] (Err errors.TooLarge) old new
      → Asked (Ok y)
  names_large y is =
      let r : Result NewNames ElfError = Err errors.TooLarge in
      asks_as g r (Ok y) old new (homes_due old.o [] (names_home old.o)) tt (names_asked r is)

  names_unmade : (e : ElfError)
      → Queries {T = NewNames} g (new_names removed) [] (Err e) old new
      → AsksFor {T = Names} g (Err e) old new (homes_due old.o [] (names_home old.o))
  names_unmade e is =
      let r : Result NewNames ElfError = Err e in
      asks_stop g {T = NewNames} {U = Names} e old new (homes_due old.o [] (names_home old.o))
      (names_asked r is)

  pub error_asks : (e : ElfError) (r : Result Names ElfError) → NamesFor e r
      → Queries {T = NewNames} g (new_names removed) [] (Err e) old new
      → AsksFor g r old new (homes_due old.o [] (names_home old.o))
  error_asks errors.TooLarge r is queries =
      subst (λ (x : Result Names ElfError).
      AsksFor g x old new (homes_due old.o [] (names_home old.o))) (sym is)
      (names_large TooLarge queries)
  error_asks e r is queries =
      subst (λ (x : Result Names ElfError).
      AsksFor g x old new (homes_due old.o [] (names_home old.o))) (sym is)
      (names_unmade e queries)

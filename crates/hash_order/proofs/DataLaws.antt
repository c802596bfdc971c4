-- The items of a first piece, as a reordering reads them.
use Rattle.std.proofs.Common.{◌≡◌, ℕ, List, [], ◌∷◌, Option, None, Result, Ok, Err, sym, ap, ◌∙◌, subst}
use Rattle.std.specs.Prelude.{IsTrue, IfErr, OnOk, Contains, is_none}
use Rattle.elf_types.specs.declared.records.Kind.{Kind}
use Rattle.elf_types.specs.declared.errors.ElfError.{ElfError}
use Rattle.elf_types.specs.declared.errors.ElfError.TheVariants.{Memory, Read}
use Rattle.elf_types.specs.Answers.{IsRefusal, answered, first_refusal, err_of}
use Rattle.elf_xlate.specs.declared.content.Items.{Items}
use Rattle.elf_outside.specs.declared.sources.Source.{Ghosts}
use Rattle.elf_outside.specs.Asks.{ReadRose}
use Rattle.elf_outside.proofs.AskLemmas.{read_rose_on}
use Rattle.symbol_lookup.specs.elf_object.Words.{Answers, AlikeItems, IsLike}
use Rattle.symbol_lookup.specs.elf_object.Object.{Object, piece_at}
use Rattle.symbol_lookup.specs.elf_object.Answers.{lend_refusal, data_refusal, no_data, no_content, items_at}
use Rattle.symbol_lookup.specs.elf_object.Due.{is_loaded, holds_items}
use Rattle.symbol_lookup.specs.elf_object.Calls.{data_answer}
use Rattle.symbol_lookup.specs.elf_object.Calls as calls
use Rattle.symbol_lookup.proofs.elf_object.AnswerLaws.{data_value, lend_passed}
use Rattle.symbol_lookup.specs.elf_descriptor.State.{State}
use Rattle.symbol_lookup.specs.elf_descriptor.Reads.{wanted}
use Rattle.symbol_lookup.specs.elf_descriptor.Rests.{GivesItems}
use Rattle.symbol_lookup.proofs.SearchLaws.{IsFew}
use Rattle.hash_order.specs.Plans.{IsAtHand}
use Rattle.hash_order.specs.Reading.{ReadsHomes}
use Rattle.hash_order.proofs.ReadLaws.{piece_few, due_some, want_rose, want_stops, homes_step}

module _ (o : Object) (kind : Kind) (n : ℕ) (passed : lend_refusal o kind n 0 ≡ None) where
  pub data_passed : data_refusal o n 0 ≡ None
  unfolding data_refusal
  data_passed =
      let past = lend_passed o kind n 0 passed in
      ap (λ (r : Option ElfError). first_refusal (r ∷ no_data o n 0 ∷ no_content o n 0 ∷ []))
      past.0
      ∙ ap (λ (r : Option ElfError). first_refusal (r ∷ no_content o n 0 ∷ [])) past.1
      ∙ ap (λ (r : Option ElfError). first_refusal (r ∷ [])) past.3

  pub data_is : data_answer o n 0 ≡ Ok (items_at o n 0)
  unfolding data_answer
  data_is = ap (λ (r : Option ElfError). answered r (items_at o n 0)) data_passed

  pub data_alike : (x : Items) → IsLike AlikeItems (Ok x) (data_answer o n 0)
      → AlikeItems x (items_at o n 0)
  data_alike x like =
      subst (λ (r : Result Items ElfError). IsLike AlikeItems (Ok x) r) data_is like

pub data_told : {S : Type 0} (old : State S) (n : ℕ) (x : Items)
    → Answers old.told (wanted (calls.section_data n 0) old) (Ok x) (data_answer old.o n 0)
    → IsTrue old.told → x ≡ items_at old.o n 0
data_told old n x came told = (data_value old.o n 0 x (came.1 told)).1

module _ {S : Type 0} (g : Ghosts S) (kind : Kind) (n : ℕ) (old new : State S)
    (passed : lend_refusal old.o kind n 0 ≡ None) where
  abbrev Gives : {T : Type 0} → Result T ElfError → Type 0
  Gives r = GivesItems g n 0 r old new

  pub data_hand : {T : Type 0} (r : Result T ElfError) (x : T) → r ≡ Ok x → Gives r
      → IsAtHand new n kind
  data_hand {T} r x is gives = record {
    passed = ap (λ (o : Object). lend_refusal o kind n 0) gives.looks.object ∙ passed;
    holds = subst (λ (q : Result T ElfError). OnOk q (IsTrue (holds_items new.o new.held n 0)))
        is gives.held;
    loaded = subst (λ (q : Result T ElfError). OnOk q ((piece_at new.o n 0).own ≡ None
        → IsTrue (is_loaded new.loaded n))) is gives.loaded;
  }

  module _ (homes : List ℕ)
      (there : IsTrue (is_none (piece_at old.o n 0).own) → Contains homes n) where
    few : IsFew ((calls.section_data n 0).reads old.o) homes
    few = piece_few old.o (err_of (data_answer old.o n 0)) n homes there

    -- the items are looked at, and memory may be wanted behind that
    pub data_reads : {T U : Type 0} (r : Result T ElfError) (x : T) (q : Result U ElfError)
        → r ≡ Ok x → IfErr q (λ e. e ≡ Memory) → Gives r → ReadsHomes g homes q old new
    data_reads {T} {U} r x q is wants gives =
        homes_step g homes (calls.section_data n 0) _ r q old new few few
        (λ h. subst (λ (y : Result T ElfError). IfErr y IsRefusal) (sym is) tt)
        (want_rose g homes q _ _ wants) (want_stops g homes q old wants) gives.looks

    -- they can not be told, for want of memory or by a failed read
    pub data_end : {T U : Type 0} (e : ElfError) (r : Result T ElfError) → r ≡ Err e
        → Answers {A = Items} old.told (wanted (calls.section_data n 0) old) (Err e)
        (data_answer old.o n 0)
        → Gives r → ReadsHomes {T = U} g homes (Err e) old new
    data_end {T} {U} Memory r is came gives =
        homes_step g homes (calls.section_data n 0) _ r (Err Memory) old new few few
        (λ h. absurd h) tt tt gives.looks
    data_end {T} {U} Read r is came gives =
        homes_step g homes (calls.section_data n 0) _ r (Err Read) old new few few
        (λ h. absurd h)
        (read_rose_on T U Read _ _ (subst (λ (y : Result T ElfError).
        ReadRose y (g.faults old.source) (g.faults new.source)) is gives.looks.reads.source.read))
        (due_some old.o old.loaded _ homes few came.0) gives.looks
    data_end {T} {U} e r is came gives =
        let never : ◌≡◌ {A = Result Items ElfError} (Ok (items_at old.o n 0)) (Err e) =
        sym (data_is old.o kind n passed) ∙ came in
        cc

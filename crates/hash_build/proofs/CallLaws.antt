-- Calls on the listed symbols of a table: how they are refused, and how their answers meet the
-- stated ones.
use Rattle.std.proofs.Common.{◌≡◌, ◌<◌, ◌≤◌, ◌^◌, ℕ, Bool, true, false, List, [], ◌∷◌, length, Option, Some, None, Result, Ok, Err, refl, sym, ap, ◌∙◌, subst, inl, inr, arith}
use Rattle.std.specs.Prelude.{IsTrue, IfOk, IfErr, nat_lt, nat_le}
use Rattle.std.proofs.lemmas.Bool.{lt-ltb, lt-leb, le-leb}
use Rattle.elf_types.specs.declared.errors.ElfError.{ElfError}
use Rattle.elf_types.specs.declared.errors.ElfError.TheVariants.{Memory, Read, TooMany, Unsorted}
use Rattle.elf_types.specs.declared.records.Kind.TheVariants as kinds
use Rattle.elf_types.specs.Answers.{Follows, IsRefusal, answered, first_refusal, refused_if}
use Rattle.elf_outside.specs.declared.sources.Source.{Ghosts}
use Rattle.elf_outside.proofs.AskLemmas.{read_rose_refused}
use Rattle.symbol_lookup.specs.elf_object.Words.{Answers, AnswersRead}
use Rattle.symbol_lookup.specs.elf_object.Object.{Object}
use Rattle.symbol_lookup.specs.elf_object.Answers.{count_at, items_at, lend_refusal}
use Rattle.symbol_lookup.specs.elf_object.Due.{homes_due, unless_refused}
use Rattle.symbol_lookup.specs.elf_object.Calls.{Call, due}
use Rattle.symbol_lookup.proofs.elf_object.AnswerLaws.{lend_kind}
use Rattle.symbol_lookup.proofs.elf_object.ItemCounts.{syms_counted}
use Rattle.symbol_lookup.proofs.elf_object.PassedLaws.{none_first}
use Rattle.symbol_lookup.specs.elf_descriptor.State.{State}
use Rattle.symbol_lookup.specs.elf_descriptor.Reads.{Reads, Looks, wanted}
use Rattle.symbol_lookup.proofs.elf_descriptor.ReadsLaws.{reads_nothing}
use Rattle.symbol_lookup.specs.hash_model.BuiltHashes.{hash_refusal}
use Rattle.symbol_lookup.specs.hash_model.Listed.{listed_names}
use Rattle.symbol_lookup.specs.Lookups.{table_homes}
use Rattle.hash_build.specs.Calls.{hash_call, order_refusals}
use Rattle.hash_build.specs.Tables.{MayStop, MayStopUnsorted, ReadsTable, ReadsInOrder}
use Rattle.hash_build.proofs.ListedLaws.{names_long}

-- ---- Refusals

pub lend_of : (o : Object) (s : ℕ) → hash_refusal o s ≡ None → lend_refusal o kinds.Sym s 0 ≡ None
unfolding hash_refusal
lend_of o s passed = none_first (lend_refusal o kinds.Sym s 0) _ passed

module _ (o : Object) (s : ℕ) where
  abbrev behind_lend : Option ElfError → Bool → Option ElfError
  behind_lend r b = first_refusal (r ∷ refused_if b TooMany ∷ [])

  pub refused_lend : (e : ElfError) → lend_refusal o kinds.Sym s 0 ≡ Some e
      → hash_refusal o s ≡ Some e
  unfolding hash_refusal
  refused_lend e is =
      ap (λ (r : Option ElfError). behind_lend r (nat_le (2 ^ 32) (count_at o s 0))) is

  module _ (count : ℕ) (passed : lend_refusal o kinds.Sym s 0 ≡ None)
      (is : count ≡ count_at o s 0) where
    by_count : (b : Bool) → nat_le (2 ^ 32) (count_at o s 0) ≡ b
        → hash_refusal o s ≡ refused_if b TooMany
    unfolding hash_refusal
    by_count true known =
        ap (λ (r : Option ElfError). behind_lend r (nat_le (2 ^ 32) (count_at o s 0))) passed
        ∙ ap (λ (b : Bool). behind_lend None b) known
    by_count false known =
        ap (λ (r : Option ElfError). behind_lend r (nat_le (2 ^ 32) (count_at o s 0))) passed
        ∙ ap (λ (b : Bool). behind_lend None b) known

    pub too_many : 2 ^ 32 ≤ count → hash_refusal o s ≡ Some TooMany
    too_many many =
        by_count true (le-leb (2 ^ 32) (count_at o s 0) (omega (arith, is, many)))

    pub not_too_many : count < 2 ^ 32 → hash_refusal o s ≡ None
    not_too_many few =
        by_count false (lt-leb (2 ^ 32) (count_at o s 0) (omega (arith, is, few)))

    pub counted : count ≡ length (listed_names o s)
    unfolding count_at
    counted =
        is ∙ sym (syms_counted (items_at o s 0) (lend_kind o kinds.Sym s 0 passed))
        ∙ sym (names_long o s)

-- ---- Answers

module _ {S A : Type 0} (old : State S) (s : ℕ) (answer : Object → Result A ElfError) where
  abbrev homes : List ℕ
  homes = table_homes old.o s

  -- a call that answers a value where it is not refused
  pub hash_answers : (value : A) (r : Result A ElfError)
      → answer old.o ≡ answered (hash_refusal old.o s) value → hash_refusal old.o s ≡ None
      → (IsTrue old.told → IfOk r (λ x. x ≡ value)) → IfErr r (MayStop old s)
      → Answers old.told (wanted (hash_call s answer) old) r (answer old.o)
  hash_answers value r is passed told ended =
      subst (λ (stated : Result A ElfError).
      Answers old.told (wanted (hash_call s answer) old) r stated) (sym is)
      (subst (λ (refusal : Option ElfError). Answers old.told (record {
        memory = true;
        read = nat_lt 0 (homes_due old.o old.loaded (unless_refused refusal homes));
      }) r (answered refusal value)) (sym passed) (by_result r told ended))
    where
      by_result : (r : Result A ElfError) → (IsTrue old.told → IfOk r (λ x. x ≡ value))
          → IfErr r (MayStop old s) → Answers old.told (record {
            memory = true;
            read = nat_lt 0 (homes_due old.o old.loaded homes);
          }) r (Ok value)
      by_result (Ok x) told ended = (refl, λ t. ap (λ (y : A). Ok y) (sym (told t)))
      by_result (Err Memory) told ended = (refl, tt)
      by_result (Err Read) told ended =
          (lt-ltb 0 (homes_due old.o old.loaded homes) ended, tt)
      by_result (Err e) told ended = absurd ended

  -- one that may find the symbols out of their order
  pub order_answers : (stated : Result A ElfError) (r : Result A ElfError)
      → answer old.o ≡ stated → hash_refusal old.o s ≡ None
      → (IsTrue old.told → Follows r stated) → IfErr r (MayStopUnsorted old s)
      → AnswersRead old.told (wanted (hash_call s answer) old)
      (order_refusals (hash_refusal old.o s)) r (answer old.o)
  order_answers stated (Ok x) is passed told ended = (passed, λ t. is ∙ told t)
  order_answers stated (Err Memory) is passed told ended = (passed, refl)
  order_answers stated (Err Read) is passed told ended = (
    passed,
    subst (λ (refusal : Option ElfError).
        IsTrue (nat_lt 0 (homes_due old.o old.loaded (unless_refused refusal homes)))) (sym passed)
        (lt-ltb 0 (homes_due old.o old.loaded homes) ended),
  )
  order_answers stated (Err (Unsorted at)) is passed told ended =
      inr (passed, tt, λ t. is ∙ told t)
  order_answers stated (Err e) is passed told ended = absurd ended

  -- a refusal before it reads
  pub order_refused : (e : ElfError) → IsRefusal e → hash_refusal old.o s ≡ Some e
      → answer old.o ≡ Err e → AnswersRead old.told (wanted (hash_call s answer) old)
      (order_refusals (hash_refusal old.o s)) (Err e) (answer old.o)
  order_refused Memory is refused stated = absurd is
  order_refused Read is refused stated = absurd is
  order_refused e is refused stated = inl (refused, stated)

  module _ {T : Type 0} (g : Ghosts S) (r : Result T ElfError) (new : State S)
      (passed : hash_refusal old.o s ≡ None) where
    read_homes : Reads g r old new homes homes (homes_due old.o old.loaded homes)
        → Reads g r old new (unless_refused (hash_refusal old.o s) homes)
        (unless_refused (hash_refusal old.o s) homes)
        (homes_due old.o old.loaded (unless_refused (hash_refusal old.o s) homes))
    read_homes reads =
        subst (λ (refusal : Option ElfError). Reads g r old new (unless_refused refusal homes)
        (unless_refused refusal homes)
        (homes_due old.o old.loaded (unless_refused refusal homes))) (sym passed) reads

    pub hash_looks : ReadsTable g s r old new → Looks g (hash_call s answer) r old new
    hash_looks reads = record { object = reads.object; reads = read_homes reads.reads }

    pub order_looks : ReadsInOrder g s r old new → Looks g (hash_call s answer) r old new
    order_looks reads = record { object = reads.object; reads = read_homes reads.reads }

-- where a call is refused it does nothing
pub refused_looks : {S A T : Type 0} (g : Ghosts S) (c : Call A) (state : State S) (e : ElfError)
    → IsRefusal e → Looks {T = T} g c (Err e) state state
refused_looks {S} {A} {T} g c state e is = record {
  object = refl;
  reads = reads_nothing g (Err e) state (c.reads state.o) (c.reads state.o)
      (due c state.o state.loaded) (read_rose_refused T e (g.faults state.source)
      (g.faults state.source) is);
}

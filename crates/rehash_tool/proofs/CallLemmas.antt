-- The calls of rehash, as steps of it.
use Rattle.std.proofs.Common.{◌≡◌, ℕ, true, List, [], ◌∷◌, length, Option, Some, None, Result, Ok, Err, refl, sym, ap, ◌∙◌, subst}
use Rattle.std.specs.Prelude.{IsTrue, IfSome, OnOk, IsOk}
use Rattle.elf_types.specs.declared.records.Part.TheVariants as part
use Rattle.elf_types.specs.declared.errors.ElfError.{ElfError}
use Rattle.elf_types.specs.declared.errors.ElfError.TheVariants.{Memory, Read, Unfit}
use Rattle.elf_types.specs.Answers.{Follows, stated_refusal, answered, ◌>>=◌}
use Rattle.elf_xlate.specs.declared.content.Items.{Items}
use Rattle.elf_xlate.specs.Translation.{first_unfit}
use Rattle.elf_outside.specs.declared.sources.Source.{Ghosts}
use Rattle.elf_outside.specs.Asks.{ReadRose}
use Rattle.elf_outside.proofs.AskLemmas.{read_rose_on, read_rose_refused}
use Rattle.elf_object.specs.Words.{Wants, Answers, handing_back}
use Rattle.elf_object.specs.Object.{Object}
use Rattle.elf_object.specs.Answers.{bytes_of, words_of, count_at, no_section, no_data, reserved}
use Rattle.elf_object.specs.Calls.{Call, data_answer, replace_refusal, unfit_items, after_answer}
use Rattle.elf_object.specs.Calls as calls
use Rattle.elf_object.proofs.AnswerLaws.{answered_refusal}
use Rattle.elf_object.proofs.RefusalLaws.{Refuses, test_refuses, first_refuses}
use Rattle.tool_files.specs.elf_descriptor.State.{State}
use Rattle.tool_files.specs.elf_descriptor.Edits.{stepped}
use Rattle.tool_files.specs.elf_descriptor.Reads.{Looks}
use Rattle.tool_files.specs.elf_descriptor.Rests.{GivesItems}
use Rattle.elf_object.specs.Sections.{edited}
use Rattle.hash_model.specs.BuiltHashes.{hash_refusal, gnu_order_answer}
use Rattle.hash_model.specs.Listed.{listed_names}
use Rattle.hash_model.specs.Reordered.{reordered, reorder_refusal}
use Rattle.rebuild_model.specs.Rehashed.{shape_of, nbucket_of, with_gnu, with_sysv}
use Rattle.hash_build.specs.Rows.{IsOrder}
use Rattle.hash_build.proofs.CallLaws.{lend_of, counted}
use Rattle.hash_order.specs.Calls.{Reorders}
use Rattle.rehash_tool.specs.Steps.{kept_shape, kept_nbucket, shaped_gnu, built_sysv, Gives, TurnsObject, IsTurned}
use Rattle.rehash_tool.proofs.StepLemmas.{refusal_given, ok_passed, keeps_none, keeps_reads, keeps_state}

-- what is found in a section's items
abbrev found : {S A : Type 0} → (Items → A) → ℕ → State S → Result A ElfError
found f n old = data_answer old.o n 0 >>= λ l. Ok (f l)

module _ {S : Type 0} (g : Ghosts S) where
  -- ---- The items of a section

  module _ {A T U : Type 0} (see : U → A) (f : Items → A) (n : ℕ) (old new : State S)
      (w : Wants) where
    pub items_given : (r : Result T ElfError) (x : T) (l : Items) (y : U) → r ≡ Ok x
        → Answers old.told w (Ok l) (data_answer old.o n 0) → see y ≡ f l
        → GivesItems g n 0 r old new → Gives g see (found f n old) (Ok y) old new
    items_given r x l y is came same gives = record {
      object = gives.looks.object;
      keeps = keeps_reads g r (Ok y) old new _ _ _ tt gives.looks.reads;
      given = λ told.
          ap (λ (q : Result Items ElfError). q >>= λ l. Ok (f l)) (came.1 told)
          ∙ ap (λ (a : A). Ok a) (sym same);
    }

    pub items_refused : (r : Result T ElfError) (e : ElfError) → r ≡ Err e
        → Answers {A = Items} old.told w (Err e) (data_answer old.o n 0)
        → GivesItems g n 0 r old new → Gives {T = U} g see (found f n old) (Err e) old new
    items_refused r e is came gives = record {
      object = gives.looks.object;
      keeps = keeps_reads g r (Err e) old new _ _ _
          (read_rose_on T U e _ _ (subst (λ (q : Result T ElfError).
          ReadRose q (g.faults old.source) (g.faults new.source)) is
          gives.looks.reads.source.read)) gives.looks.reads;
      given = λ told. by e came;
    }
      where
        by : (d : ElfError) → Answers {A = Items} old.told w (Err d) (data_answer old.o n 0)
            → IfSome (stated_refusal d) (λ x. found f n old ≡ Err x)
        by Memory came = tt
        by Read came = tt
        by d came = ap (λ (q : Result Items ElfError). q >>= λ l. Ok (f l)) came

  -- ---- A call that looks

  pub looked : {A : Type 0} (c : Call A) (r : Result A ElfError) (old new : State S)
      → (IsTrue old.told → Follows r (c.answer old.o)) → Looks g c r old new
      → Gives g (λ x. x) (c.answer old.o) r old new
  looked c r old new follows looks = record {
    object = looks.object;
    keeps = keeps_reads g r r old new _ _ _ looks.reads.source.read looks.reads;
    given = follows;
  }

  -- ---- The order

  pub reorder_turns : (w : Wants) (s : ℕ) (order : List ℕ) (r : Result (Unit {0}) ElfError)
      (old new : State S)
      → Answers true w r (answered (reorder_refusal old.o s) (tt {0}))
      → Reorders g s order r old new
      → TurnsObject g (answered (reorder_refusal old.o s) (reordered old.o s order)) r old new
  reorder_turns w s order r old new came done = record {
    keeps = record {
      told = done.told;
      leaves = done.asks.leaves;
      later = done.asks.later;
      read = done.asks.read;
    };
    turned = λ told. by r came (after told r done);
  }
    where
      after : IsTrue old.told → (q : Result (Unit {0}) ElfError) → Reorders g s order q old new
          → OnOk q (new.o ≡ reordered old.o s order)
      after told (Ok x) done = done.object.exact told
      after told (Err e) done = tt

      by : (q : Result (Unit {0}) ElfError)
          → Answers true w q (answered (reorder_refusal old.o s) (tt {0}))
          → OnOk q (new.o ≡ reordered old.o s order)
          → IsTurned q (answered (reorder_refusal old.o s) (reordered old.o s order)) new.o
      by (Ok x) came is =
          ap (λ (x : Option ElfError). answered x (reordered old.o s order))
          (ok_passed (reorder_refusal old.o s) (tt {0}) came.0)
          ∙ ap (λ (o : Object). Ok o) (sym is)
      by (Err Memory) came is = tt
      by (Err Read) came is = tt
      by (Err e) came is =
          ap (λ (x : Option ElfError). answered x (reordered old.o s order))
          (answered_refusal (reorder_refusal old.o s) (tt {0}) e came)

  -- ---- A section's items, stored

  abbrev put : Object → ℕ → Items → Result (Unit {0}) ElfError
  put o n l = (calls.replace n 0 l).answer o

  pub put_done : (n : ℕ) (l : Items) (old new : State S)
      → ◌≡◌ {A = Result (Unit {0}) (Items × ElfError)} (Ok tt) (handing_back l (put old.o n l))
      → new ≡ stepped (calls.replace n 0 l) old
      → TurnsObject {T = Unit {0}} g (edited (calls.replace n 0 l) old.o) (Ok tt) old new
  put_done n l old new came is = record {
    keeps = keeps_state g (Ok tt) old old new (ap (λ (x : State S). x.told) is)
        (ap (λ (x : State S). x.source) is) (keeps_none g (Ok tt) old tt);
    turned = λ told.
        by (put old.o n l) came
        ∙ ap (λ (o : Object). Ok o) (sym (ap (λ (x : State S). x.o) is));
  }
    where
      by : (r : Result (Unit {0}) ElfError)
          → ◌≡◌ {A = Result (Unit {0}) (Items × ElfError)} (Ok tt) (handing_back l r)
          → (r >>= λ x. Ok ((calls.replace n 0 l).after old.o))
          ≡ Ok ((calls.replace n 0 l).after old.o)
      by (Ok x) came = refl
      by (Err e) came = cc

  put_refuses : (o : Object) (n : ℕ) (l : Items) → Refuses (replace_refusal o n 0 l)
  unfolding replace_refusal
  put_refuses o n l =
      first_refuses
      (no_section o n ∷ reserved n ∷ no_data o n 0 ∷ unfit_items o n 0 l ∷ [])
      (test_refuses _ _ tt, (test_refuses _ _ tt, (test_refuses _ _ tt, (unfit, tt))))
    where
      by : (r : Option ℕ)
          → Refuses (elim r as (λ (x : Option ℕ). Option ElfError) [
            | None ↦ None
            | Some i ↦ Some (Unfit (part.Piece n 0) i)
          ])
      by None = tt
      by (Some i) = tt

      unfit : Refuses (unfit_items o n 0 l)
      unfit = by (first_unfit o.header.class l)

  pub put_refused : (n : ℕ) (l back : Items) (e : ElfError) (old new : State S)
      → ◌≡◌ {A = Result (Unit {0}) (Items × ElfError)} (Err (back, e))
      (handing_back l (put old.o n l))
      → new ≡ old → TurnsObject {T = Unit {0}} g (edited (calls.replace n 0 l) old.o) (Err e) old new
  put_refused n l back e old new came is =
      subst (λ (x : State S). TurnsObject {T = Unit {0}} g (edited (calls.replace n 0 l) old.o) (Err e)
      old x) (sym is) (record {
        keeps = keeps_none g (Err e) old (read_rose_refused (Unit {0}) e _ _
            (subst (λ (r : Option ElfError). Refuses r) refused (put_refuses old.o n l)));
        turned = λ told.
            refusal_given (edited (calls.replace n 0 l) old.o) e (ap (λ (r : Option ElfError).
            answered r (tt {0}) >>= λ x. Ok ((calls.replace n 0 l).after old.o)) refused);
      })
    where
      by : (r : Option ElfError)
          → ◌≡◌ {A = Result (Unit {0}) (Items × ElfError)} (Err (back, e))
          (handing_back l (answered r (tt {0}))) → r ≡ Some e
      by None came = cc
      by (Some d) came =
          let pair : (back, e) ≡ (l, d) = cc in
          ap (λ (p : Items × ElfError). Some p.1) (sym pair)

      refused : replace_refusal old.o n 0 l ≡ Some e
      refused = by (replace_refusal old.o n 0 l) came

-- ---- The order of symbols

-- an order of the listed names is one of the symbols
pub order_of_symbols : (o p : Object) (s n : ℕ) (order : List ℕ) → p ≡ o
    → IsOk (gnu_order_answer o s n) → IsOrder order (length (listed_names o s))
    → IsOrder order (count_at p s 0)
unfolding gnu_order_answer
order_of_symbols o p s n order same is whole =
    subst (λ (q : Object). IsOrder order (count_at q s 0)) (sym same)
    (subst (λ (count : ℕ). IsOrder order count)
    (sym (counted o s (count_at o s 0) (lend_of o s (ok_passed (hash_refusal o s) _ is)) refl))
    whole)

-- ---- What is stated, step by step

by_data : {A : Type 0} (r : Result Items ElfError) (f : Items → A)
    (next : A → Result Object ElfError)
    → ((r >>= λ l. Ok (f l)) >>= next) ≡ (r >>= λ l. next (f l))
by_data (Ok l) f next = refl
by_data (Err e) f next = refl

pub with_gnu_is : (o : Object) (s n : ℕ)
    → (kept_shape o n >>= λ shape. shaped_gnu o s n shape) ≡ with_gnu o s n
unfolding with_gnu
with_gnu_is o s n =
    by_data (data_answer o n 0)
    (λ l. shape_of o.header.class o.header.order (bytes_of l)) (λ shape. shaped_gnu o s n shape)

pub with_sysv_is : (o : Object) (s n : ℕ)
    → (kept_nbucket o n >>= λ nbucket. built_sysv o s n nbucket) ≡ with_sysv o s n
unfolding with_sysv
with_sysv_is o s n =
    by_data (data_answer o n 0) (λ l. nbucket_of (words_of l))
    (λ nbucket. built_sysv o s n nbucket)

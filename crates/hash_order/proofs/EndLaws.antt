-- How a reordering ends.
use Rattle.std.proofs.Common.{◌≡◌, ◌+◌, ◌<◌, ℕ, Bool, true, false, List, [], ◌∷◌, length, map, Option, Some, None, Result, Ok, Err, refl, sym, ap, ◌∙◌, subst, arith}
use Rattle.std.specs.Prelude.{IsTrue, Contains, IfErr, OnErr, OnOk, nat_lt, if◌then◌else◌, ◌==◌}
use Rattle.std.specs.List.{AllByRecursion}
use Rattle.std.proofs.lemmas.Bool.{lt-ltb}
use Rattle.elf_types.specs.declared.records.Kind.{Kind}
use Rattle.elf_types.specs.declared.records.Kind.TheVariants as kinds
use Rattle.elf_types.specs.declared.records.Sym.{Sym}
use Rattle.elf_types.specs.declared.errors.ElfError.{ElfError}
use Rattle.elf_types.specs.declared.errors.ElfError.TheVariants.{Memory, Read, Write, OutOfFile, Ragged}
use Rattle.elf_types.specs.Answers.{IsRefusal, answered, err_of}
use Rattle.elf_xlate.specs.declared.content.Items.{Items}
use Rattle.elf_xlate.specs.declared.content.Items.TheVariants as items
use Rattle.elf_xlate.specs.Translation.{decoded}
use Rattle.elf_outside.specs.declared.sources.Source.{Ghosts}
use Rattle.elf_outside.specs.Asks.{Asks, ReadRose}
use Rattle.elf_outside.proofs.AskLemmas.{asks_both, asks_fewer}
use Rattle.symbol_lookup.specs.elf_object.Words.{Answers}
use Rattle.symbol_lookup.specs.elf_object.Object.{Object, section_at, piece_at}
use Rattle.symbol_lookup.specs.elf_object.Answers.{items_at, syms_of, count_at, content, no_section, no_data, wrong_kind, no_content, lend_refusal}
use Rattle.symbol_lookup.specs.elf_object.Due.{homes_due, unless_refused, all_sections}
use Rattle.symbol_lookup.specs.elf_object.Steps.{with_own}
use Rattle.symbol_lookup.proofs.elf_object.AnswerLaws.{answered_refusal, answers_refused}
use Rattle.symbol_lookup.proofs.elf_object.RefusalLaws.{Refuses, test_refuses, first_refuses}
use Rattle.symbol_lookup.specs.elf_descriptor.State.{State}
use Rattle.symbol_lookup.proofs.elf_descriptor.LendLaws.{lend_there}
use Rattle.symbol_lookup.specs.elf_object.Sections.{header_at}
use Rattle.symbol_lookup.specs.hash_model.Reordered.{kind_by_symbols, in_order, reorder_refusal, reorder_refusal_of, too_few_items}
use Rattle.hash_order.specs.declared.nexts.Next.{Next}
use Rattle.hash_order.specs.Plans.{given_by, stored, IsNoItems, IsPlan, BecomesOrdered}
use Rattle.hash_order.specs.Reading.{MayStopReading, ReadsHomes, Stores}
use Rattle.hash_order.specs.Calls.{all_homes, order_homes, reorder_wants, Reorders}
use Rattle.hash_order.proofs.FollowLaws.{symbols_passed, refusal_by, refusal_is, table_apart}
use Rattle.hash_order.proofs.OrderLaws.{next_apart, becomes_ordered}
use Rattle.hash_order.proofs.ReadLaws.{ended_before, homes_end}

-- ---- A refusal is one that is stated

content_refuses : (o : Object) (n : ℕ) → Refuses (no_content o n 0)
unfolding no_content content
content_refuses o n = by (piece_at o n 0).own
  where
    by_content : (out : Bool) (made : Option Items)
        → Refuses (err_of (if out then Err (OutOfFile n)
        else (elim made as (λ (x : Option Items). Result Items ElfError) [
          | None ↦ Err (Ragged n)
          | Some l ↦ Ok l
        ])))
    by_content true made = tt
    by_content false None = tt
    by_content false (Some l) = tt

    by : (own : Option Items)
        → Refuses (elim own as (λ (x : Option Items). Option ElfError) [
          | None ↦ err_of (content o n)
          | Some l ↦ None
        ])
    by None =
        by_content (section_at o n).home.out
        (decoded (section_at o n).home.kind o.header.class o.header.order (section_at o n).raw)
    by (Some l) = tt

lend_refuses : (o : Object) (kind : Kind) (n : ℕ) → Refuses (lend_refusal o kind n 0)
unfolding lend_refusal
lend_refuses o kind n =
    first_refuses
    (no_section o n ∷ no_data o n 0 ∷ wrong_kind o kind n 0 ∷ no_content o n 0 ∷ [])
    (test_refuses _ _ tt, (test_refuses _ _ tt, (test_refuses _ _ tt, (content_refuses o n, tt))))

follower_refuses : (o : Object) (s n : ℕ) → Refuses (reorder_refusal_of o s n)
follower_refuses o s n =
    subst (λ (r : Option ElfError). Refuses r)
    (sym (refusal_is o s n ((header_at o n).link == s) (kind_by_symbols (header_at o n).stype)
    refl refl))
    (by ((header_at o n).link == s) (kind_by_symbols (header_at o n).stype))
  where
    by : (linked : Bool) (kind : Option Kind) → Refuses (refusal_by o s n linked kind)
    by false kind = tt
    by true None = tt
    by true (Some kind) =
        first_refuses
        (lend_refusal o kind n 0 ∷ too_few_items o (count_at o s 0) n ∷ [])
        (lend_refuses o kind n, (test_refuses _ _ tt, tt))

order_refuses : (o : Object) (s : ℕ) → Refuses (reorder_refusal o s)
unfolding reorder_refusal
order_refuses o s =
    first_refuses (lend_refusal o kinds.Sym s 0 ∷ map (reorder_refusal_of o s) (all_sections o))
    (lend_refuses o kinds.Sym s, rows (all_sections o))
  where
    rows : (l : List ℕ) → AllByRecursion Refuses (map (reorder_refusal_of o s) l)
    rows [] = tt
    rows (n ∷ l) = (follower_refuses o s n, rows l)

-- ---- Answers

pub order_passes : (o : Object) (s count : ℕ)
    → Ok count ≡ answered (reorder_refusal o s) (count_at o s 0) → reorder_refusal o s ≡ None
order_passes o s count came = by (reorder_refusal o s) came
  where
    by : (r : Option ElfError) → Ok count ≡ answered r (count_at o s 0) → r ≡ None
    by None came = refl
    by (Some e) came = cc

module _ {S : Type 0} (old : State S) (s : ℕ) where
  pub reorder_refused : (count : ℕ) (e : ElfError)
      → Err e ≡ answered (reorder_refusal old.o s) count
      → Answers true (reorder_wants old s) (Err e)
      (answered (reorder_refusal old.o s) (tt {0}))
  reorder_refused count e came =
      let is = answered_refusal (reorder_refusal old.o s) count e (sym came) in
      answers_refused true (reorder_wants old s) (reorder_refusal old.o s) (tt {0}) e
      (subst (λ (r : Option ElfError). Refuses r) is (order_refuses old.o s)) is

  module _ (passed : reorder_refusal old.o s ≡ None) where
    homes_are : order_homes old.o s ≡ all_homes old.o s
    homes_are =
        ap (λ (r : Option ElfError). unless_refused r (all_homes old.o s)) passed

    pub reorder_answers : (r : Result (Unit {0}) ElfError)
        → IfErr r (MayStopReading old (all_homes old.o s))
        → Answers true (reorder_wants old s) r (answered (reorder_refusal old.o s) (tt {0}))
    reorder_answers r ended =
        subst (λ (x : Option ElfError).
        Answers true (reorder_wants old s) r (answered x (tt {0}))) (sym passed) (by r ended)
      where
        by : (q : Result (Unit {0}) ElfError) → IfErr q (MayStopReading old (all_homes old.o s))
            → Answers true (reorder_wants old s) q (Ok (tt {0}))
        by (Ok x) ended = (refl, λ t. refl)
        by (Err Memory) ended = (refl, tt)
        by (Err Read) ended = (
          ap (λ (l : List ℕ). nat_lt 0 (homes_due old.o old.loaded l)) homes_are
              ∙ lt-ltb 0 (homes_due old.o old.loaded (all_homes old.o s)) ended,
          tt,
        )
        by (Err e) ended = absurd ended

-- ---- Where nothing is done

-- no failed read, and no failed write
abbrev pub IsRefusalOrMemory : ElfError → Type 0
IsRefusalOrMemory Read = ⊥
IsRefusalOrMemory Write = ⊥
IsRefusalOrMemory e = Unit {0}

module _ {S : Type 0} (g : Ghosts S) (s : ℕ) (order : List ℕ) (old : State S) where
  pub reorders_none : (e : ElfError) → IsRefusalOrMemory e
      → Reorders {T = Unit {0}} g s order (Err e) old old
  reorders_none e is = record {
    object = tt;
    refused = refl;
    told = refl;
    asks = record {
      leaves = record { same_len = refl; same_bytes = refl; same_rest = refl };
      later = omega arith;
      read = no_read e is;
      taken = record { later = omega arith; no_more = omega arith };
    };
    loads = λ i out. refl;
    stays = λ i loaded. loaded;
  }
    where
      no_read : (d : ElfError) → IsRefusalOrMemory d
          → ReadRose {T = Unit {0}} (Err d) (g.faults old.source) (g.faults old.source)
      no_read Read is = absurd is
      no_read Write is = absurd is
      no_read d is = tt

pub memory_free : (e : ElfError) → e ≡ Memory → IsRefusalOrMemory e
memory_free e is = subst (λ (d : ElfError). IsRefusalOrMemory d) (sym is) tt

pub refusal_free : (o : Object) (s count : ℕ) (e : ElfError)
    → Err e ≡ answered (reorder_refusal o s) count → IsRefusalOrMemory e
refusal_free o s count e came =
    by e (subst (λ (r : Option ElfError). Refuses r)
    (answered_refusal (reorder_refusal o s) count e (sym came)) (order_refuses o s))
  where
    by : (d : ElfError) → IsRefusal d → IsRefusalOrMemory d
    by Memory is = tt
    by Read is = is
    by Write is = is
    by d is = tt

-- ---- Steps

module _ {S : Type 0} (g : Ghosts S) (old mid : State S) (s : ℕ) where
  abbrev homes : List ℕ
  homes = all_homes old.o s

  pub ended_then : {T : Type 0} (x : T) (r : Result (Unit {0}) ElfError)
      → ReadsHomes {T = T} g homes (Ok x) old mid
      → IfErr r (MayStopReading mid (all_homes mid.o s)) → IfErr r (MayStopReading old homes)
  ended_then x r reads ended =
      ended_before g homes old mid r reads.object reads.reads.stays
      (subst (λ (o : Object). IfErr r (MayStopReading mid (all_homes o s))) reads.object ended)

  module _ (order : List ℕ) where
    pub reorders_end : {T : Type 0} (e : ElfError) → reorder_refusal old.o s ≡ None
        → ReadsHomes {T = T} g homes (Err e) old mid
        → Reorders {T = Unit {0}} g s order (Err e) old mid
    reorders_end {T} e passed reads =
        let ends : ReadsHomes {T = Unit {0}} g homes (Err e) old mid =
        homes_end g homes {T = T} {U = Unit {0}} e old mid reads in
        record {
          object = tt;
          refused = reads.object;
          told = reads.reads.told;
          asks = subst (λ (l : List ℕ). Asks {T = Unit {0}} g (Err e) old.source mid.source
              (homes_due old.o old.loaded l)) (sym (homes_are old s passed)) ends.reads.source;
          loads = λ i out. reads.reads.loads i
              (subst (λ (l : List ℕ). ¬ Contains l i) (homes_are old s passed) out);
          stays = reads.reads.stays;
        }

    -- the symbols were read, and then the rest is done
    pub reorders_then : {T : Type 0} (new : State S) (x : T) (r : Result (Unit {0}) ElfError)
        → reorder_refusal old.o s ≡ None → ReadsHomes {T = T} g homes (Ok x) old mid
        → Reorders g s order r mid new → Reorders g s order r old new
    reorders_then new x r passed reads done =
        let same = reads.object in
        let before = reads.reads.first_use tt in
        let second : Asks g r mid.source new.source (homes_due old.o mid.loaded homes) =
        subst (λ (l : List ℕ). Asks g r mid.source new.source (homes_due old.o mid.loaded l))
        (homes_are old s passed)
        (subst (λ (o : Object). Asks g r mid.source new.source
        (homes_due o mid.loaded (order_homes o s))) same done.asks) in
        let both = asks_both g (Ok x) r old.source mid.source new.source
        (homes_due old.o old.loaded homes) (homes_due old.o mid.loaded homes)
        reads.reads.source second in
        record {
          object = subst (λ (o : Object). OnOk r (BecomesOrdered old.told o new.o s order)) same
              (subst (λ (b : Bool). OnOk r (BecomesOrdered b mid.o new.o s order))
              reads.reads.told done.object);
          refused = subst (λ (o : Object). OnErr r (new.o ≡ o)) same done.refused;
          told = done.told ∙ reads.reads.told;
          asks = subst (λ (l : List ℕ). Asks g r old.source new.source
              (homes_due old.o old.loaded l)) (sym (homes_are old s passed)) (record {
                leaves = both.leaves;
                later = both.later;
                read = both.read;
                taken = record {
                  later = both.taken.later;
                  no_more = omega (arith, before, second.taken.no_more);
                };
              });
          loads = λ i out.
              done.loads i (subst (λ (o : Object). ¬ Contains (order_homes o s) i) (sym same) out)
              ∙ reads.reads.loads i
              (subst (λ (l : List ℕ). ¬ Contains l i) (homes_are old s passed) out);
          stays = λ i loaded. done.stays i (reads.reads.stays i loaded);
        }

    pub symbols_then : {T : Type 0} (symbols : List Sym) (x : T)
        → ReadsHomes {T = T} g homes (Ok x) old mid
        → (IsTrue old.told → symbols ≡ in_order order (syms_of (items_at old.o s 0)))
        → IsTrue mid.told → symbols ≡ in_order order (syms_of (items_at mid.o s 0))
    symbols_then symbols x reads is told =
        subst (λ (o : Object). symbols ≡ in_order order (syms_of (items_at o s 0)))
        (sym reads.object) (is (subst (λ (b : Bool). IsTrue b) reads.reads.told told))

    -- ---- What is planned

    module _ (plan : List Next) (passed : reorder_refusal old.o s ≡ None)
        (reads : ReadsHomes {T = Unit {0}} g homes (Ok (tt {0})) old mid)
        (planned : IsPlan old.told old.o s order plan) where
      below : s < length old.o.sections
      below = (lend_there old.o kinds.Sym s 0 (symbols_passed old.o s passed)).0

      pub plan_long : length plan ≡ length mid.o.sections
      plan_long = planned.long ∙ ap (λ (o : Object). length o.sections) (sym reads.object)

      pub plan_apart : IsNoItems (given_by plan (length mid.o.sections) s)
      plan_apart =
          subst (λ (o : Object). IsNoItems (given_by plan (length o.sections) s))
          (sym reads.object)
          (next_apart old.told _ _ (planned.each s below)
          (table_apart old.o s order passed below))

      pub reorders_stored : (new : State S) (symbols : List Sym)
          → length symbols ≡ length order
          → (IsTrue old.told → symbols ≡ in_order order (syms_of (items_at old.o s 0)))
          → Stores g mid new (stored (given_by plan (length mid.o.sections)) 0
          (length mid.o.sections) (with_own mid.o s 0 (items.Sym symbols)))
          → Reorders {T = Unit {0}} g s order (Ok (tt {0})) old new
      reorders_stored new symbols long is stores =
          record {
            object = becomes_ordered old.o s order passed below old.told new.o symbols plan long is
                planned
                (subst (λ (o : Object). new.o ≡ stored (given_by plan (length o.sections)) 0
                (length o.sections) (with_own o s 0 (items.Sym symbols))) reads.object
                stores.object);
            refused = tt;
            told = stores.told ∙ reads.reads.told;
            asks = subst (λ (l : List ℕ). Asks {T = Unit {0}} g (Ok (tt {0})) old.source new.source
                (homes_due old.o old.loaded l)) (sym (homes_are old s passed))
                (asks_fewer g (Ok (tt {0})) old.source new.source
                (homes_due old.o old.loaded homes + 0) (homes_due old.o old.loaded homes)
                (omega arith)
                (asks_both g (Ok (tt {0})) (Ok (tt {0})) old.source mid.source new.source
                (homes_due old.o old.loaded homes) 0 reads.reads.source stores.asks));
            loads = λ i out. stores.same i
                ∙ reads.reads.loads i
                (subst (λ (l : List ℕ). ¬ Contains l i) (homes_are old s passed) out);
            stays = λ i loaded. stores.same i ∙ reads.reads.stays i loaded;
          }

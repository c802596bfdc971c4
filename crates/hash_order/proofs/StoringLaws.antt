-- A plan as it is stored: what the first section gets is taken off its end.
use Rattle.std.proofs.Common.{◌≡◌, ◌+◌, ◌-◌, ◌<◌, ◌≤◌, ◌⊎◌, ℕ, List, length, get_or, take, refl, sym, ap, ◌∙◌, subst, inl, inr, arith}
use Rattle.std.proofs.lemmas.Bool.{cases_eq}
use Rattle.std.proofs.lemmas.List.{take_all, take-take, get_or-take, length-take-le}
use Rattle.elf_types.specs.declared.records.Kind.TheVariants as kinds
use Rattle.elf_types.specs.declared.records.Sym.{Sym}
use Rattle.elf_xlate.specs.declared.content.Items.TheVariants as items
use Rattle.elf_outside.specs.declared.sources.Source.{Ghosts}
use Rattle.symbol_lookup.specs.elf_object.Object.{Object}
use Rattle.symbol_lookup.specs.elf_object.Steps.{with_own}
use Rattle.symbol_lookup.proofs.elf_object.StepLaws.{section_count-with_own}
use Rattle.symbol_lookup.specs.elf_descriptor.State.{State}
use Rattle.symbol_lookup.proofs.elf_descriptor.LendLaws.{lend_there}
use Rattle.hash_order.specs.declared.nexts.Next.{Next}
use Rattle.hash_order.specs.declared.nexts.Next.TheVariants as nexts
use Rattle.hash_order.specs.Plans.{gets, stored, given_by, IsAtHand, IsReadyNext, AreReady, IsNoItems}
use Rattle.hash_order.specs.Reading.{Stores, StoresOne}
use Rattle.hash_order.proofs.StoreLaws.{own_same, own_headers, gets_same, gets_count, ready_after, ready_apart, stores_none, stores_both, stored_more, stored_all}

module _ {S : Type 0} (g : Ghosts S) (first : State S) (plan : List Next)
    (long : length plan ≡ length first.o.sections) where
  abbrev all : ℕ
  all = length first.o.sections

  abbrev given : ℕ → Next
  given n = given_by plan (length first.o.sections) n

  -- so many sections have what they get; the plan for the others is left
  pub record AreStored (n : ℕ) (rest : List Next) (now : State S) : Type 0 where
    pub rest_is : rest ≡ take (all - n) plan
    pub left : stored given n (all - n) now.o ≡ stored given 0 all first.o
    pub ready : (m : ℕ) → n ≤ m → m < all → IsReadyNext now m (given m)
    pub stores : Stores g first now now.o
    pub count : length now.o.sections ≡ all

  pub none_stored : AreReady first plan → AreStored 0 plan first
  none_stored are = record {
    rest_is = sym (take_all (all - 0) plan (omega (arith, long)));
    left = ap (λ (k : ℕ). stored given 0 k first.o)
        (let same : all - 0 ≡ all = omega arith in same);
    ready = λ m from below. are m below;
    stores = stores_none g first;
    count = refl;
  }

  module _ (n : ℕ) (rest : List Next) (now : State S) (below : n < all)
      (are : AreStored n rest now) where
    rest_long : length rest ≡ all - n
    rest_long =
        ap (λ (l : List Next). length l) are.rest_is
        ∙ length-take-le (all - n) plan (omega (arith, long))

    pub some_left : 0 < length rest
    some_left = omega (arith, rest_long, below)

    last_is : get_or rest (length rest - 1) nexts.Stay ≡ given n
    last_is =
        ap (λ (l : List Next). get_or l (length rest - 1) nexts.Stay) are.rest_is
        ∙ get_or-take (all - n) plan (length rest - 1) nexts.Stay
        (omega (arith, rest_long, below))
        ∙ ap (λ (k : ℕ). get_or plan k nexts.Stay)
        (let same : length rest - 1 ≡ all - 1 - n = omega (arith, rest_long) in same)

    pub last_ready : IsReadyNext now n (get_or rest (length rest - 1) nexts.Stay)
    last_ready =
        subst (λ (x : Next). IsReadyNext now n x) (sym last_is) (are.ready n (omega arith) below)

    pub more_stored : (rest' : List Next) (next : State S)
        → rest' ≡ take (length rest - 1) rest
        → StoresOne g now next (gets now.o n (get_or rest (length rest - 1) nexts.Stay))
        → AreStored (n + 1) rest' next
    more_stored rest' next is one =
        let done : StoresOne g now next (gets now.o n (given n)) =
        subst (λ (x : Next). StoresOne g now next (gets now.o n x)) last_is one in
        record {
          rest_is =
              is ∙ ap (λ (l : List Next). take (length rest - 1) l) are.rest_is
              ∙ take-take (length rest - 1) (all - n) plan (omega (arith, rest_long))
              ∙ ap (λ (k : ℕ). take k plan)
              (let same : length rest - 1 ≡ all - (n + 1) = omega (arith, rest_long) in same);
          left =
              ap (λ (o : Object). stored given (n + 1) (all - (n + 1)) o) done.stores.object
              ∙ sym (stored_more given n all now.o below) ∙ are.left;
          ready = λ m from within.
              ready_after g now next (gets now.o n (given n)) done m (given m)
              (gets_same now.o n m (given n) (λ same. absurd (omega (arith, same, from))))
              (are.ready m (omega (arith, from)) within);
          stores = record {
            object = refl;
            told = done.stores.told ∙ are.stores.told;
            asks = (stores_both g first now next now.o (gets now.o n (given n)) are.stores
                done.stores).asks;
            same = λ i. done.stores.same i ∙ are.stores.same i;
          };
          count =
              ap (λ (o : Object). length o.sections) done.stores.object
              ∙ gets_count now.o n (given n) ∙ are.count;
        }

  pub all_stored : (n : ℕ) (rest : List Next) (now : State S) → all ≤ n → AreStored n rest now
      → Stores g first now (stored given 0 all first.o)
  all_stored n rest now past are = record {
    object = sym (stored_all given n all now.o past) ∙ are.left;
    told = are.stores.told;
    asks = are.stores.asks;
    same = are.stores.same;
  }

-- ---- The symbols come first

module _ {S : Type 0} (g : Ghosts S) (old mid : State S) (s : ℕ) (symbols : List Sym)
    (one : StoresOne g old mid (with_own old.o s 0 (items.Sym symbols))) where
  pub table_count : length mid.o.sections ≡ length old.o.sections
  table_count =
      ap (λ (o : Object). length o.sections) one.stores.object
      ∙ section_count-with_own old.o s 0 (items.Sym symbols)

  module _ (plan : List Next) where
    pub table_ready : IsAtHand old s kinds.Sym
        → IsNoItems (given_by plan (length old.o.sections) s) → AreReady old plan
        → AreReady mid plan
    table_ready hand apart are =
        subst (λ (count : ℕ). (n : ℕ) → n < count → IsReadyNext mid n (given_by plan count n))
        (sym table_count)
        (λ n below. by n (given_by plan (length old.o.sections) n) (cases_eq n s)
        (λ same. subst (λ (m : ℕ). IsNoItems (given_by plan (length old.o.sections) m)) (sym same)
        apart) (are n below))
      where
        by : (n : ℕ) (x : Next) → (n ≡ s) ⊎ (n ≡ s → ⊥) → (n ≡ s → IsNoItems x)
            → IsReadyNext old n x → IsReadyNext mid n x
        by n x (inl same) apart ready =
            ready_apart g old mid (with_own old.o s 0 (items.Sym symbols)) one n x
            (own_headers old.o s n (items.Sym symbols)
            (lend_there old.o kinds.Sym s 0 hand.passed).0) (apart same) ready
        by n x (inr other) apart ready =
            ready_after g old mid (with_own old.o s 0 (items.Sym symbols)) one n x
            (own_same old.o s n (items.Sym symbols) other) ready

    pub table_stored : (new : State S)
        → Stores g mid new (stored (given_by plan (length mid.o.sections)) 0
        (length mid.o.sections) mid.o)
        → Stores g old new (stored (given_by plan (length old.o.sections)) 0
        (length old.o.sections) (with_own old.o s 0 (items.Sym symbols)))
    table_stored new stores =
        stores_both g old mid new (with_own old.o s 0 (items.Sym symbols)) _ one.stores
        (subst (λ (o : Object). Stores g mid new
        (stored (given_by plan (length old.o.sections)) 0 (length old.o.sections) o))
        one.stores.object
        (subst (λ (count : ℕ). Stores g mid new (stored (given_by plan count) 0 count mid.o))
        table_count stores))

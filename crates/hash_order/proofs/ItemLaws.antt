-- Items that follow the symbols: as many as before, and of the same kind.
use Rattle.std.proofs.Common.{◌≡◌, ◌<◌, ◌≤◌, ◌⊎◌, ℕ, suc, List, [], ◌∷◌, length, get_or, drop, length-append, length-drop, Option, Some, None, Result, Ok, Err, refl, sym, ap, ◌∙◌, subst, inl, inr, arith}
use Rattle.std.specs.Prelude.{Bool, IsTrue, IfOk, IfErr, OnOk, slice_get}
use Rattle.std.specs.List.{flat_map}
use Rattle.std.proofs.lemmas.List.{length-map}
use Rattle.std.proofs.lemmas.Option.{slice_get_cases}
use Rattle.elf_types.specs.declared.errors.ElfError.{ElfError}
use Rattle.elf_types.specs.declared.errors.ElfError.TheVariants.{Memory}
use Rattle.elf_types.specs.declared.records.Kind.{Kind}
use Rattle.elf_types.specs.declared.records.Kind.TheVariants as kinds
use Rattle.elf_types.specs.declared.records.Sym.{Sym}
use Rattle.elf_xlate.specs.declared.content.Items.{Items}
use Rattle.elf_xlate.specs.declared.content.Items.TheVariants as items
use Rattle.elf_xlate.specs.Translation.{items_kind, items_count}
use Rattle.symbol_lookup.specs.elf_object.Words.{AlikeItems, result_map}
use Rattle.symbol_lookup.specs.elf_object.Object.{Object}
use Rattle.symbol_lookup.specs.elf_object.Answers.{items_at, count_at, syms_of, lend_refusal}
use Rattle.symbol_lookup.proofs.elf_object.AnswerLaws.{lend_kind}
use Rattle.symbol_lookup.proofs.elf_object.ItemCounts.{syms_counted}
use Rattle.symbol_lookup.specs.elf_descriptor.State.{State}
use Rattle.symbol_lookup.specs.hash_model.Reordered.{in_order, moved_along, with_rel, with_rela, items_by_symbols}
use Rattle.hash_order.specs.declared.nexts.Next.TheVariants as nexts
use Rattle.hash_order.specs.Indexes.{AreBelow, item_or_none}
use Rattle.hash_order.specs.Kinds.{IsByIndex, CanFollow, MovesBy}
use Rattle.hash_order.specs.Plans.{AreStatedItems, IsStatedNext, IsAtHand, IsReadyNext}

-- ---- How many there are

one_long : {A : Type 0} (l : List A) (i : ℕ) → i < length l → length (item_or_none l i) ≡ 1
one_long {A} l i below = by (slice_get_cases l i).1
  where
    by : ((x : A) × (i < length l) × (slice_get l i ≡ Some x) × (get_or l i x ≡ x))
        ⊎ ((length l ≤ i) × (slice_get l i ≡ None)) → length (item_or_none l i) ≡ 1
    by (inl (x, within, there, at)) =
        ap (λ (o : Option A). length (elim o as (λ (y : Option A). List A) [
          | None ↦ []
          | Some y ↦ y ∷ []
        ])) there
    by (inr (past, none)) = absurd (omega (arith, below, past))

items_long : {A : Type 0} (order : List ℕ) (l : List A)
    → ((k : ℕ) → k < length order → get_or order k 0 < length l)
    → length (flat_map (λ i. item_or_none l i) order) ≡ length order
items_long [] l below = refl
items_long (i ∷ order) l below =
    let one : length (item_or_none l i) ≡ 1 = one_long l i (below 0 (omega arith)) in
    let rest = items_long order l (λ k within. below (suc k) (omega (arith, within))) in
    omega (
      arith,
      length-append (item_or_none l i) (flat_map (λ i. item_or_none l i) order),
      one,
      rest,
    )

pub in_order_long : {A : Type 0} (order : List ℕ) (l : List A) → AreBelow order
    → length order ≤ length l → length (in_order order l) ≡ length order
unfolding in_order
in_order_long order l below enough =
    items_long order l (λ k within. omega (arith, below k within, enough))

moved_long : {A : Type 0} (order : List ℕ) (l : List A) → AreBelow order
    → length order ≤ length l → length (moved_along order l) ≡ length l
moved_long order l below enough =
    omega (
      arith,
      enough,
      length-append (in_order order l) (drop (length order) l),
      in_order_long order l below enough,
      length-drop (length order) l,
    )

-- ---- Items of one kind, and as many

module _ (order : List ℕ) (below : AreBelow order) where
  moved_alike : (l m : Items) → AlikeItems l m → MovesBy order l
      → AlikeItems (items_by_symbols order l) l
  moved_alike (items.Word x) m same moves = (refl, moved_long order x below moves)
  moved_alike (items.Half x) m same moves = (refl, moved_long order x below moves)
  moved_alike (items.Rel x) m same moves = (refl, length-map x (with_rel order))
  moved_alike (items.Rela x) m same moves = (refl, length-map x (with_rela order))
  moved_alike l m same moves = absurd moves

  -- what can go along by kind and number
  moves_alike : (l m : Items) → AlikeItems l m → MovesBy order m → MovesBy order l
  moves_alike l m same moves =
      subst (λ (k : Kind). CanFollow (length order) k (items_count l)) (sym same.0)
      (subst (λ (n : ℕ). CanFollow (length order) (items_kind m) n) (sym same.1) moves)

  module _ (told : Bool) (l stated : Items) (alike : AlikeItems l stated)
      (exact : IsTrue told → l ≡ stated) (moves : MovesBy order stated) where
    pub moves_too : MovesBy order l
    moves_too = moves_alike l stated alike moves

    follow_alike : AlikeItems (items_by_symbols order l) (items_by_symbols order stated)
    follow_alike =
        let one = moved_alike l stated alike moves_too in
        let other = moved_alike stated stated (refl, refl) moves in
        (one.0 ∙ alike.0 ∙ sym other.0, one.1 ∙ alike.1 ∙ sym other.1)

    -- the items that were made of such are those that the section gets
    pub made_next : (r : Result Items ElfError)
        → IfOk r (λ x. x ≡ items_by_symbols order l)
        → IfOk (result_map nexts.Items r)
        (λ x. IsStatedNext told x (nexts.Items (items_by_symbols order stated)))
    made_next (Err e) is = tt
    made_next (Ok x) is =
        subst (λ (y : Items). AreStatedItems told y (items_by_symbols order stated)) (sym is)
        (follow_alike, λ t. ap (items_by_symbols order) (exact t))

    pub made_kind : items_kind (items_by_symbols order l) ≡ items_kind stated
    made_kind = (moved_alike l stated alike moves_too).0 ∙ alike.0

    pub made_ready : {S : Type 0} (state : State S) (n : ℕ) (kind : Kind) (r : Result Items ElfError)
        → IfOk r (λ x. x ≡ items_by_symbols order l) → items_kind stated ≡ kind → IsByIndex kind
        → IsAtHand state n kind → IfOk (result_map nexts.Items r) (IsReadyNext state n)
    made_ready state n kind (Err e) is same by hand = tt
    made_ready state n kind (Ok x) is same by hand =
        let kinds_are : kind ≡ items_kind x =
        sym same ∙ sym made_kind ∙ ap items_kind (sym is) in (
          subst (λ (k : Kind). IsByIndex k) kinds_are by,
          subst (λ (k : Kind). IsAtHand state n k) kinds_are hand,
        )

pub mapped_err : {A B : Type 0} (f : A → B) (r : Result A ElfError) → IfErr r (λ e. e ≡ Memory)
    → IfErr (result_map f r) (λ e. e ≡ Memory)
mapped_err f (Ok x) is = tt
mapped_err f (Err e) is = is

pub moves_of : (o : Object) (kind : Kind) (n count : ℕ) → lend_refusal o kind n 0 ≡ None
    → CanFollow count kind (count_at o n 0)
    → CanFollow count (items_kind (items_at o n 0)) (items_count (items_at o n 0))
unfolding count_at
moves_of o kind n count passed moves =
    subst (λ (k : Kind). CanFollow count k (items_count (items_at o n 0)))
    (sym (lend_kind o kind n 0 passed)) moves

-- ---- The symbols

module _ (order : List ℕ) (o : Object) (s : ℕ) (l : Items)
    (passed : lend_refusal o kinds.Sym s 0 ≡ None) (alike : AlikeItems l (items_at o s 0)) where
  pub are_symbols : items_kind l ≡ kinds.Sym
  are_symbols = alike.0 ∙ lend_kind o kinds.Sym s 0 passed

  pub symbols_told : (told : Bool) (r : Result (List Sym) ElfError)
      → (IsTrue told → l ≡ items_at o s 0) → IfOk r (λ x. x ≡ in_order order (syms_of l))
      → IsTrue told → IfOk r (λ x. x ≡ in_order order (syms_of (items_at o s 0)))
  symbols_told told (Err e) exact is t = tt
  symbols_told told (Ok x) exact is t =
      is ∙ ap (λ (m : Items). in_order order (syms_of m)) (exact t)

  pub symbols_long : (r : Result (List Sym) ElfError) → AreBelow order
      → length order ≡ count_at o s 0 → IfOk r (λ x. x ≡ in_order order (syms_of l))
      → IfOk r (λ x. length x ≡ length order)
  unfolding count_at
  symbols_long (Err e) below long is = tt
  symbols_long (Ok x) below long is =
      ap (λ (m : List Sym). length m) is
      ∙ in_order_long order (syms_of l) below
      (omega (arith, long, syms_counted l are_symbols, alike.1))

pub on_ok : {A P : Type 0} (r : Result A ElfError) → P → OnOk r P
on_ok (Ok x) p = p
on_ok (Err e) p = tt

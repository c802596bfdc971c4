-- Lists in another order, item by item.
use Rattle.std.proofs.Common.{◌≡◌, ◌+◌, ◌<◌, ◌≤◌, ℕ, List, [], ◌∷◌, ◌++◌, length, get_or, take, drop, set, map, Option, Some, None, Result, refl, sym, ap, ◌∙◌, subst, append-nil, arith}
use Rattle.std.specs.Prelude.{OnOk, slice_get}
use Rattle.std.specs.List.{flat_map}
use Rattle.std.proofs.lemmas.List.{take_more, take_all}
use Rattle.std.proofs.lemmas.List.Edits.{map_over_more}
use Rattle.std.proofs.lemmas.List.Concat.{flat_map-append}
use Rattle.elf_types.specs.declared.errors.ElfError.{ElfError}
use Rattle.symbol_lookup.specs.hash_model.Reordered.{in_order}
use Rattle.hash_order.specs.Indexes.{item_or_none}

-- what is appended is a list that is known
pub pushed_as : {A : Type 0} (r : Result (Unit {0}) ElfError) (old new one other : List A)
    → one ≡ other → OnOk r (new ≡ old ++ one) → OnOk r (new ≡ old ++ other)
pushed_as {A} r old new one other same is =
    subst (λ (l : List A). OnOk r (new ≡ old ++ l)) same is

pub item_there : {A : Type 0} (l : List A) (i : ℕ) (x : A) → Some x ≡ slice_get l i
    → x ∷ [] ≡ item_or_none l i
item_there {A} l i x there =
    ap (λ (o : Option A). elim o [ None ↦ [] | Some y ↦ y ∷ [] ]) there

pub item_gone : {A : Type 0} (l : List A) (i : ℕ) → None ≡ slice_get l i → [] ≡ item_or_none l i
item_gone {A} l i none =
    ap (λ (o : Option A). elim o [ None ↦ [] | Some y ↦ y ∷ [] ]) none

module _ {A : Type 0} (order : List ℕ) (l : List A) where
  pub in_order_more : (k i : ℕ) (moved moved' : List A) → k < length order
      → i ≡ get_or order k 0 → moved ≡ in_order (take k order) l
      → moved' ≡ moved ++ item_or_none l i → moved' ≡ in_order (take (k + 1) order) l
  unfolding in_order
  in_order_more k i moved moved' below i_is so_far is =
      is ∙ ap (λ (m : List A). m ++ item_or_none l i) so_far
      ∙ ap (λ (j : ℕ). flat_map (λ j. item_or_none l j) (take k order) ++ item_or_none l j) i_is
      ∙ ap (λ (m : List A). flat_map (λ j. item_or_none l j) (take k order) ++ m)
      (sym (append-nil (item_or_none l (get_or order k 0))))
      ∙ sym (flat_map-append (λ j. item_or_none l j) (take k order) (get_or order k 0 ∷ []))
      ∙ ap (λ (m : List ℕ). flat_map (λ j. item_or_none l j) m) (sym (take_more order k 0 below))

  pub in_order_none : [] ≡ in_order (take 0 order) l
  unfolding in_order
  in_order_none = refl

  pub in_order_all : (k count : ℕ) (moved : List A) → count ≤ k → count ≡ length order
      → moved ≡ in_order (take k order) l → moved ≡ in_order order l
  in_order_all k count moved past all so_far =
      so_far ∙ ap (λ (m : List ℕ). in_order m l) (take_all k order (omega (arith, past, all)))

-- ---- Each item of a list, in place

pub one_more : {A : Type 0} (moved : A → A) (items there : List A) (i : ℕ) (old new : A)
    → i < length items → there ≡ map moved (take i items) ++ drop i items
    → old ≡ get_or there i old → new ≡ moved old
    → set there i new ≡ map moved (take (i + 1) items) ++ drop (i + 1) items
one_more {A} moved items there i old new within so_far is same =
    ap (λ (x : A). set there i x) same ∙ map_over_more moved items there i old within so_far is

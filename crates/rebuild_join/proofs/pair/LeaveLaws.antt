-- What is left of a pair is left of each of its sources.
use Rattle.std.proofs.Common.{◌≡◌, ◌++◌, ℕ, List, Option, length, take, drop, refl, sym, ap, ◌∙◌, drop_at, take_at}
use Rattle.elf_outside.specs.Asks.{Leaves}
use Rattle.elf_outside.specs.Windows.{window_rest}
use Rattle.elf_outside.specs.declared.sources.Source.{Ghosts}
use Rattle.elf_outside.proofs.RestLemmas.{window_rest_same}
use Rattle.rebuild_join.specs.Pair.Pairs.{rest_of_pair, IsPair}

-- where two lists are appended, and the first is as long, both are the same
parts_same : {A : Type 0} (xs xs' ys ys' : List A) → length xs' ≡ length xs
    → xs' ++ ys' ≡ xs ++ ys → (xs' ≡ xs) × (ys' ≡ ys)
parts_same {A} xs xs' ys ys' long same = (
  sym (take_at xs' ys' (length xs') refl) ∙ ap (λ (l : List A). take (length xs') l) same
      ∙ take_at xs ys (length xs') (sym long),
  sym (drop_at xs' ys' (length xs') refl) ∙ ap (λ (l : List A). drop (length xs') l) same
      ∙ drop_at xs ys (length xs') (sym long),
)

-- the rest of a pair gives back the lengths, the bytes and the rests of both
pub pair_rest_same : (m m' n n' : ℕ) (a a' b b' : Option (List ℕ))
    (mine mine' others others' : List (List ℕ))
    → rest_of_pair m' n' a' b' mine' others' ≡ rest_of_pair m n a b mine others
    → (m' ≡ m) × (n' ≡ n) × (a' ≡ a) × (b' ≡ b) × (mine' ≡ mine) × (others' ≡ others)
pair_rest_same m m' n n' a a' b b' mine mine' others others' same =
    let outer = window_rest_same m' m n' n a' a
    (window_rest (length mine') 0 b' (mine' ++ others'))
    (window_rest (length mine) 0 b (mine ++ others)) same in
    let inner = window_rest_same (length mine') (length mine) 0 0 b' b (mine' ++ others')
    (mine ++ others) outer.3 in
    let rests = parts_same mine mine' others others' inner.0 inner.3 in
    (outer.0, outer.1, outer.2, inner.2, rests.0, rests.1)

module _ {S T P : Type 0} (g : Ghosts S) (h : Ghosts T) (k : Ghosts P) (a next : S) (b after : T)
    (old new : P) where
  pub pair_leaves : IsPair g h k a b old → IsPair g h k next after new → Leaves k old new
      → Leaves g a next × Leaves h b after
  pair_leaves was is left =
      let same = pair_rest_same (g.size a) (g.size next) (h.size b) (h.size after) (g.holds a)
      (g.holds next) (h.holds b) (h.holds after) (g.rest a) (g.rest next) (h.rest b)
      (h.rest after) (sym is.rest ∙ left.same_rest ∙ was.rest) in (
        record { same_len = same.0; same_bytes = same.2; same_rest = same.4 },
        record { same_len = same.1; same_bytes = same.3; same_rest = same.5 },
      )

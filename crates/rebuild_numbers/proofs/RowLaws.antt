-- Items that become others one by one, each with its number.
use Rattle.std.proofs.Common.{◌≡◌, ◌+◌, ◌<◌, ◌≤◌, ℕ, suc, List, [], ◌∷◌, ◌++◌, length, map, take, take_all, length-take-le, sym, ap, ◌∙◌, arith}
use Rattle.std.specs.Prelude.{slice_index_or}
use Rattle.std.specs.List.{enumerate_from}
use Rattle.std.proofs.lemmas.List.{take_more, map-append}

-- the last item is numbered by how many stand before it
enumerate_last : {X : Type 0} (n : ℕ) (l : List X) (x : X)
    → enumerate_from n (l ++ x ∷ []) ≡ enumerate_from n l ++ (n + length l, x) ∷ []
enumerate_last {X} n [] x =
    ap (λ (k : ℕ). (let rows : List (ℕ × X) = (k, x) ∷ [] in rows))
    (let at : n ≡ n + 0 = omega arith in at)
enumerate_last {X} n (y ∷ l) x =
    ap (λ (rows : List (ℕ × X)). (n, y) ∷ rows) (enumerate_last (n + 1) l x
    ∙ ap (λ (k : ℕ). enumerate_from (n + 1) l ++ (k, x) ∷ [])
    (let at : n + 1 + length l ≡ n + suc (length l) = omega arith in at))

-- one item more
pub rows_more : {X Y : Type 0} (f : ℕ × X → Y) (l : List X) (made : List Y) (i : ℕ) (d : X) (y : Y)
    → i < length l → made ≡ map f (enumerate_from 0 (take i l)) → y ≡ f (i, slice_index_or l i d)
    → made ++ y ∷ [] ≡ map f (enumerate_from 0 (take (i + 1) l))
rows_more {X} {Y} f l made i d y below is one =
    let x = slice_index_or l i d in
    let rows = enumerate_from 0 (take i l) in
    let at : i ≡ 0 + length (take i l) = omega (arith, length-take-le i l (omega arith)) in
    ap (λ (t : List Y). t ++ y ∷ []) is
    ∙ ap (λ (z : Y). map f rows ++ z ∷ []) one
    ∙ ap (λ (k : ℕ). map f rows ++ f (k, x) ∷ []) at
    ∙ sym (map-append f rows ((0 + length (take i l), x) ∷ []))
    ∙ ap (λ (t : List (ℕ × X)). map f t) (sym (enumerate_last 0 (take i l) x))
    ∙ ap (λ (t : List X). map f (enumerate_from 0 t)) (sym (take_more l i d below))

-- all items
pub rows_all : {X Y : Type 0} (f : ℕ × X → Y) (l : List X) (made : List Y) (i : ℕ)
    → length l ≤ i → made ≡ map f (enumerate_from 0 (take i l))
    → made ≡ map f (enumerate_from 0 l)
rows_all {X} f l made i le is =
    is ∙ ap (λ (t : List X). map f (enumerate_from 0 t)) (take_all i l le)

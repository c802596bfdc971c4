-- The rows of a pool, made one by one.
use Rattle.std.proofs.Common.{◌≡◌, ◌++◌, ◌+◌, ◌<◌, ◌≤◌, ℕ, min, Bool, true, false, List, [], ◌∷◌, length, take, drop, get_or, map, refl, sym, ap, ◌∙◌, subst, arith, append_assoc, append-nil}
use Rattle.std.specs.Prelude.{nat_le, if◌then◌else◌}
use Rattle.std.proofs.lemmas.Bool.{leb-true, leb-false}
use Rattle.std.proofs.Math.Seq.{take-length, drop-length}
use Rattle.std.proofs.Math.ListN.{drop_of_length-le}
use Rattle.std.proofs.lemmas.List.{at_drop_more, at_drop_all, take-append-drop}
use Rattle.nm_tool.specs.declared.pools.Spot.{Spot}
use Rattle.nm_tool.specs.declared.order.SymbolSortRow.{SymbolSortRow}
use Rattle.nm_tool.specs.Order.{SymbolEntry}
use Rattle.nm_tool.specs.Keys.{as_entry}
use Rattle.nm_tool.specs.Pools.{spot_entries}

by_least : (P : List ℕ → Type 0) (l n : ℕ) (f : ℕ → List ℕ) → (l ≤ n → P (f l)) → (n < l → P (f n)) → P (f (min l n))
by_least P l n f below above = by_test (nat_le l n) refl
  where
    by_test : (t : Bool) → nat_le l n ≡ t → P (f (min l n))
    by_test true is = let le = leb-true l n is in let least : min l n ≡ l = omega (arith, le) in subst (λ (k : ℕ). P (f k)) (sym least) (below le)
    by_test false is = let lt = leb-false l n is in let least : min l n ≡ n = omega (arith, lt) in subst (λ (k : ℕ). P (f k)) (sym least) (above lt)

take_whole : (l : ℕ) (xs : List ℕ) → length xs ≤ l → take l xs ≡ xs
take_whole l xs le =
    sym (append-nil (take l xs)) ∙ ap (λ (rest : List ℕ). take l xs ++ rest) (sym (drop_of_length-le xs le)) ∙ take-append-drop l xs

pub take_least : (l : ℕ) (xs : List ℕ) → take (min l (length xs)) xs ≡ take l xs
take_least l xs = by_least (λ ys. ys ≡ take l xs) l (length xs) (λ n. take n xs) (λ le. refl) (λ lt. take-length xs ∙ sym (take_whole l xs (omega (arith, lt))))

pub drop_least : (l : ℕ) (xs : List ℕ) → drop (min l (length xs)) xs ≡ drop l xs
drop_least l xs = by_least (λ ys. ys ≡ drop l xs) l (length xs) (λ n. drop n xs) (λ le. refl) (λ lt. drop-length xs ∙ sym (drop_of_length-le xs (omega (arith, lt))))

map_append : (f : SymbolSortRow → SymbolEntry) (xs ys : List SymbolSortRow) → map f (xs ++ ys) ≡ map f xs ++ map f ys
map_append f [] ys = refl
map_append f (x ∷ xs) ys = ap (λ (es : List SymbolEntry). f x ∷ es) (map_append f xs ys)

module _ (v : Bool) (rows : List SymbolSortRow) where
  pub rows_begin : (names names' : List ℕ) (spots spots' : List Spot) → rows ≡ [] → names ≡ names' → spots ≡ spots'
      → map (as_entry v) rows ++ spot_entries v names (drop 0 spots) ≡ spot_entries v names' spots'
  rows_begin names names' spots spots' none same_names same_spots =
      ap (λ (rs : List SymbolSortRow). map (as_entry v) rs ++ spot_entries v names spots) none
      ∙ ap (λ (l : List ℕ). spot_entries v l spots) same_names ∙ ap (spot_entries v names') same_spots

  spot_next : (names : List ℕ) (spots : List Spot) (i : ℕ) (d : Spot) → i < length spots → d ≡ get_or spots i d
      → spot_entries v names (drop i spots) ≡ record { value = if v then d.value else 0; name = take d.len names; index = d.index } ∷ spot_entries v (drop d.len names) (drop (i + 1) spots)
  unfolding spot_entries
  spot_next names spots i d lt here =
      at_drop_more (spot_entries v names) spots i d lt
      ∙ ap (λ (t : Spot). record { value = if v then t.value else 0; name = take t.len names; index = t.index } ∷ spot_entries v (drop t.len names) (drop (i + 1) spots)) (sym here)

  pub rows_more : (more : List SymbolSortRow) (r : SymbolSortRow) (names name rest : List ℕ) (spots : List Spot) (i : ℕ) (d : Spot) (whole : List SymbolEntry) → i < length spots → d ≡ get_or spots i d
      → as_entry v r ≡ record { value = if v then d.value else 0; name = name; index = d.index } → name ≡ take d.len names → rest ≡ drop d.len names → more ≡ rows ++ r ∷ []
      → map (as_entry v) rows ++ spot_entries v names (drop i spots) ≡ whole → map (as_entry v) more ++ spot_entries v rest (drop (i + 1) spots) ≡ whole
  rows_more more r names name rest spots i d whole lt here entry named left made so_far =
      let after = spot_entries v rest (drop (i + 1) spots) in
      ap (λ (rs : List SymbolSortRow). map (as_entry v) rs ++ after) made
      ∙ ap (λ (es : List SymbolEntry). es ++ after) (map_append (as_entry v) rows (r ∷ []))
      ∙ append_assoc (map (as_entry v) rows) (as_entry v r ∷ []) after
      ∙ ap (λ (e : SymbolEntry). map (as_entry v) rows ++ e ∷ after) entry
      ∙ ap (λ (l : List ℕ). map (as_entry v) rows ++ record { value = if v then d.value else 0; name = l; index = d.index } ∷ after) named
      ∙ ap (λ (l : List ℕ). map (as_entry v) rows ++ record { value = if v then d.value else 0; name = take d.len names; index = d.index } ∷ spot_entries v l (drop (i + 1) spots)) left
      ∙ ap (λ (es : List SymbolEntry). map (as_entry v) rows ++ es) (sym (spot_next names spots i d lt here)) ∙ so_far

  pub rows_all : (names : List ℕ) (spots : List Spot) (i : ℕ) (whole : List SymbolEntry) → length spots ≤ i
      → map (as_entry v) rows ++ spot_entries v names (drop i spots) ≡ whole → map (as_entry v) rows ≡ whole
  unfolding spot_entries
  rows_all names spots i whole past so_far =
      sym (append-nil (map (as_entry v) rows))
      ∙ ap (λ (es : List SymbolEntry). map (as_entry v) rows ++ es) (sym (at_drop_all (spot_entries v names) spots i past)) ∙ so_far

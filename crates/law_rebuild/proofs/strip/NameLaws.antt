-- The place of a name in a table of names is not behind the table's end.
use Rattle.std.proofs.Common.{◌≡◌, ℕ, ◌+◌, ◌≤◌, not, List, [], ◌∷◌, ◌++◌, length, take, drop, ap, ◌∙◌, arith}
use Rattle.std.specs.List.{flat_map, prefix_len}
use Rattle.std.specs.Str.{bytes_eq}
use Rattle.std.proofs.lemmas.List.{length-append, take-append-drop}
use Rattle.std.proofs.lemmas.List.Concat.{flat_map-append}
use Rattle.hash_model.specs.strtab_build.Table.{distinct, strings, table, place_of}
use Rattle.hash_model.proofs.strtab_build.DistinctLemmas.{distinct-append, fold-behind}

-- a table of more names is no shorter
table_more : (names more : List (List ℕ)) → length (table names) ≤ length (table (names ++ more))
unfolding table strings
table_more names more =
    let behind = fold-behind (distinct names) more in
    let all : distinct (names ++ more) ≡ distinct names ++ behind.0 =
    distinct-append names more ∙ behind.1 in
    let split : flat_map (λ name. name ++ 0 ∷ []) (distinct (names ++ more))
    ≡ flat_map (λ name. name ++ 0 ∷ []) (distinct names)
    ++ flat_map (λ name. name ++ 0 ∷ []) behind.0 =
    ap (flat_map (λ name. name ++ 0 ∷ [])) all
    ∙ flat_map-append (λ name. name ++ 0 ∷ []) (distinct names) behind.0 in
    let size : length (flat_map (λ name. name ++ 0 ∷ []) (distinct (names ++ more)))
    ≡ length (flat_map (λ name. name ++ 0 ∷ []) (distinct names))
    + length (flat_map (λ name. name ++ 0 ∷ []) behind.0) =
    ap length split
    ∙ length-append (flat_map (λ name. name ++ 0 ∷ []) (distinct names))
    (flat_map (λ name. name ++ 0 ∷ []) behind.0) in
    omega (arith, size)

pub place_within : (name : List ℕ) (names : List (List ℕ))
    → place_of name names ≤ length (table names)
unfolding place_of
place_within [] names = omega arith
place_within (b ∷ bs) names =
    let front = prefix_len (λ other. not (bytes_eq (b ∷ bs) other)) names in
    let whole : take front names ++ drop front names ≡ names = take-append-drop front names in
    omega (
      arith,
      table_more (take front names) (drop front names),
      ap (λ (l : List (List ℕ)). length (table l)) whole,
    )

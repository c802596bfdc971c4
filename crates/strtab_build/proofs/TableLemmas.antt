-- What the table of names is as names are added, and where a name stands in it.
use Rattle.std.proofs.Common.{◌≡◌, ◌≢◌, ◌+◌, ◌==◌, ◌<◌, ◌≤◌, ℕ, zero, suc, true, false, List, [], ◌∷◌, ◌++◌, length, get_or, take, drop, take_while, not, cond, All, Contains, refl, sym, ap, ◌∙◌, arith, append_assoc, append-nil, length-append}
use Rattle.std.specs.List.{list_any}
use Rattle.std.specs.Str.{bytes_eq}
use Rattle.std.proofs.lemmas.List.Concat.{flat_map-append}
use Rattle.std.proofs.lemmas.List.{drop_at, length_push}
use Rattle.std.proofs.lemmas.Bool.{ne_eqb}
use Rattle.std.proofs.lemmas.Cmp.{nat_list_eq_equiv}
use Rattle.std.proofs.lemmas.List.Elements.{All-head, All-tail, Contains-push}
use Rattle.std.proofs.lemmas.List.Sums.{take_while-cons}
use Rattle.std.proofs.lemmas.Map.Views.{list_any-from_Contains}
use Rattle.strtab_build.specs.Table.{before, distinct, strings, table, place_of, string_at}
use Rattle.strtab_build.specs.Names.{unclosed}
use Rattle.strtab_build.proofs.DistinctLemmas.{before-append, before-distinct, before-push, distinct-at, distinct-distinct}

pub unclosed-push : (names : List (List ℕ)) (n : List ℕ) → unclosed (names ++ n ∷ []) ≡ unclosed names ++ 0 ∷ n
unfolding unclosed
unclosed-push names n = flat_map-append (λ d. 0 ∷ d) names (n ∷ []) ∙ ap (λ d. unclosed names ++ 0 ∷ d) (append-nil n)

-- the bytes up to the end of a name stand among those of all
pub unclosed-through : (names : List (List ℕ)) (i : ℕ) → i < length names → length (unclosed (take i names)) + 1 + length (get_or names i []) ≤ length (unclosed names)
unfolding unclosed
unclosed-through [] i h = absurd (omega arith)
unclosed-through (n ∷ names) zero h = omega (arith, length-append n (unclosed names))
unclosed-through (n ∷ names) (suc i) h = omega (arith, length-append n (unclosed names), length-append n (unclosed (take i names)), unclosed-through names i (omega arith))

pub length-unclosed-push : (names : List (List ℕ)) (n : List ℕ) → length (unclosed (names ++ n ∷ [])) ≡ length (unclosed names) + length n + 1
length-unclosed-push names n = omega (arith, ap length (unclosed-push names n) ∙ length-append (unclosed names) (0 ∷ n))

-- the last NUL makes it the table
pub unclosed-closed : (names : List (List ℕ)) → unclosed names ++ 0 ∷ [] ≡ 0 ∷ strings names
unfolding unclosed strings
unclosed-closed [] = refl
unclosed-closed (n ∷ names) =
    ap (λ d. 0 ∷ d) (append_assoc n (unclosed names) (0 ∷ []) ∙ ap (λ d. n ++ d) (unclosed-closed names) ∙ sym (append_assoc n (0 ∷ []) (strings names)))

pub table_is : (names : List (List ℕ)) → distinct names ≡ names → table names ≡ unclosed names ++ 0 ∷ []
unfolding table
table_is names once = ap (λ d. 0 ∷ strings d) once ∙ sym (unclosed-closed names)

-- names that are alike once each have one table
pub table_same : (names more : List (List ℕ)) → distinct names ≡ distinct more → table names ≡ table more
unfolding table
table_same names more h = ap (λ d. 0 ∷ strings d) h

pub length-table : (names : List (List ℕ)) → distinct names ≡ names → length (table names) ≡ length (unclosed names) + 1
length-table names once = ap length (table_is names once) ∙ length_push (unclosed names) 0

-- there are no more names than bytes
pub length_le-unclosed : (names : List (List ℕ)) → length names ≤ length (unclosed names)
unfolding unclosed
length_le-unclosed [] = omega arith
length_le-unclosed (n ∷ names) = omega (arith, length-append n (unclosed names), length_le-unclosed names)

-- a name that is there keeps its place
pub place_of-append : (n : List ℕ) (names more : List (List ℕ)) → list_any (bytes_eq n) names ≡ true → place_of n (names ++ more) ≡ place_of n names
unfolding place_of
place_of-append [] names more h = refl
place_of-append (b ∷ bs) names more h = ap (λ d. length (table d)) (before-append (b ∷ bs) names more h)

-- a new name goes where the table ended
pub place_of-push : (b : ℕ) (bs : List ℕ) (names : List (List ℕ)) → list_any (bytes_eq (b ∷ bs)) names ≡ false → place_of (b ∷ bs) (names ++ (b ∷ bs) ∷ []) ≡ length (table names)
unfolding place_of
place_of-push b bs names h = ap (λ d. length (table d)) (before-push (b ∷ bs) names h)

-- the distinct names have the places of all
pub place_of-distinct : (n : List ℕ) (names : List (List ℕ)) → place_of n (distinct names) ≡ place_of n names
unfolding place_of
place_of-distinct [] names = refl
place_of-distinct (b ∷ bs) names =
    ap (λ d. length (table d)) (before-distinct b bs names) ∙ ap length (table_same (distinct (before (b ∷ bs) names)) (before (b ∷ bs) names) (distinct-distinct (before (b ∷ bs) names)))

pub table-distinct : (names : List (List ℕ)) → table (distinct names) ≡ table names
table-distinct names = table_same (distinct names) names (distinct-distinct names)

-- bytes with no NUL, up to a NUL
take_while-closed : (n more : List ℕ) → All (λ b. b ≢ 0) n → take_while (λ b. not (b == 0)) (n ++ 0 ∷ more) ≡ n
take_while-closed [] more h = take_while-cons (λ b. not (b == 0)) 0 more
take_while-closed (b ∷ bs) more h =
    let here : (b == 0) ≡ false = ne_eqb b 0 (All-head (λ b. b ≢ 0) b bs h) in
    take_while-cons (λ b. not (b == 0)) b (bs ++ 0 ∷ more) ∙ ap (λ t. cond (not t) (b ∷ take_while (λ b. not (b == 0)) (bs ++ 0 ∷ more)) []) here
    ∙ ap (λ d. b ∷ d) (take_while-closed bs more (All-tail (λ b. b ≢ 0) b bs h))

-- the table from a name's place on: the name and its NUL
table-split : (b : ℕ) (bs : List ℕ) (names : List (List ℕ)) → list_any (bytes_eq (b ∷ bs)) names ≡ true
    → (more : List ℕ) × (table names ≡ table (before (b ∷ bs) names) ++ ((b ∷ bs) ++ 0 ∷ more))
unfolding table strings
table-split b bs names h =
    let at = distinct-at b bs names h in
    let front = distinct (before (b ∷ bs) names) in (
      strings at.0,
      ap (λ d. 0 ∷ strings d) at.1 ∙ ap (λ d. 0 ∷ d) (flat_map-append (λ d. d ++ 0 ∷ []) front ((b ∷ bs) ∷ at.0) ∙ ap (λ d. strings front ++ d) (append_assoc (b ∷ bs) (0 ∷ []) (strings at.0))),
    )

-- the string at a name's place is the name
pub string_at-place_of : (n : List ℕ) (names : List (List ℕ)) → Contains names n → All (λ b. b ≢ 0) n → string_at (table names) (place_of n names) ≡ n
unfolding string_at place_of table
string_at-place_of [] names there whole = take_while-cons (λ b. not (b == 0)) 0 (strings (distinct names))
string_at-place_of (b ∷ bs) names there whole =
    let used = list_any-from_Contains nat_list_eq_equiv (b ∷ bs) names there in
    let split = table-split b bs names used in
    let front = table (before (b ∷ bs) names) in
    ap (take_while (λ b. not (b == 0))) (ap (drop (length front)) split.1 ∙ drop_at front ((b ∷ bs) ++ 0 ∷ split.0) (length front) refl) ∙ take_while-closed (b ∷ bs) split.0 whole

-- a name that was just added reads back
pub string_at-added : (n : List ℕ) (names now : List (List ℕ)) (offset : ℕ) → now ≡ distinct (names ++ n ∷ []) → offset ≡ place_of n now → All (λ b. b ≢ 0) n → string_at (table now) offset ≡ n
string_at-added n names now offset added place whole =
    let used = names ++ n ∷ [] in
    let here : offset ≡ place_of n used = place ∙ ap (place_of n) added ∙ place_of-distinct n used in
    (λ j. string_at (table (added j)) (here j)) ∙ ap (λ t. string_at t (place_of n used)) (table-distinct used) ∙ string_at-place_of n used (Contains-push names n) whole

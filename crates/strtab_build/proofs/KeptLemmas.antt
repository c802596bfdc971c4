-- How what is kept of the names grows by one, and what is found in it.
use Rattle.std.proofs.Common.{◌≡◌, ◌+◌, ◌-◌, ◌==◌, ◌<◌, ◌≤◌, ◌^◌, ℕ, true, cond, List, [], ◌∷◌, ◌++◌, length, get_or, take, drop, Option, None, Some, refl, sym, ap, subst, ◌∙◌, arith, ⊎_elim}
use Rattle.std.specs.Prelude.{MatchOption}
use Rattle.std.specs.List.{list_any}
use Rattle.std.specs.Map.{lookup}
use Rattle.std.specs.Str.{bytes_eq}
use Rattle.std.proofs.lemmas.Bool.{cases_lt, eqb-true, true≢false}
use Rattle.std.proofs.lemmas.List.{get_or_append_left, get_or_push, get_or-map, take-append-le, take_at, length_push}
use Rattle.std.proofs.lemmas.List.Folds.{list_any_at}
use Rattle.strtab_build.specs.Names.{unclosed, chain_of, entry_after, entries_after, hash_of, name_in, names_in, IsHeld, IsNew, IsTable, IsKept}
use Rattle.strtab_build.specs.Table.{distinct, table, place_of}
use Rattle.strtab_build.specs.declared.entries.Entry.{Entry}
use Rattle.strtab_build.proofs.DistinctLemmas.{distinct-push, same_refl, same_true, with_name}
use Rattle.strtab_build.proofs.NamesLemmas.{keyed_after, entries_after-push, get_or-entries_after, length-entries_after, names_in_is, is_key, IsAlong, found_is}
use Rattle.strtab_build.proofs.TableLemmas.{unclosed-push, length-unclosed-push, length-table, unclosed-through, table_is, table_same, place_of-append, place_of-push}

-- no name
pub IsTable-nil : IsTable []
unfolding distinct unclosed
IsTable-nil = record { once = refl; places = λ i h. absurd (omega arith); small = omega arith }

-- a new name goes last
pub distinct-new : (names : List (List ℕ)) (n : List ℕ) → distinct names ≡ names → IsNew n names
    → distinct (names ++ n ∷ []) ≡ names ++ n ∷ []
distinct-new names [] once new = absurd (true≢false new.not_empty)
distinct-new names (b ∷ bs) once new =
    distinct-push names (b ∷ bs) ∙ ap (λ d. with_name d (b ∷ bs)) once
    ∙ ap (λ u. cond u names (names ++ (b ∷ bs) ∷ [])) new.unused

pub place_of-new : (names : List (List ℕ)) (n : List ℕ) → distinct names ≡ names → IsNew n names
    → place_of n (names ++ n ∷ []) ≡ length (unclosed names) + 1
place_of-new names [] once new = absurd (true≢false new.not_empty)
place_of-new names (b ∷ bs) once new = place_of-push b bs names new.unused ∙ length-table names once

places-push : (names : List (List ℕ)) (n : List ℕ) → IsTable names → IsNew n names → (i : ℕ)
    → i < length (names ++ n ∷ []) → place_of (get_or (names ++ n ∷ []) i []) (names ++ n ∷ [])
    ≡ length (unclosed (take i (names ++ n ∷ []))) + 1
places-push names n t new i h = ⊎_elim (by_old) by_new (cases_lt i (length names))
  where
    by_old : i < length names → place_of (get_or (names ++ n ∷ []) i []) (names ++ n ∷ [])
        ≡ length (unclosed (take i (names ++ n ∷ []))) + 1
    by_old lt =
        let name = get_or names i [] in
        ap (λ d. place_of d (names ++ n ∷ [])) (get_or_append_left names (n ∷ []) [] i lt)
        ∙ place_of-append name names (n ∷ [])
        (list_any_at (bytes_eq name) names i [] lt (same_refl name))
        ∙ t.places i lt
        ∙ ap (λ d. length (unclosed d) + 1) (sym (take-append-le i names (n ∷ []) (omega arith)))

    by_new : length names ≤ i → place_of (get_or (names ++ n ∷ []) i []) (names ++ n ∷ [])
        ≡ length (unclosed (take i (names ++ n ∷ []))) + 1
    by_new ge =
        let last : length names ≡ i = omega (arith, length_push names n) in
        ap (λ d. place_of d (names ++ n ∷ [])) (get_or_push names n [] i last)
        ∙ place_of-new names n t.once new
        ∙ ap (λ d. length (unclosed d) + 1) (sym (take_at names (n ∷ []) i last))

pub IsTable-push : (names : List (List ℕ)) (n : List ℕ) → IsTable names → IsNew n names
    → length (unclosed names) + length n + 2 < 2 ^ 32 → IsTable (names ++ n ∷ [])
IsTable-push names n t new fits = record {
  once = distinct-new names n t.once new;
  places = places-push names n t new;
  small = omega (arith, length-unclosed-push names n);
}

-- the names that are kept
pub names_in_kept : (bytes : List ℕ) (entries : List ((ℕ × ℕ) × Entry)) (names : List (List ℕ))
    → bytes ≡ unclosed names → entries ≡ entries_after [] names → names_in bytes entries ≡ names
names_in_kept bytes entries names b e =
    ap (names_in bytes) e ∙ ap (λ d. names_in d (entries_after [] names)) b ∙ names_in_is names

-- what is kept with a new name
pub IsKept-push : (bytes : List ℕ) (entries : List ((ℕ × ℕ) × Entry)) (names : List (List ℕ))
    (n : List ℕ) → IsKept bytes entries names → IsNew n names
    → length (unclosed names) + length n + 2 < 2 ^ 32
    → IsKept (bytes ++ 0 ∷ n) (entries ++ keyed_after names n ∷ []) (names ++ n ∷ [])
IsKept-push bytes entries names n k new fits = record {
  names_are = IsTable-push names n k.names_are new fits;
  bytes_are = ap (λ d. d ++ 0 ∷ n) k.bytes_are ∙ sym (unclosed-push names n);
  entries_are = ap (λ d. d ++ keyed_after names n ∷ []) k.entries_are
      ∙ sym (entries_after-push [] names n);
}

-- what is kept, under other words for it
pub IsKept-as : (bytes bytes' : List ℕ) (entries entries' : List ((ℕ × ℕ) × Entry))
    (names : List (List ℕ)) → bytes' ≡ bytes → entries' ≡ entries → IsKept bytes entries names
    → IsKept bytes' entries' (names_in bytes' entries')
IsKept-as bytes bytes' entries entries' names b e k =
    let of_names = names_in_kept bytes' entries' names (b ∙ k.bytes_are) (e ∙ k.entries_are) in
    let kept : IsKept bytes' entries' names = record {
      names_are = k.names_are;
      bytes_are = b ∙ k.bytes_are;
      entries_are = e ∙ k.entries_are;
    } in
    subst (IsKept bytes' entries') (sym of_names) kept

-- nothing is kept of no name
pub IsKept-nil : IsKept [] [] []
unfolding unclosed entries_after
IsKept-nil = record { names_are = IsTable-nil; bytes_are = refl; entries_are = refl }

-- the last NUL makes the bytes the table
pub table_kept : (bytes : List ℕ) (entries : List ((ℕ × ℕ) × Entry)) (names : List (List ℕ))
    → IsKept bytes entries names → bytes ++ 0 ∷ [] ≡ table names
table_kept bytes entries names k =
    ap (λ d. d ++ 0 ∷ []) k.bytes_are ∙ sym (table_is names k.names_are.once)

-- how long the table is with a new name
pub length-table-new : (bytes : List ℕ) (entries : List ((ℕ × ℕ) × Entry)) (names : List (List ℕ))
    (n : List ℕ) → IsKept bytes entries names → IsNew n names
    → length (table (names ++ n ∷ [])) ≡ length bytes + length n + 2
length-table-new bytes entries names n k new =
    let once = distinct-new names n k.names_are.once new in
    omega (
      arith,
      length-table (names ++ n ∷ []) once,
      length-unclosed-push names n,
      ap length k.bytes_are,
    )

-- ---- An entry

-- the bytes of the entry of a name are the name
name_of-entry : (bytes : List ℕ) (names : List (List ℕ)) (i : ℕ) → bytes ≡ unclosed names
    → i < length names
    → name_in bytes (entry_after (take i names) (get_or names i [])) ≡ get_or names i []
unfolding names_in
name_of-entry bytes names i b lt =
    let whole = length-entries_after [] names in
    let keyed = keyed_after (take i names) (get_or names i []) in
    ap (λ l. name_in l keyed.1) b
    ∙ sym (ap (λ e. name_in (unclosed names) e.1) (get_or-entries_after [] names i keyed lt))
    ∙ sym (get_or-map (λ e. name_in (unclosed names) e.1) (entries_after [] names) i keyed []
    (omega (arith, whole, lt)))
    ∙ ap (λ l. get_or l i []) (names_in_is names)

-- what a walk for a name finds so far along its chain: an entry, whose bytes are its name
pub record IsSought (bytes : List ℕ) (names : List (List ℕ)) (n : List ℕ) (k : ℕ) (entry : Entry)
    : Type 0 where
  pub index : ℕ
  pub below : index < length names
  pub along : k < length (chain_of (hash_of n) names)
  pub same : get_or (chain_of (hash_of n) names) k [] ≡ get_or names index []
  pub within : entry.start + entry.len ≤ length bytes
  pub placed : entry.start ≡ place_of (get_or names index []) names
  pub compared : bytes_eq n (take (entry.start + entry.len - entry.start)
      (drop entry.start bytes)) ≡ bytes_eq n (get_or names index [])

module _ (bytes : List ℕ) (entries : List ((ℕ × ℕ) × Entry)) (names : List (List ℕ))
    (n : List ℕ) (hash k : ℕ) (kept : IsKept bytes entries names) (hashed : hash ≡ hash_of n) where
  found : lookup (is_key (hash, k)) entries
      ≡ lookup (is_key (hash_of n, k)) (entries_after [] names)
  found = λ j. lookup (is_key (hashed j, k)) (kept.entries_are j)

  -- there is no entry behind the chain's end
  pub walked : (o : Option Entry) → o ≡ lookup (is_key (hash, k)) entries → o ≡ None
      → length (chain_of (hash_of n) names) ≤ k
  walked o is none =
      subst (λ o. MatchOption o (length (chain_of (hash_of n) names) ≤ k)
      (IsAlong (hash_of n) [] names k)) (sym (is ∙ found) ∙ none) (found_is (hash_of n) k names)

  pub sought : (slice : List ℕ) (o : Option Entry) (entry : Entry) → slice ≡ bytes
      → o ≡ lookup (is_key (hash, k)) entries → o ≡ Some entry → IsSought slice names n k entry
  sought slice o entry lent is some =
      let a = subst (λ o. MatchOption o (length (chain_of (hash_of n) names) ≤ k)
      (IsAlong (hash_of n) [] names k)) (sym (is ∙ found) ∙ some) (found_is (hash_of n) k names) in
      let far = unclosed-through names a.index a.below in
      let long = ap length kept.bytes_are in
      let start = ap (λ e. e.start) a.entry_is in
      let len = ap (λ e. e.len) a.entry_is in
      let lent_long = ap length lent in
      let count : entry.start + entry.len - entry.start ≡ entry.len = omega arith in
      record {
        index = a.index;
        below = a.below;
        along = a.along;
        same = a.same;
        within = omega (arith, far, long, start, len, lent_long);
        placed = start ∙ sym (kept.names_are.places a.index a.below);
        compared = ap (λ m. bytes_eq n (take m (drop entry.start slice))) count
            ∙ ap (λ b. bytes_eq n (take entry.len (drop entry.start b))) lent
            ∙ ap (λ e. bytes_eq n (name_in bytes e)) a.entry_is
            ∙ ap (bytes_eq n) (name_of-entry bytes names a.index kept.bytes_are a.below);
      }

-- a name that is there leaves the names as they were
distinct-used : (names : List (List ℕ)) (n : List ℕ) → distinct names ≡ names
    → list_any (bytes_eq n) names ≡ true → distinct (names ++ n ∷ []) ≡ names
distinct-used names [] once used = distinct-push names [] ∙ once
distinct-used names (b ∷ bs) once used =
    distinct-push names (b ∷ bs) ∙ ap (λ d. with_name d (b ∷ bs)) once
    ∙ ap (λ u. cond u names (names ++ (b ∷ bs) ∷ [])) used

-- the table stays within its limit where the names stay
small-kept : (names : List (List ℕ)) (n : List ℕ) → IsTable names
    → distinct (names ++ n ∷ []) ≡ names → length (table (names ++ n ∷ [])) < 2 ^ 32
small-kept names n t kept =
    let same = ap length (table_same (names ++ n ∷ []) names (kept ∙ sym t.once)) in
    omega (arith, same, length-table names t.once, t.small)

-- a name that is kept is held at its place
pub IsHeld-found : (names : List (List ℕ)) (n : List ℕ) (i offset : ℕ) → IsTable names
    → i < length names → bytes_eq n (get_or names i []) ≡ true
    → offset ≡ place_of (get_or names i []) names → IsHeld n names offset
IsHeld-found names n i offset t h same place =
    let used = list_any_at (bytes_eq n) names i [] h same in
    let kept : distinct (names ++ n ∷ []) ≡ names = distinct-used names n t.once used in
    record {
      place = place ∙ ap (λ d. place_of d names) (sym (same_true n (get_or names i []) same));
      kept = kept;
      small = small-kept names n t kept;
    }

-- and so is the empty one
pub IsHeld-empty : (names : List (List ℕ)) (n : List ℕ) → IsTable names → (length n == 0) ≡ true
    → IsHeld n names 0
unfolding place_of
IsHeld-empty names [] t h =
    let kept : distinct (names ++ [] ∷ []) ≡ names = distinct-push names [] ∙ t.once in
    record { place = refl; kept = kept; small = small-kept names [] t kept }
IsHeld-empty names (b ∷ bs) t h = absurd (omega (arith, eqb-true (length (b ∷ bs)) 0 h))

-- the names that are kept with a new name
pub names_in-push : (bytes bytes' : List ℕ) (entries entries' : List ((ℕ × ℕ) × Entry))
    (names : List (List ℕ)) (n : List ℕ) → IsKept bytes entries names
    → bytes' ≡ bytes ++ 0 ∷ n → entries' ≡ entries ++ keyed_after names n ∷ []
    → names_in bytes' entries' ≡ names ++ n ∷ []
names_in-push bytes bytes' entries entries' names n k b e =
    names_in_kept bytes' entries' (names ++ n ∷ [])
    (b ∙ ap (λ d. d ++ 0 ∷ n) k.bytes_are ∙ sym (unclosed-push names n))
    (e ∙ ap (λ d. d ++ keyed_after names n ∷ []) k.entries_are
    ∙ sym (entries_after-push [] names n))

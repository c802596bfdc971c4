-- How the entries and the chains grow with the names, and what a walk along a chain finds.
use Rattle.std.proofs.Common.{◌≡◌, ◌+◌, ◌<◌, ◌≤◌, ◌&&◌, ◌==◌, ℕ, zero, suc, Bool, true, false, cond, eqb, List, [], ◌∷◌, ◌++◌, length, get_or, take, drop, map, Option, Some, None, refl, sym, ap, subst, ◌∙◌, arith, append_assoc, append-nil, length-append}
use Rattle.std.specs.Prelude.{MatchOption}
use Rattle.std.specs.List.{list_any}
use Rattle.std.specs.Map.{lookup}
use Rattle.std.specs.Str.{bytes_eq}
use Rattle.std.proofs.lemmas.Bool.{eqb-true, eq-eqb, ne_eqb, or_from}
use Rattle.std.proofs.lemmas.List.{drop-drop, drop_at, take_at, take_all, take_more}
use Rattle.std.proofs.lemmas.List.Elements.{filter-append}
use Rattle.std.proofs.lemmas.List.Folds.{list_any-append}
use Rattle.std.proofs.lemmas.List.Sums.{count_by-le-length, length-filter}
use Rattle.std.proofs.lemmas.Map.Views.{any-filter_same}
use Rattle.strtab_build.specs.Names.{unclosed, chain_of, key_after, entry_after, entries_after, hash_of, name_in, names_in}
use Rattle.strtab_build.specs.declared.entries.Entry.{Entry}
use Rattle.strtab_build.proofs.DistinctLemmas.{same_true}
use Rattle.strtab_build.proofs.TableLemmas.{unclosed-push}

-- a name's key and its entry
abbrev pub keyed_after : List (List ℕ) → List ℕ → (ℕ × ℕ) × Entry
keyed_after earlier name = (key_after earlier name, entry_after earlier name)

-- one more name has one more entry
pub entries_after-push : (earlier names : List (List ℕ)) (n : List ℕ)
    → entries_after earlier (names ++ n ∷ [])
    ≡ entries_after earlier names ++ keyed_after (earlier ++ names) n ∷ []
unfolding entries_after
entries_after-push earlier [] n = ap (λ d. keyed_after d n ∷ []) (sym (append-nil earlier))
entries_after-push earlier (m ∷ names) n =
    ap (λ d. keyed_after earlier m ∷ d) (entries_after-push (earlier ++ m ∷ []) names n
    ∙ ap (λ d. entries_after (earlier ++ m ∷ []) names ++ keyed_after d n ∷ [])
    (append_assoc earlier (m ∷ []) names))

-- the entry at an index
pub get_or-entries_after : (earlier names : List (List ℕ)) (i : ℕ) (d : (ℕ × ℕ) × Entry)
    → i < length names → get_or (entries_after earlier names) i d
    ≡ keyed_after (earlier ++ take i names) (get_or names i [])
unfolding entries_after
get_or-entries_after earlier [] i d h = absurd (omega arith)
get_or-entries_after earlier (m ∷ names) zero d h =
    ap (λ e. keyed_after e m) (sym (append-nil earlier))
get_or-entries_after earlier (m ∷ names) (suc i) d h =
    get_or-entries_after (earlier ++ m ∷ []) names i d (omega arith)
    ∙ ap (λ e. keyed_after e (get_or names i [])) (append_assoc earlier (m ∷ []) (take i names))

pub length-entries_after : (earlier names : List (List ℕ))
    → length (entries_after earlier names) ≡ length names
unfolding entries_after
length-entries_after earlier [] = refl
length-entries_after earlier (n ∷ names) = ap suc (length-entries_after (earlier ++ n ∷ []) names)

-- a name's bytes stand behind those before it and a NUL
name_behind : (front n more : List ℕ)
    → take (length n) (drop (length front + 1) (front ++ 0 ∷ (n ++ more))) ≡ n
name_behind front n more =
    ap (take (length n)) (sym (drop-drop 1 (length front) (front ++ 0 ∷ (n ++ more)))
    ∙ ap (drop 1) (drop_at front (0 ∷ (n ++ more)) (length front) refl))
    ∙ take_at n more (length n) refl

names_in-after : (earlier names : List (List ℕ)) (more : List ℕ)
    → map (λ keyed. name_in (unclosed earlier ++ (unclosed names ++ more)) keyed.1)
    (entries_after earlier names) ≡ names
unfolding unclosed entries_after
names_in-after earlier [] more = refl
names_in-after earlier (n ∷ names) more =
    let rest = unclosed names ++ more in
    let whole : unclosed earlier ++ (0 ∷ (n ++ unclosed names) ++ more)
    ≡ unclosed earlier ++ (0 ∷ (n ++ rest)) =
    ap (λ d. unclosed earlier ++ 0 ∷ d) (append_assoc n (unclosed names) more) in
    let moved : unclosed earlier ++ (0 ∷ (n ++ unclosed names) ++ more)
    ≡ unclosed (earlier ++ n ∷ []) ++ rest =
    whole ∙ sym (append_assoc (unclosed earlier) (0 ∷ n) rest)
    ∙ ap (λ d. d ++ rest) (sym (unclosed-push earlier n)) in
    let first = ap (λ b. name_in b (entry_after earlier n)) whole
    ∙ name_behind (unclosed earlier) n rest in
    let others = ap (λ b. map (λ keyed. name_in b keyed.1)
    (entries_after (earlier ++ n ∷ []) names)) moved
    ∙ names_in-after (earlier ++ n ∷ []) names more in
    λ j. first j ∷ others j

-- the bytes and the entries of names stand for them
pub names_in_is : (names : List (List ℕ))
    → names_in (unclosed names) (entries_after [] names) ≡ names
unfolding names_in unclosed
names_in_is names =
    ap (λ d. map (λ keyed. name_in d keyed.1) (entries_after [] names))
    (sym (append-nil (unclosed names))) ∙ names_in-after [] names []

-- ---- What a key finds

-- a chain grows by the names with its hash
chain-here : (h : ℕ) (earlier : List (List ℕ)) (m : List ℕ) → eqb h (hash_of m) ≡ true
    → length (chain_of h (earlier ++ m ∷ [])) ≡ length (chain_of h earlier) + 1
chain-here h earlier m e =
    ap length (filter-append (λ name. h == hash_of name) earlier (m ∷ []))
    ∙ length-append (chain_of h earlier) (chain_of h (m ∷ []))
    ∙ ap (λ b. length (chain_of h earlier) + length (cond b (m ∷ []) [])) e

chain-other : (h : ℕ) (earlier : List (List ℕ)) (m : List ℕ) → eqb h (hash_of m) ≡ false
    → length (chain_of h (earlier ++ m ∷ [])) ≡ length (chain_of h earlier)
chain-other h earlier m e =
    let long = ap length (filter-append (λ name. h == hash_of name) earlier (m ∷ []))
    ∙ length-append (chain_of h earlier) (chain_of h (m ∷ []))
    ∙ ap (λ b. length (chain_of h earlier) + length (cond b (m ∷ []) [])) e in
    omega (arith, long)

-- a chain is no longer than the names
pub length_le-chain : (h : ℕ) (names : List (List ℕ)) → length (chain_of h names) ≤ length names
length_le-chain h names =
    omega (
      arith,
      length-filter (λ name. h == hash_of name) names,
      count_by-le-length (λ name. h == hash_of name) names,
    )

-- the test of a key
abbrev pub is_key : ℕ × ℕ → ℕ × ℕ → Bool
is_key x y = (x.0 == y.0) && (x.1 == y.1)

-- an entry is that of the name that is so far along the chain
pub record IsAlong (h : ℕ) (earlier names : List (List ℕ)) (k : ℕ) (entry : Entry) : Type 0 where
  pub index : ℕ
  pub below : index < length names
  pub along : k < length (chain_of h names)
  pub same : get_or (chain_of h names) k [] ≡ get_or names index []
  pub entry_is : entry ≡ entry_after (earlier ++ take index names) (get_or names index [])

-- the same behind a name more
behind : (h : ℕ) (earlier : List (List ℕ)) (m : List ℕ) (names : List (List ℕ)) (k k' : ℕ)
    (o : Option Entry) → length (chain_of h (m ∷ names)) + k' ≡ length (chain_of h names) + k
    → get_or (chain_of h (m ∷ names)) k [] ≡ get_or (chain_of h names) k' []
    → MatchOption o (length (chain_of h names) ≤ k') (IsAlong h (earlier ++ m ∷ []) names k')
    → MatchOption o (length (chain_of h (m ∷ names)) ≤ k) (IsAlong h earlier (m ∷ names) k)
behind h earlier m names k k' None long same found = omega (arith, long, found)
behind h earlier m names k k' (Some e) long same found = record {
  index = suc found.index;
  below = omega (arith, found.below);
  along = omega (arith, long, found.along);
  same = same ∙ found.same;
  entry_is = found.entry_is ∙ ap (λ d. entry_after d (get_or names found.index []))
      (append_assoc earlier (m ∷ []) (take found.index names));
}

found_after : (h q : ℕ) (earlier names : List (List ℕ)) (k : ℕ)
    → q ≡ length (chain_of h earlier) + k
    → MatchOption (lookup (is_key (h, q)) (entries_after earlier names))
    (length (chain_of h names) ≤ k) (IsAlong h earlier names k)
unfolding entries_after
found_after h q earlier [] k is = omega arith
found_after h q earlier (m ∷ names) k is =
    by (eqb h (hash_of m)) refl k is (λ j at. found_after h q (earlier ++ m ∷ []) names j at)
  where
    rest : Option Entry
    rest = lookup (is_key (h, q)) (entries_after (earlier ++ m ∷ []) names)

    -- what the entries find, by whether the first has the hash and the number
    finds : Bool → Bool → Option Entry
    finds hashed counted = cond (hashed && counted) (Some (entry_after earlier m)) rest

    Along : ℕ → Option Entry → Type 0
    Along k o =
        MatchOption o (length (chain_of h (m ∷ names)) ≤ k) (IsAlong h earlier (m ∷ names) k)

    by : (b : Bool) → eqb h (hash_of m) ≡ b → (k : ℕ) → q ≡ length (chain_of h earlier) + k
        → ((j : ℕ) → q ≡ length (chain_of h (earlier ++ m ∷ [])) + j
        → MatchOption rest (length (chain_of h names) ≤ j) (IsAlong h (earlier ++ m ∷ []) names j))
        → Along k (finds (eqb h (hash_of m)) (eqb q (length (chain_of (hash_of m) earlier))))
    by true e zero at more =
        let chain : chain_of h (m ∷ names) ≡ m ∷ chain_of h names =
        ap (λ b. cond b (m ∷ chain_of h names) (chain_of h names)) e in
        let hashed = ap (λ x. length (chain_of x earlier)) (eqb-true h (hash_of m) e) in
        let counted : eqb q (length (chain_of (hash_of m) earlier)) ≡ true =
        eq-eqb q (length (chain_of (hash_of m) earlier)) (omega (arith, at, hashed)) in
        let long = ap length chain in
        subst (Along 0) (sym (λ j. finds (e j) (counted j))) (record {
          index = 0;
          below = omega arith;
          along = omega (arith, long);
          same = ap (λ d. get_or d 0 []) chain;
          entry_is = ap (λ d. entry_after d m) (sym (append-nil earlier));
        })
    by true e (suc k) at more =
        let chain : chain_of h (m ∷ names) ≡ m ∷ chain_of h names =
        ap (λ b. cond b (m ∷ chain_of h names) (chain_of h names)) e in
        let hashed = ap (λ x. length (chain_of x earlier)) (eqb-true h (hash_of m) e) in
        let counted : eqb q (length (chain_of (hash_of m) earlier)) ≡ false =
        ne_eqb q (length (chain_of (hash_of m) earlier))
        (λ (s : q ≡ length (chain_of (hash_of m) earlier)). omega (arith, at, hashed, s)) in
        let grown = chain-here h earlier m e in
        let long = ap length chain in
        subst (Along (suc k)) (sym (λ j. finds (e j) (counted j)))
        (behind h earlier m names (suc k) k rest (omega (arith, long))
        (ap (λ d. get_or d (suc k) []) chain) (more k (omega (arith, at, grown))))
    by false e k at more =
        let chain : chain_of h (m ∷ names) ≡ chain_of h names =
        ap (λ b. cond b (m ∷ chain_of h names) (chain_of h names)) e in
        let grown = chain-other h earlier m e in
        let long = ap length chain in
        subst (Along k)
        (sym (λ j. finds (e j) (eqb q (length (chain_of (hash_of m) earlier)))))
        (behind h earlier m names k k rest (omega (arith, long)) (ap (λ d. get_or d k []) chain)
        (more k (omega (arith, at, grown))))

-- a hash and a number find the name that is so far along the chain, or the chain is no longer
pub found_is : (h k : ℕ) (names : List (List ℕ))
    → MatchOption (lookup (is_key (h, k)) (entries_after [] names)) (length (chain_of h names) ≤ k)
    (IsAlong h [] names k)
found_is h k names = found_after h k [] names k (omega arith)

-- the key of a new name is free
pub key_free : (names : List (List ℕ)) (n : List ℕ)
    → lookup (is_key (key_after names n)) (entries_after [] names) ≡ None
key_free names n =
    by (lookup (is_key (key_after names n)) (entries_after [] names))
    (found_is (hash_of n) (length (chain_of (hash_of n) names)) names)
  where
    by : (o : Option Entry) → MatchOption o
        (length (chain_of (hash_of n) names) ≤ length (chain_of (hash_of n) names))
        (IsAlong (hash_of n) [] names (length (chain_of (hash_of n) names))) → o ≡ None
    by None found = refl
    by (Some e) found = absurd (omega (arith, found.along))

-- ---- A walk along a chain

-- so many names of a name's chain are passed, and none is the name
pub record Seeks (n : List ℕ) (names : List (List ℕ)) (passed : ℕ) : Type 0 where
  pub within : passed ≤ length (chain_of (hash_of n) names)
  pub others : list_any (bytes_eq n) (take passed (chain_of (hash_of n) names)) ≡ false

none_first : (n : List ℕ) (chain : List (List ℕ)) → list_any (bytes_eq n) (take 0 chain) ≡ false
none_first n [] = refl
none_first n (m ∷ chain) = refl

pub Seeks-start : (n : List ℕ) (names : List (List ℕ)) → Seeks n names 0
Seeks-start n names =
    record { within = omega arith; others = none_first n (chain_of (hash_of n) names) }

-- a step along the chain, past another name
pub Seeks-next : (n : List ℕ) (names : List (List ℕ)) (k : ℕ) → Seeks n names k
    → k < length (chain_of (hash_of n) names)
    → bytes_eq n (get_or (chain_of (hash_of n) names) k []) ≡ false → Seeks n names (k + 1)
Seeks-next n names k s lt other =
    let chain = chain_of (hash_of n) names in
    record {
      within = omega (arith, lt);
      others = ap (list_any (bytes_eq n)) (take_more chain k [] lt)
          ∙ list_any-append (bytes_eq n) (take k chain) (get_or chain k [] ∷ [])
          ∙ or_from _ _ s.others (or_from _ _ other refl);
    }

-- a walk to the chain's end has not found the name
pub Seeks-end : (n : List ℕ) (names : List (List ℕ)) (k : ℕ) → Seeks n names k
    → length (chain_of (hash_of n) names) ≤ k → list_any (bytes_eq n) names ≡ false
Seeks-end n names k s end =
    let chain = chain_of (hash_of n) names in
    sym (any-filter_same (bytes_eq n) (λ name. hash_of n == hash_of name) true
    (λ m same. eq-eqb (hash_of n) (hash_of m) (ap hash_of (same_true n m same))) names)
    ∙ ap (list_any (bytes_eq n)) (sym (take_all k chain end)) ∙ s.others

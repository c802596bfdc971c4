-- What is kept of the names of a table in the making: how it grows by one, and what is found in it.
use Rattle.std.proofs.Common.{◌≡◌, ◌+◌, ◌<◌, ◌≤◌, ◌==◌, ℕ, suc, false, List, [], ◌∷◌, length, get_or, take, drop, map, Option, Some, None, refl, sym, ap, ◌∙◌, subst, arith}
use Rattle.std.specs.List.{list_any}
use Rattle.std.specs.Ordering.{nat_cmp}
use Rattle.std.specs.BTreeMap.{get}
use Rattle.std.specs.Str.{bytes_eq}
use Rattle.std.proofs.lemmas.Bool.{false_from_ne_true, or_from}
use Rattle.std.proofs.lemmas.List.{get_or-map, length-map}
use Rattle.std.proofs.lemmas.Simd.{map-map}
use Rattle.strtab_build.specs.Names.{unclosed, entries_after, names_in as stated_names, IsNew}
use Rattle.strtab_build.specs.Table.{place_of}
use Rattle.strtab_build.proofs.DistinctLemmas.{same_refl, same_true}
use Rattle.strtab_build.proofs.KeptLemmas.{IsTable-nil}
use Rattle.strtab_build.proofs.NamesLemmas.{keyed_after, get_or-entries_after, length-entries_after, names_in_is}
use Rattle.strtab_build.proofs.TableLemmas.{unclosed-through}
use Rattle.strtab_shared.specs.declared.entries.NameEntry.{NameEntry}
use Rattle.strtab_shared.specs.declared.parts.StrtabParts.{StrtabParts}
use Rattle.strtab_shared.specs.Hashes.{quick_hash_of, digest_of}
use Rattle.strtab_shared.specs.Chains.{past, FollowsWith, IsLast}
use Rattle.strtab_shared.specs.Kept.{span, stated_span, entry_name_in, entry_names_in, name_at, hash_at, digest_at, older_at, IsNameTableKept, names_of, AreKept, IsNothing, IsNoFollower}
use Rattle.strtab_shared.proofs.ChainLaws.{indexed_none, Walks, walk_begins, walk_steps, walk_ends}

-- ---- The names that the entries stand for

spanned : List ℕ → ℕ × ℕ → List ℕ
spanned bytes s = take s.1 (drop s.0 bytes)

-- the names that are kept
pub names_kept : (bytes : List ℕ) (entries : List NameEntry) (names : List (List ℕ))
    → bytes ≡ unclosed names → map span entries ≡ map stated_span (entries_after [] names)
    → entry_names_in bytes entries ≡ names
unfolding entry_names_in stated_names spanned
names_kept bytes entries names b s =
    sym (map-map (spanned bytes) span entries)
    ∙ ap (map (spanned bytes)) s
    ∙ map-map (spanned bytes) stated_span (entries_after [] names)
    ∙ ap (λ (l : List ℕ). stated_names l (entries_after [] names)) b
    ∙ names_in_is names

-- what is kept, under other words for it
pub kept_as : (bytes : List ℕ) (entries : List NameEntry) (first newest : ℕ → Option ℕ)
    (names : List (List ℕ)) → IsNameTableKept bytes entries first newest names
    → IsNameTableKept bytes entries first newest (entry_names_in bytes entries)
kept_as bytes entries first newest names k =
    subst (IsNameTableKept bytes entries first newest)
    (sym (names_kept bytes entries names k.bytes_are k.spans_are)) k

-- nothing is kept of no name
none_kept : (bytes : List ℕ) (entries : List NameEntry) (first newest : ℕ → Option ℕ)
    → bytes ≡ [] → entries ≡ [] → ((q : ℕ) → first q ≡ None) → ((q : ℕ) → newest q ≡ None)
    → IsNameTableKept bytes entries first newest []
unfolding unclosed entries_after
none_kept bytes entries first newest b e no_first no_newest = record {
  names_are = IsTable-nil;
  bytes_are = b;
  spans_are = ap (map span) e;
  indexed = indexed_none (hash_at []) (digest_at []) (older_at entries) first newest no_first
      no_newest;
}

pub nothing_kept : (p : StrtabParts) → IsNothing p → AreKept p
nothing_kept p n =
    kept_as p.bytes p.entries.items (get nat_cmp p.first) (get nat_cmp p.newest) []
    (none_kept p.bytes p.entries.items (get nat_cmp p.first) (get nat_cmp p.newest) n.bytes
    n.entries n.first n.newest)

pub nothing_names : (p : StrtabParts) → IsNothing p → names_of p ≡ []
unfolding entry_names_in
nothing_names p n = ap (map (entry_name_in p.bytes)) n.entries

-- ---- An entry

-- as many entries as names
pub count_is : (bytes : List ℕ) (entries : List NameEntry) (first newest : ℕ → Option ℕ)
    (names : List (List ℕ)) → IsNameTableKept bytes entries first newest names
    → length entries ≡ length names
count_is bytes entries first newest names k =
    sym (length-map entries span) ∙ ap length k.spans_are
    ∙ length-map (entries_after [] names) stated_span ∙ length-entries_after [] names

-- what the entry at an index says of the name there
pub record IsEntryOf (bytes : List ℕ) (names : List (List ℕ)) (i : ℕ) (e : NameEntry) : Type 0 where
  pub inside : e.start + e.len ≤ length bytes
  pub name : entry_name_in bytes e ≡ name_at names i
  pub placed : e.start ≡ place_of (name_at names i) names

pub entry_at : (bytes : List ℕ) (entries : List NameEntry) (first newest : ℕ → Option ℕ)
    (names : List (List ℕ)) (i : ℕ) (e : NameEntry) → IsNameTableKept bytes entries first newest names
    → i < length names → e ≡ get_or entries i e → IsEntryOf bytes names i e
unfolding entry_names_in
entry_at bytes entries first newest names i e k lt read =
    let count = count_is bytes entries first newest names k in
    let whole = length-entries_after [] names in
    let stated = keyed_after (take i names) (get_or names i []) in
    let spans : span e ≡ stated_span stated =
    ap span read ∙ sym (get_or-map span entries i e (span e) (omega (arith, count, lt)))
    ∙ ap (λ l. get_or l i (span e)) k.spans_are
    ∙ get_or-map stated_span (entries_after [] names) i stated (span e)
    (omega (arith, whole, lt))
    ∙ ap stated_span (get_or-entries_after [] names i stated lt) in
    let start = ap (λ (s : ℕ × ℕ). s.0) spans in
    let len = ap (λ (s : ℕ × ℕ). s.1) spans in
    let far = unclosed-through names i lt in
    record {
      inside = omega (arith, far, start, len, ap length k.bytes_are);
      name = ap (entry_name_in bytes) read
          ∙ sym (get_or-map (entry_name_in bytes) entries i e [] (omega (arith, count, lt)))
          ∙ ap (λ l. get_or l i []) (names_kept bytes entries names k.bytes_are k.spans_are);
      placed = start ∙ sym (k.names_are.places i lt);
    }

-- ---- A walk along a chain

pub older_read : (entries : List NameEntry) (i : ℕ) (e : NameEntry) → i < length entries
    → e ≡ get_or entries i e → e.older ≡ older_at entries i
older_read entries i e lt read =
    let none : NameEntry = record { start = 0; len = 0; older = None } in
    ap (λ (x : NameEntry). x.older) read
    ∙ sym (get_or-map (λ (x : NameEntry). x.older) entries i e None lt)
    ∙ get_or-map (λ (x : NameEntry). x.older) entries i none None lt

-- no index from a bound on
last_small : (holds : ℕ → Type 0) (bound : ℕ) (o : Option ℕ) → IsLast holds bound o
    → past o ≤ bound
last_small holds bound None l = omega arith
last_small holds bound (Some i) l = let one = l.one i refl in omega (arith, one.0)

-- a walk for a name along the chain of its digest
abbrev pub Walking : StrtabParts → List ℕ → Option ℕ → Type 0
Walking p name cursor =
    Walks
    (FollowsWith (get nat_cmp p.first) (hash_at (names_of p)) (digest_at (names_of p))
    (digest_of name)) (λ i. name_at (names_of p) i ≡ name) (length (names_of p)) cursor

pub walking_begins : (p : StrtabParts) (name : List ℕ) (cursor : Option ℕ) → AreKept p
    → cursor ≡ get nat_cmp p.newest (digest_of name) → Walking p name cursor
walking_begins p name cursor k is =
    subst (Walking p name) (sym is)
    (walk_begins (FollowsWith (get nat_cmp p.first) (hash_at (names_of p))
    (digest_at (names_of p)) (digest_of name)) (λ i. name_at (names_of p) i ≡ name)
    (length (names_of p)) (get nat_cmp p.newest (digest_of name))
    (k.indexed.heads (digest_of name)))

-- a name that is not another
other_name : (name other : List ℕ) → bytes_eq name other ≡ false → other ≡ name → ⊥
other_name name other differ same =
    let alike = sym (same_refl name) ∙ ap (bytes_eq name) (sym same) ∙ differ in cc

module _ (p : StrtabParts) (name : List ℕ) (cursor : Option ℕ) (i : ℕ)
    (kept : AreKept p) (walk : Walking p name cursor) (is : cursor ≡ Some i) where
  pub at_entry : i < length p.entries.items
  at_entry =
      let count = count_is p.bytes p.entries.items (get nat_cmp p.first) (get nat_cmp p.newest)
      (names_of p) kept in
      omega (arith, count, (walk.one i is).0)

  module _ (e : NameEntry) (read : e ≡ get_or p.entries.items i e) where
    pub entry_is : IsEntryOf p.bytes (names_of p) i e
    entry_is =
        entry_at p.bytes p.entries.items (get nat_cmp p.first) (get nat_cmp p.newest)
        (names_of p) i e kept (walk.one i is).0 read

    pub compared : bytes_eq name (take e.len (drop e.start p.bytes))
        ≡ bytes_eq name (name_at (names_of p) i)
    compared = ap (bytes_eq name) entry_is.name

    link : IsLast (FollowsWith (get nat_cmp p.first) (hash_at (names_of p))
        (digest_at (names_of p)) (digest_of name)) i e.older
    link =
        let one = walk.one i is in
        subst (IsLast (FollowsWith (get nat_cmp p.first) (hash_at (names_of p))
        (digest_at (names_of p)) (digest_of name)) i)
        (sym (older_read p.entries.items i e at_entry read))
        (subst (λ (d : ℕ). IsLast (FollowsWith (get nat_cmp p.first) (hash_at (names_of p))
        (digest_at (names_of p)) d) i (older_at p.entries.items i)) one.1.1
        (kept.indexed.links i one.0 one.1.0))

    pub step_smaller : past e.older < past cursor
    step_smaller =
        let small = last_small (FollowsWith (get nat_cmp p.first) (hash_at (names_of p))
        (digest_at (names_of p)) (digest_of name)) i e.older link in
        let here = ap past is in
        omega (arith, small, here)

    pub walking_steps : bytes_eq name (take e.len (drop e.start p.bytes)) ≡ false
        → Walking p name e.older
    walking_steps differ =
        walk_steps (FollowsWith (get nat_cmp p.first) (hash_at (names_of p))
        (digest_at (names_of p)) (digest_of name)) (λ j. name_at (names_of p) j ≡ name)
        (length (names_of p)) i e.older (subst (Walking p name) is walk)
        (other_name name (name_at (names_of p) i) (sym compared ∙ differ)) link

pub walking_ends : (p : StrtabParts) (name : List ℕ) → Walking p name None → IsNoFollower name p
walking_ends p name walk i lt follows is =
    walk_ends (FollowsWith (get nat_cmp p.first) (hash_at (names_of p))
    (digest_at (names_of p)) (digest_of name)) (λ j. name_at (names_of p) j ≡ name)
    (length (names_of p)) walk i lt (follows, ap digest_of is) is

-- ---- A name that is new

unused : (n : List ℕ) (names : List (List ℕ))
    → ((i : ℕ) → i < length names → name_at names i ≡ n → ⊥)
    → list_any (bytes_eq n) names ≡ false
unused n [] none = refl
unused n (m ∷ names) none =
    or_from (bytes_eq n m) (list_any (bytes_eq n) names)
    (false_from_ne_true (bytes_eq n m)
    (λ same. none 0 (omega arith) (sym (same_true n m same))))
    (unused n names (λ i lt is. none (suc i) (omega (arith, lt)) is))

pub new_hash : (p : StrtabParts) (n : List ℕ) → AreKept p → (length n == 0) ≡ false
    → get nat_cmp p.first (quick_hash_of n) ≡ None → IsNew n (names_of p)
new_hash p n k not_empty none = record {
  not_empty = not_empty;
  unused = unused n (names_of p)
      (λ i lt is. k.indexed.known i lt (ap (λ (m : List ℕ). get nat_cmp p.first (quick_hash_of m)) is
      ∙ none));
}

-- the first name with a hash is another, and no other one is this
pub no_other : (p : StrtabParts) (n : List ℕ) (j : ℕ) → (length n == 0) ≡ false
    → get nat_cmp p.first (quick_hash_of n) ≡ Some j → bytes_eq n (name_at (names_of p) j) ≡ false
    → IsNoFollower n p → IsNew n (names_of p)
no_other p n j not_empty first differ found = record {
  not_empty = not_empty;
  unused = unused n (names_of p) (λ i lt is. found i lt
      (λ (here : get nat_cmp p.first (hash_at (names_of p) i) ≡ Some i).
      let same : Some j ≡ Some i =
      sym first ∙ ap (λ (m : List ℕ). get nat_cmp p.first (quick_hash_of m)) (sym is) ∙ here in
      let at : j ≡ i = cc in
      other_name n (name_at (names_of p) j) differ (ap (name_at (names_of p)) at ∙ is)) is);
}

pub first_below : (p : StrtabParts) (h j : ℕ) → AreKept p → get nat_cmp p.first h ≡ Some j
    → j < length p.entries.items
first_below p h j k is =
    let count = count_is p.bytes p.entries.items (get nat_cmp p.first) (get nat_cmp p.newest)
    (names_of p) k in
    let below = k.indexed.below h j is in
    omega (arith, count, below)

pub first_entry : (p : StrtabParts) (h j : ℕ) (e : NameEntry) → AreKept p
    → get nat_cmp p.first h ≡ Some j → e ≡ get_or p.entries.items j e
    → IsEntryOf p.bytes (names_of p) j e
first_entry p h j e k is read =
    entry_at p.bytes p.entries.items (get nat_cmp p.first) (get nat_cmp p.newest) (names_of p) j e
    k (k.indexed.below h j is) read

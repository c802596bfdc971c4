-- A name that is put last, and what is kept then.
use Rattle.std.proofs.Common.{◌≡◌, ◌+◌, ◌<◌, ◌≤◌, ◌^◌, ◌==◌, ℕ, Bool, true, false, cond, eqb, List, [], ◌∷◌, ◌++◌, length, map, Option, Some, None, Result, Ok, Err, refl, sym, ap, ◌∙◌, subst, arith, inl, inr, ⊎_elim}
use Rattle.std.specs.Prelude.{◌≢◌, ◌-◌, ◌↔◌, All, MatchOption, IfOk, IfErr, IsErrOf, OnOk, OnErr}
use Rattle.std.specs.Option.{ok_or}
use Rattle.std.specs.Result.{IsErr}
use Rattle.std.specs.Ordering.{nat_cmp}
use Rattle.std.specs.BTreeMap.{BTreeMap, Updates, get}
use Rattle.std.specs.Cmp.{unsigned_tied}
use Rattle.std.specs.List.{list_any}
use Rattle.std.specs.Str.{bytes_eq}
use Rattle.std.proofs.lemmas.Bool.{cases_lt, eqb-true, false_from_ne_true}
use Rattle.std.proofs.lemmas.List.{get_or_append_left, get_or_push, length_push, map-append}
use Rattle.elf_types.specs.declared.errors.ElfError.{ElfError}
use Rattle.elf_types.specs.declared.errors.ElfError.TheVariants.{Memory, TooLarge}
use Rattle.strtab_build.specs.Names.{unclosed, entries_after, IsHeld, IsNew, IsTable}
use Rattle.strtab_build.specs.Table.{distinct, table, place_of, string_at}
use Rattle.strtab_build.proofs.DistinctLemmas.{distinct-push, with_name}
use Rattle.strtab_build.proofs.KeptLemmas.{IsHeld-empty, IsTable-push, distinct-new, place_of-new}
use Rattle.strtab_build.proofs.NamesLemmas.{keyed_after, entries_after-push}
use Rattle.strtab_build.proofs.TableLemmas.{length-table, length-unclosed-push, string_at-added, table_same, unclosed-push}
use Rattle.strtab_shared.specs.declared.entries.NameEntry.{NameEntry}
use Rattle.strtab_shared.specs.declared.parts.StrtabParts.{StrtabParts}
use Rattle.strtab_shared.specs.Hashes.{quick_hash_of, digest_of}
use Rattle.strtab_shared.specs.Chains.{IsIndexed}
use Rattle.strtab_shared.specs.Kept.{span, stated_span, entry_names_in, name_at, hash_at, digest_at, older_at, with_first, or_else, IsNameTableKept, names_of, AreKept, IsNothing, PutsLast, Places}
use Rattle.strtab_shared.proofs.ChainLaws.{indexed_first, indexed_follower}
use Rattle.strtab_shared.proofs.KeptLaws.{kept_as, names_kept, count_is, nothing_kept, nothing_names}

-- ---- What finds the names, with one more

module _ (p : StrtabParts) (name : List ℕ) (e : NameEntry) (entries : List NameEntry) (kept : AreKept p)
    (is : entries ≡ p.entries.items ++ e ∷ []) where
  abbrev held : List (List ℕ)
  held = names_of p

  abbrev held_more : List (List ℕ)
  held_more = held ++ name ∷ []

  count : length p.entries.items ≡ length held
  count = count_is p.bytes p.entries.items (get nat_cmp p.first) (get nat_cmp p.newest) held kept

  same_name : (i : ℕ) → i < length held → name_at held_more i ≡ name_at held i
  same_name i lt = get_or_append_left held (name ∷ []) [] i lt

  last_name : name_at held_more (length held) ≡ name
  last_name = get_or_push held name [] (length held) refl

  same_older : (i : ℕ) → i < length held → older_at entries i ≡ older_at p.entries.items i
  same_older i lt =
      let none : NameEntry = record { start = 0; len = 0; older = None } in
      ap (λ (l : List NameEntry). older_at l i) is
      ∙ ap (λ (x : NameEntry). x.older)
      (get_or_append_left p.entries.items (e ∷ []) none i (omega (arith, count, lt)))

  last_older : older_at entries (length held) ≡ e.older
  last_older =
      let none : NameEntry = record { start = 0; len = 0; older = None } in
      ap (λ (l : List NameEntry). older_at l (length held)) is
      ∙ ap (λ (x : NameEntry). x.older) (get_or_push p.entries.items e none (length held) count)

  pub with_new_hash : (first : ℕ → Option ℕ) → get nat_cmp p.first (quick_hash_of name) ≡ None
      → ((q : ℕ) → first q
      ≡ cond (eqb (quick_hash_of name) q) (Some (length held)) (get nat_cmp p.first q))
      → IsIndexed (length held_more) (hash_at held_more) (digest_at held_more) (older_at entries)
      first (get nat_cmp p.newest)
  with_new_hash first free noted =
      let here = ap quick_hash_of last_name in
      indexed_first (length held) (length held_more) (hash_at held) (hash_at held_more)
      (digest_at held) (digest_at held_more) (older_at p.entries.items) (older_at entries)
      (get nat_cmp p.first) (get nat_cmp p.newest) (length_push held name)
      (λ i lt. ap quick_hash_of (same_name i lt)) (λ i lt. ap digest_of (same_name i lt)) same_older
      kept.indexed first
      (ap (get nat_cmp p.first) here ∙ free)
      (λ q. noted q ∙ ap (λ (h : ℕ). cond (eqb h q) (Some (length held)) (get nat_cmp p.first q))
      (sym here))

  pub with_follower : (newest : ℕ → Option ℕ)
      → (get nat_cmp p.first (quick_hash_of name) ≡ None → ⊥)
      → e.older ≡ get nat_cmp p.newest (digest_of name)
      → ((q : ℕ) → newest q
      ≡ cond (eqb (digest_of name) q) (Some (length held)) (get nat_cmp p.newest q))
      → IsIndexed (length held_more) (hash_at held_more) (digest_at held_more) (older_at entries)
      (get nat_cmp p.first) newest
  with_follower newest taken linked noted =
      let here = ap digest_of last_name in
      indexed_follower (length held) (length held_more) (hash_at held) (hash_at held_more)
      (digest_at held) (digest_at held_more) (older_at p.entries.items) (older_at entries)
      (get nat_cmp p.first) (get nat_cmp p.newest) (length_push held name)
      (λ i lt. ap quick_hash_of (same_name i lt)) (λ i lt. ap digest_of (same_name i lt)) same_older
      kept.indexed newest
      (λ none. taken (ap (get nat_cmp p.first) (sym (ap quick_hash_of last_name)) ∙ none))
      (last_older ∙ linked ∙ ap (get nat_cmp p.newest) (sym here))
      (λ q. noted q ∙ ap (λ (d : ℕ). cond (eqb d q) (Some (length held))
      (get nat_cmp p.newest q)) (sym here))

-- ---- A name that is put last

module _ (p : StrtabParts) (name : List ℕ) (older : Option ℕ) (first newest : ℕ → Option ℕ)
    (kept : AreKept p) (fresh : IsNew name (names_of p))
    (fits : length p.bytes + length name + 2 < 2 ^ 32)
    (indexed : (entries : List NameEntry) (start : ℕ)
    → entries ≡ p.entries.items ++ record { start = start; len = length name; older = older } ∷ []
    → IsIndexed (length (names_of p ++ name ∷ [])) (hash_at (names_of p ++ name ∷ []))
    (digest_at (names_of p ++ name ∷ [])) (older_at entries) first newest) where
  pushed : (bytes : List ℕ) (entries : List NameEntry) (start : ℕ) → bytes ≡ p.bytes ++ 0 ∷ name
      → start ≡ length p.bytes + 1
      → entries ≡ p.entries.items
      ++ record { start = start; len = length name; older = older } ∷ []
      → IsNameTableKept bytes entries first newest (names_of p ++ name ∷ [])
  pushed bytes entries start b s e =
      let long = ap length kept.bytes_are in
      let at : start ≡ length (unclosed (names_of p)) + 1 = omega (arith, long, s) in
      record {
        names_are = IsTable-push (names_of p) name kept.names_are fresh
            (omega (arith, long, fits));
        bytes_are = b ∙ ap (λ (l : List ℕ). l ++ 0 ∷ name) kept.bytes_are
            ∙ sym (unclosed-push (names_of p) name);
        spans_are = ap (map span) e
            ∙ map-append span p.entries.items
            (record { start = start; len = length name; older = older } ∷ [])
            ∙ (λ j. kept.spans_are j ++ (at j, length name) ∷ [])
            ∙ sym (map-append stated_span (entries_after [] (names_of p))
            (keyed_after (names_of p) name ∷ []))
            ∙ ap (map stated_span) (sym (entries_after-push [] (names_of p) name));
        indexed = indexed entries start e;
      }

  at_place : (bytes : List ℕ) (entries : List NameEntry) (start : ℕ)
      → IsNameTableKept bytes entries first newest (names_of p ++ name ∷ [])
      → start ≡ length p.bytes + 1 → start ≡ place_of name (entry_names_in bytes entries)
  at_place bytes entries start k s =
      let long = ap length kept.bytes_are in
      let place = place_of-new (names_of p) name kept.names_are.once fresh in
      let at : start ≡ place_of name (names_of p ++ name ∷ []) = omega (arith, long, s, place) in
      at ∙ ap (place_of name) (sym (names_kept bytes entries (names_of p ++ name ∷ []) k.bytes_are
      k.spans_are))

  pub places_last : (old new : StrtabParts) (result : Result ℕ ElfError)
      → old.bytes ≡ p.bytes → old.entries ≡ p.entries → get nat_cmp old.first ≡ first
      → get nat_cmp old.newest ≡ newest → PutsLast name older result old new
      → OnErr result (IsNothing new) → Places name result p new
  places_last old new (Ok start) b e f n puts left =
      let k = pushed new.bytes new.entries.items start
      (puts.bytes ∙ ap (λ (l : List ℕ). l ++ 0 ∷ name) b)
      (puts.start ∙ ap (λ (l : List ℕ). length l + 1) b)
      (puts.entries ∙ ap (λ v. v.items
      ++ record { start = start; len = length name; older = older } ∷ []) e) in
      let same = names_kept new.bytes new.entries.items (names_of p ++ name ∷ []) k.bytes_are
      k.spans_are in
      record {
        kept = subst (λ (m : ℕ → Option ℕ). IsNameTableKept new.bytes new.entries.items m
            (get nat_cmp new.newest) (names_of new)) (sym (ap (get nat_cmp) puts.first ∙ f))
            (subst (λ (m : ℕ → Option ℕ). IsNameTableKept new.bytes new.entries.items first m
            (names_of new)) (sym (ap (get nat_cmp) puts.newest ∙ n))
            (kept_as new.bytes new.entries.items first newest (names_of p ++ name ∷ []) k));
        names = same ∙ sym (distinct-new (names_of p) name kept.names_are.once fresh);
        place = at_place new.bytes new.entries.items start k
            (puts.start ∙ ap (λ (l : List ℕ). length l + 1) b);
        left = tt;
      }
  places_last old new (Err x) b e f n puts left = record {
    kept = nothing_kept new left;
    names = tt;
    place = tt;
    left = inr (nothing_names new left);
  }

-- ---- What is noted

-- a hash that was free
pub noted_free : (first : ℕ → Option ℕ) (h i q : ℕ) → first h ≡ None
    → with_first first h i q ≡ cond (eqb h q) (Some i) (first q)
noted_free first h i q free = at (eqb h q) refl (first q) refl
  where
    at : (b : Bool) → eqb h q ≡ b → (o : Option ℕ) → first q ≡ o
        → or_else o (cond b (Some i) None) ≡ cond b (Some i) o
    at true is (Some k) o = absurd (let same = ap first (eqb-true h q is) in
        let bad : ◌≡◌ {A = Option ℕ} None (Some k) = sym free ∙ same ∙ o in cc)
    at true is None o = refl
    at false is (Some k) o = refl
    at false is None o = refl

-- one that was not
pub noted_taken : (first : ℕ → Option ℕ) (h i j q : ℕ) → first h ≡ Some j
    → with_first first h i q ≡ first q
noted_taken first h i j q taken = at (eqb h q) refl (first q) refl
  where
    at : (b : Bool) → eqb h q ≡ b → (o : Option ℕ) → first q ≡ o
        → or_else o (cond b (Some i) None) ≡ o
    at b is (Some k) o = refl
    at true is None o = absurd (let same = ap first (eqb-true h q is) in
        let bad : ◌≡◌ {A = Option ℕ} (Some j) None = sym taken ∙ same ∙ o in cc)
    at false is None o = refl

-- what is kept, where the same is noted
pub kept_noting : (p : StrtabParts) (first : ℕ → Option ℕ) → AreKept p
    → ((q : ℕ) → first q ≡ get nat_cmp p.first q)
    → IsNameTableKept p.bytes p.entries.items first (get nat_cmp p.newest) (names_of p)
kept_noting p first k same =
    subst (λ (m : ℕ → Option ℕ). IsNameTableKept p.bytes p.entries.items m (get nat_cmp p.newest)
    (names_of p)) (λ j. λ q. sym (same q) j) k

pub updated : (old new : BTreeMap ℕ ℕ) (k v : ℕ) → Updates nat_cmp old new k (Some v)
    → (q : ℕ) → get nat_cmp new q ≡ cond (eqb k q) (Some v) (get nat_cmp old q)
updated old new k v updates q =
    updates.0 q ∙ ap (λ (b : Bool). cond b (Some v) (get nat_cmp old q)) (unsigned_tied k q)

-- nothing changed
pub places_none : (p new : StrtabParts) (name : List ℕ) (result : Result ℕ ElfError)
    → IsErr result → AreKept new → names_of new ≡ names_of p → Places name result p new
places_none p new name (Ok o) err kept same = cc
places_none p new name (Err x) err kept same =
    record { kept = kept; names = tt; place = tt; left = inl same }

-- what is noted is there
pub noted_some : (o : Option ℕ) (j : ℕ) → o ≡ Some j → o ≡ None → ⊥
noted_some o j some none = let bad : ◌≡◌ {A = Option ℕ} (Some j) None = sym some ∙ none in cc

-- a name that is held
pub places_held : (p : StrtabParts) (name : List ℕ) (offset : ℕ) → AreKept p
    → IsHeld name (names_of p) offset → Places name (Ok offset) p p
places_held p name offset kept held =
    record { kept = kept; names = sym held.kept; place = held.place; left = tt }

-- ---- What is answered

-- a name that was added reads back
pub reads_added : (n : List ℕ) (names now : List (List ℕ)) (r : Result ℕ ElfError)
    → OnOk r (now ≡ distinct (names ++ n ∷ [])) → IfOk r (λ o. o ≡ place_of n now)
    → All (λ b. b ≢ 0) n → IfOk r (λ o. string_at (table now) o ≡ n)
reads_added n names now (Ok o) added place whole =
    string_at-added n names now o added place whole
reads_added n names now (Err e) added place whole = tt

-- and so does one that is held
pub reads_held : (n : List ℕ) (names : List (List ℕ)) (o : ℕ) → IsHeld n names o
    → All (λ b. b ≢ 0) n → string_at (table names) o ≡ n
reads_held n names o held whole =
    string_at-added n names names o (sym held.kept) held.place whole

-- the table stays within its limit where a new name has room
pub small_added : (names : List (List ℕ)) (n : List ℕ) → IsTable names
    → length (unclosed names) + length n + 2 < 2 ^ 32 → length (table (names ++ n ∷ [])) < 2 ^ 32
small_added names [] t fits = (IsHeld-empty names [] t refl).small
small_added names (b ∷ bs) t fits = at (list_any (bytes_eq (b ∷ bs)) names) refl
  where
    at : (used : Bool) → list_any (bytes_eq (b ∷ bs)) names ≡ used
        → length (table (names ++ (b ∷ bs) ∷ [])) < 2 ^ 32
    at true used =
        let kept = distinct-push names (b ∷ bs) ∙ ap (λ d. with_name d (b ∷ bs)) t.once
        ∙ ap (λ u. cond u names (names ++ (b ∷ bs) ∷ [])) used in
        let same = ap length (table_same (names ++ (b ∷ bs) ∷ []) names (kept ∙ sym t.once)) in
        omega (arith, same, length-table names t.once, t.small)
    at false unused =
        let once = distinct-new names (b ∷ bs) t.once
        (record {
          not_empty = false_from_ne_true (length (b ∷ bs) == 0)
              (λ is. absurd (omega (arith, eqb-true (length (b ∷ bs)) 0 is)));
          unused = unused;
        }) in
        omega (
          arith,
          fits,
          length-table (names ++ (b ∷ bs) ∷ []) once,
          length-unclosed-push names (b ∷ bs),
        )

-- and passes it where it has none
pub large_new : (names : List (List ℕ)) (n : List ℕ) → IsTable names → IsNew n names
    → (length (unclosed names) + length n + 2 < 2 ^ 32 → ⊥)
    → 2 ^ 32 - 1 < length (table (names ++ n ∷ []))
large_new names n t new full =
    let once = distinct-new names n t.once new in
    let more = length-table (names ++ n ∷ []) once in
    let long = length-unclosed-push names n in
    ⊎_elim (λ (less : length (unclosed names) + length n + 2 < 2 ^ 32). absurd (full less))
    (λ (ge : 2 ^ 32 ≤ length (unclosed names) + length n + 2). omega (arith, more, long, ge))
    (cases_lt (length (unclosed names) + length n + 2) (2 ^ 32))

-- want of memory is no other refusal
pub not_large : (r : Result ℕ ElfError) → IfErr r (λ e. e ≡ Memory) → IsErrOf r TooLarge → ⊥
not_large (Ok o) memory large = cc
not_large (Err e) memory large = cc

-- what is found, or else the refusal of a table that is too large
pub reads_found : (n : List ℕ) (names : List (List ℕ)) (o : Option ℕ)
    → MatchOption o (IsNew n names) (IsHeld n names) → All (λ b. b ≢ 0) n
    → IfOk (ok_or o TooLarge) (λ offset. string_at (table names) offset ≡ n)
reads_found n names (Some o) found whole = reads_held n names o found whole
reads_found n names None found whole = tt

pub large_found : (n : List ℕ) (names : List (List ℕ)) (o : Option ℕ)
    → MatchOption o (IsNew n names) (IsHeld n names) → IsTable names
    → (length (unclosed names) + length n + 2 < 2 ^ 32 → ⊥)
    → IsErrOf (ok_or o TooLarge) TooLarge ↔ (2 ^ 32 - 1 < length (table (names ++ n ∷ [])))
large_found n names (Some o) found t full = (
  λ large. cc,
  λ more. let small = found.small in absurd (omega (arith, small, more)),
)
large_found n names None found t full = (λ large. large_new names n t found full, λ more. refl)

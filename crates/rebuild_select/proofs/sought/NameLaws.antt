-- Names that are looked for, by the order in which they are kept.
use Rattle.std.proofs.Common.{◌≡◌, ◌⊎◌, inl, inr, ◌||◌, ◌<◌, ◌≤◌, ◌+◌, ◌++◌, ℕ, Bool, true, false, cond, List, [], ◌∷◌, length, take, get_or, nat_cmp, Ordering, refl, sym, ap, ◌∙◌, subst, arith}
use Rattle.std.specs.Ordering.{is_eq}
use Rattle.std.specs.Cmp.Lexicographic.{slice_cmp}
use Rattle.std.specs.List.{list_any}
use Rattle.std.specs.Str.{bytes_eq}
use Rattle.std.specs.Borrow.{Bor}
use Rattle.std.specs.BTreeSet.{BTreeSet, Updates}
use Rattle.std.proofs.lemmas.Map.Text.{is_eq-slice_cmp}
use Rattle.std.proofs.lemmas.Slice.Eq.{bytes_eq-Decides}
use Rattle.std.proofs.lemmas.Bool.{cases_lt}
use Rattle.std.proofs.lemmas.List.{take_more, get_or_default}
use Rattle.std.proofs.lemmas.List.Folds.{list_any-append}
use Rattle.rebuild_select.specs.Sought.Names.{is_sought, lent_names, AreUpTo}

-- ---- By their order

pub by_order : (keys : List (Bor (List ℕ))) (name : List ℕ)
    → list_any (λ k. is_eq (slice_cmp nat_cmp name k.now)) keys ≡ is_sought (lent_names keys) name
by_order [] name = refl
by_order (k ∷ ks) name =
    ap (λ (b : Bool).
    b || list_any (λ (k : Bor (List ℕ)). is_eq (slice_cmp nat_cmp name k.now)) ks)
    (is_eq-slice_cmp name k.now)
    ∙ ap (λ (b : Bool). bytes_eq name k.now || b) (by_order ks name)

pub either : (b c : Bool) → cond b true c ≡ (b || c)
either true c = refl
either false c = refl

-- the order of names behind references
abbrev pub name_cmp : Bor (List ℕ) → Bor (List ℕ) → Ordering
name_cmp a b = slice_cmp nat_cmp a.now b.now

-- ---- A name that is added

pub sought_added : (s n : BTreeSet (Bor (List ℕ))) (new : Bor (List ℕ))
    → Updates name_cmp s n new true → (name : List ℕ)
    → is_sought (lent_names n.keys) name
    ≡ (bytes_eq new.now name || is_sought (lent_names s.keys) name)
sought_added s n new updates name =
    let key : Bor (List ℕ) = record { ref_ptr = (0, 0); now = name } in
    let had = list_any (λ (k : Bor (List ℕ)). is_eq (slice_cmp nat_cmp name k.now)) s.keys in
    sym (by_order n.keys name)
    ∙ updates.0 key
    ∙ either (is_eq (slice_cmp nat_cmp new.now name)) had
    ∙ ap (λ (b : Bool). b || had) (is_eq-slice_cmp new.now name)
    ∙ ap (λ (b : Bool). bytes_eq new.now name || b) (by_order s.keys name)

-- ---- Their lengths

pub up_to_none : (longest : ℕ) (keys : List (Bor (List ℕ))) → keys ≡ []
    → AreUpTo longest (lent_names keys)
up_to_none longest keys none =
    subst (λ (l : List (Bor (List ℕ))). AreUpTo longest (lent_names l)) (sym none)
    (λ name is. absurd (let h : false ≡ true = is in cc))

pub up_to_same : (longest : ℕ) (s n : List (Bor (List ℕ))) → n ≡ s
    → AreUpTo longest (lent_names s) → AreUpTo longest (lent_names n)
up_to_same longest s n same up_to =
    subst (λ (l : List (Bor (List ℕ))). AreUpTo longest (lent_names l)) (sym same) up_to

pub up_to_added : (longest more : ℕ) (s n : BTreeSet (Bor (List ℕ))) (new : Bor (List ℕ))
    → Updates name_cmp s n new true → AreUpTo longest (lent_names s.keys) → longest ≤ more
    → length new.now ≤ more → AreUpTo more (lent_names n.keys)
up_to_added longest more s n new updates up_to rises fits name is =
    by_name (bytes_eq new.now name) refl (sym (sought_added s n new updates name) ∙ is)
  where
    by_name : (b : Bool) → bytes_eq new.now name ≡ b
        → (b || is_sought (lent_names s.keys) name) ≡ true → length name ≤ more
    by_name true same has =
        let one = ap length ((bytes_eq-Decides new.now name).0 same) in omega (arith, one, fits)
    by_name false differs has = let old = up_to name has in omega (arith, old, rises)

-- ---- One that is found

pub sought_same : (names : List (List ℕ)) (a b : List ℕ) → a ≡ b
    → is_sought names a ≡ is_sought names b
sought_same names a b same = ap (λ (name : List ℕ). is_sought names name) same

-- a name that is not looked for is none of those that are
pub unsought_apart : (names : List (List ℕ)) (a b : List ℕ) → is_sought names a ≡ false
    → is_sought names b ≡ true → bytes_eq a b ≡ false
unsought_apart names a b not_a is_b = by_same (bytes_eq a b) refl
  where
    by_same : (t : Bool) → bytes_eq a b ≡ t → bytes_eq a b ≡ false
    by_same false differs = differs
    by_same true same =
        let one = sought_same names a b ((bytes_eq-Decides a b).0 same) in
        absurd (let h : false ≡ true = sym not_a ∙ one ∙ is_b in cc)

-- ---- Names of a list, one after another

swapped : (b c : Bool) → (b || c) ≡ (c || (b || false))
swapped true true = refl
swapped true false = refl
swapped false true = refl
swapped false false = refl

same_either : (a b : List ℕ) → bytes_eq a b ≡ bytes_eq b a
same_either a b = by_two (bytes_eq a b) (bytes_eq b a) refl refl
  where
    by_two : (s t : Bool) → bytes_eq a b ≡ s → bytes_eq b a ≡ t → bytes_eq a b ≡ bytes_eq b a
    by_two true true p q = p ∙ sym q
    by_two false false p q = p ∙ sym q
    by_two true false p q =
        let back = (bytes_eq-Decides b a).1 (sym ((bytes_eq-Decides a b).0 p)) in
        absurd (let h : false ≡ true = sym q ∙ back in cc)
    by_two false true p q =
        let back = (bytes_eq-Decides a b).1 (sym ((bytes_eq-Decides b a).0 q)) in
        absurd (let h : false ≡ true = sym p ∙ back in cc)

pub sought_more : (names : List (List ℕ)) (i : ℕ) (name q : List ℕ) → i < length names
    → name ≡ get_or names i name
    → (bytes_eq name q || is_sought (take i names) q) ≡ is_sought (take (i + 1) names) q
sought_more names i name q below is =
    swapped (bytes_eq name q) (is_sought (take i names) q)
    ∙ ap (λ (b : Bool). is_sought (take i names) q || (b || false)) (same_either name q)
    ∙ sym (ap (λ (l : List (List ℕ)). is_sought l q)
    (take_more names i name below
    ∙ ap (λ (l : List ℕ). take i names ++ l ∷ []) (sym is))
    ∙ list_any-append (λ (w : List ℕ). bytes_eq q w) (take i names) (name ∷ []))

-- ---- Names that are all looked for

or_true : (b : Bool) → (b || true) ≡ true
or_true true = refl
or_true false = refl

module _ (old new : List (List ℕ)) (name : List ℕ)
    (added : (q : List ℕ) → is_sought new q ≡ (bytes_eq name q || is_sought old q)) where
  pub sought_stays : (q : List ℕ) → is_sought old q ≡ true → is_sought new q ≡ true
  sought_stays q had =
      added q ∙ ap (λ (b : Bool). bytes_eq name q || b) had ∙ or_true (bytes_eq name q)

  pub sought_now : is_sought new name ≡ true
  sought_now =
      added name
      ∙ ap (λ (b : Bool). b || is_sought old name) ((bytes_eq-Decides name name).1 refl)

  -- those of the items so far, and of one more
  pub all_sought : {X : Type 0} (name_of : X → List ℕ) (xs : List X) (i : ℕ) (x : X)
      → i < length xs → x ≡ get_or xs i x → name_of x ≡ name
      → ((k : ℕ) (d : X) → k < i → is_sought old (name_of (get_or xs k d)) ≡ true)
      → (k : ℕ) (d : X) → k < i + 1 → is_sought new (name_of (get_or xs k d)) ≡ true
  all_sought {X} name_of xs i x below is named so_far k d lt = by_place (cases_lt k i)
    where
      by_place : (k < i) ⊎ (i ≤ k) → is_sought new (name_of (get_or xs k d)) ≡ true
      by_place (inl less) = sought_stays (name_of (get_or xs k d)) (so_far k d less)
      by_place (inr past) =
          let at : k ≡ i = omega (arith, lt, past) in
          ap (λ (n : ℕ). is_sought new (name_of (get_or xs n d))) at
          ∙ ap (λ (y : X). is_sought new (name_of y))
          (get_or_default xs i d x below ∙ sym is)
          ∙ ap (λ (n : List ℕ). is_sought new n) named
          ∙ sought_now

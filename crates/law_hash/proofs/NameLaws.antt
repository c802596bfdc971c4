-- What holds of each listed name of a table, and the numbers of a range that pass a test.
use Rattle.std.proofs.Common.{◌≡◌, ◌+◌, ◌<◌, ◌≤◌, ◌⊎◌, ℕ, zero, suc, Bool, true, false, cond, ◌&&◌, List, [], ◌∷◌, length, get_or, map, Option, Some, None, refl, sym, ap, ◌∙◌, subst, inl, inr, arith}
use Rattle.std.specs.Prelude.{filter, nat_eq}
use Rattle.std.specs.List.{range_with_len, enumerate_from, list_all}
use Rattle.std.proofs.lemmas.Bool.{and_from, or_left, or_right, cases_eq, eq-eqb, eqb-true}
use Rattle.elf_types.specs.declared.records.Sym.{Sym}
use Rattle.rebuild_model.specs.elf_object.Object.{Object}
use Rattle.rebuild_model.specs.elf_object.Answers.{items_at, syms_of}
use Rattle.rebuild_model.specs.elf_object.Sections.{is_among}
use Rattle.rebuild_model.specs.hash_model.HashSections.{each_listed}
use Rattle.rebuild_model.specs.hash_model.Listed.{listed_name, listed_names}
use Rattle.rebuild_model.specs.hash_model.BuiltHashes.{is_in}

-- ---- Each listed name

each_from : (test : ℕ → List ℕ → Bool) (s : ℕ) (names : List (Option (List ℕ)))
    → ((k : ℕ) (name : List ℕ) → k < length names → get_or names k None ≡ Some name
    → test (s + k) name ≡ true)
    → list_all (λ row. elim (row.1) [ None ↦ true | Some name ↦ test row.0 name ])
    (enumerate_from s names) ≡ true
each_from test s [] each = refl
each_from test s (x ∷ names) each =
    and_from _ _ (here x (λ name is. subst (λ (i : ℕ). test i name ≡ true) (omega arith)
    (each 0 name (omega arith) is)))
    (each_from test (s + 1) names (λ k name below at. subst (λ (i : ℕ). test i name ≡ true)
    (omega arith) (each (suc k) name (omega (arith, below)) at)))
  where
    here : (x : Option (List ℕ)) → ((name : List ℕ) → x ≡ Some name → test s name ≡ true)
        → ◌≡◌ {A = Bool} (elim x [ None ↦ true | Some name ↦ test s name ]) true
    here None passes = refl
    here (Some name) passes = passes name refl

-- a test of each listed name holds where it holds at each place of one
pub each_is : (test : ℕ → List ℕ → Bool) (names : List (Option (List ℕ)))
    → ((k : ℕ) (name : List ℕ) → k < length names → get_or names k None ≡ Some name
    → test k name ≡ true) → each_listed test names ≡ true
each_is test names each =
    each_from test 0 names (λ k name below at. subst (λ (i : ℕ). test i name ≡ true)
    (omega arith) (each k name below at))

-- the zero symbol is not listed
pub zero_unlisted : (o : Object) (s : ℕ) → get_or (listed_names o s) 0 None ≡ None
unfolding listed_names listed_name
zero_unlisted o s = by_list (syms_of (items_at o s 0))
  where
    by_list : (l : List Sym)
        → get_or (map (λ row. listed_name o s row.0 row.1) (enumerate_from 0 l)) 0 None ≡ None
    by_list [] = refl
    by_list (x ∷ xs) = refl

-- ---- Tests

pub each_passes : {X : Type 0} (test : X → Bool) → ((x : X) → test x ≡ true) → (xs : List X)
    → list_all test xs ≡ true
each_passes test passes [] = refl
each_passes test passes (x ∷ xs) = and_from _ _ (passes x) (each_passes test passes xs)

pub six : (a b c d e f : Bool) → a ≡ true → b ≡ true → c ≡ true → d ≡ true → e ≡ true
    → f ≡ true → (a && b && c && d && e && f) ≡ true
six a b c d e f first second third fourth fifth sixth =
    ap (λ (x : Bool). x && b && c && d && e && f) first
    ∙ ap (λ (x : Bool). true && x && c && d && e && f) second
    ∙ ap (λ (x : Bool). true && true && x && d && e && f) third
    ∙ ap (λ (x : Bool). true && true && true && x && e && f) fourth
    ∙ ap (λ (x : Bool). true && true && true && true && x && f) fifth
    ∙ ap (λ (x : Bool). true && true && true && true && true && x) sixth

-- ---- Numbers of a range

-- one that passes is among those that pass
pub among : (p : ℕ → Bool) (a m i : ℕ) → a ≤ i → i < a + m → p i ≡ true
    → is_among (filter p (range_with_len a m)) i ≡ true
unfolding is_among
among p a zero i from below passes = absurd (omega (arith, from, below))
among p a (suc m) i from below passes =
    by (λ other. among p (a + 1) m i (omega (arith, from, other)) (omega (arith, below)) passes)
    (cases_eq i a)
  where
    later : List ℕ
    later = filter p (range_with_len (a + 1) m)

    either : (b : Bool) → is_among later i ≡ true → is_among (cond b (a ∷ later) later) i ≡ true
    either true rest = or_right (nat_eq i a) (is_among later i) rest
    either false rest = rest

    by : ((i ≡ a → ⊥) → is_among later i ≡ true) → (i ≡ a) ⊎ (i ≡ a → ⊥)
        → is_among (cond (p a) (a ∷ later) later) i ≡ true
    by rest (inl same) =
        ap (λ (b : Bool). is_among (cond b (a ∷ later) later) i) (ap p (sym same) ∙ passes)
        ∙ or_left (nat_eq i a) (is_among later i) (eq-eqb i a same)
    by rest (inr other) = either (p a) (rest other)

-- ---- Buckets

pub in_some : (b : ℕ) (bucket : Option ℕ) → is_in b bucket ≡ true → bucket ≡ Some b
in_some b None is = cc
in_some b (Some c) is = ap Some (eqb-true c b is)

pub in_its : (b : ℕ) (bucket : Option ℕ) → bucket ≡ Some b → is_in b bucket ≡ true
in_its b bucket is = ap (is_in b) is ∙ eq-eqb b b refl

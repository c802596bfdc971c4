-- What `distinct` and `before` give after one more name.
use Rattle.std.proofs.Common.{◌≡◌, ℕ, Bool, true, false, cond, List, [], ◌∷◌, ◌++◌, ◌||◌, not, fold, refl, sym, ap, ◌∙◌, append_assoc, append-nil, subst}
use Rattle.std.specs.List.{list_any}
use Rattle.std.specs.Str.{bytes_eq}
use Rattle.std.proofs.lemmas.Bool.{true≢false, false≢true, false_from_ne_true, or_from, or_parts}
use Rattle.std.proofs.lemmas.Slice.Eq.{bytes_eq-Decides}
use Rattle.std.proofs.lemmas.List.Elements.{filter-append}
use Rattle.std.proofs.lemmas.List.Sums.{take_while-cons}
use Rattle.std.proofs.lemmas.Map.Views.{any-filter_same}
use Rattle.strtab_build.specs.Table.{distinct, others, before}

-- equal bytes are one name
pub same_true : (a b : List ℕ) → bytes_eq a b ≡ true → a ≡ b
same_true a b = (bytes_eq-Decides a b).0

pub same_from : (a b : List ℕ) → a ≡ b → bytes_eq a b ≡ true
same_from a b = (bytes_eq-Decides a b).1

pub same_refl : (a : List ℕ) → bytes_eq a a ≡ true
same_refl a = same_from a a refl

-- what is another name from the one side is so from the other
pub other_sym : (a b : List ℕ) → bytes_eq a b ≡ false → bytes_eq b a ≡ false
other_sym a b apart = false_from_ne_true (bytes_eq b a) (λ e. true≢false (sym (same_from a b (sym (same_true b a e))) ∙ apart))

-- the names after one more that is not empty
abbrev pub with_used : List (List ℕ) → List ℕ → List (List ℕ)
with_used names n = cond (list_any (bytes_eq n) names) names (names ++ n ∷ [])

-- the names after one more
abbrev pub with_name : List (List ℕ) → List ℕ → List (List ℕ)
with_name names [] = names
with_name names (b ∷ bs) = with_used names (b ∷ bs)

-- taking one name out leaves another as used as it was
list_any-others : (m n : List ℕ) (names : List (List ℕ)) → bytes_eq n m ≡ false → list_any (bytes_eq n) (others m names) ≡ list_any (bytes_eq n) names
list_any-others m n names e =
    any-filter_same (bytes_eq n) (λ other. not (bytes_eq m other)) true (λ k h. ap not (subst (λ x. bytes_eq m x ≡ false) (same_true n k h) (other_sym n m e))) names

-- names without one, after one more
others-with_used : (m : List ℕ) (names : List (List ℕ)) (n : List ℕ) → m ∷ others m (with_used names n) ≡ with_used (m ∷ others m names) n
others-with_used m names n = by (bytes_eq n m) refl (list_any (bytes_eq n) names) refl
  where
    by : (same : Bool) → bytes_eq n m ≡ same → (used : Bool) → list_any (bytes_eq n) names ≡ used → m ∷ others m (with_used names n) ≡ with_used (m ∷ others m names) n
    by true e true u = rw (e, u) refl
    by true e false u =
        let alike = same_from m n (sym (same_true n m e)) in
        rw (e, u, filter-append, alike) (ap (λ d. m ∷ d) (append-nil _))
    by false e true u =
        let kept = list_any-others m n names e in
        rw (e, kept, u) refl
    by false e false u =
        let kept = list_any-others m n names e in
        let apart = other_sym n m e in
        rw (e, kept, u, filter-append, apart) refl

pub distinct-push : (names : List (List ℕ)) (n : List ℕ) → distinct (names ++ n ∷ []) ≡ with_name (distinct names) n
unfolding distinct
distinct-push [] [] = refl
distinct-push [] (b ∷ bs) = refl
distinct-push ([] ∷ names) n = distinct-push names n
distinct-push ((c ∷ cs) ∷ names) [] = ap (λ d. (c ∷ cs) ∷ others (c ∷ cs) d) (distinct-push names [])
distinct-push ((c ∷ cs) ∷ names) (b ∷ bs) =
    ap (λ d. (c ∷ cs) ∷ others (c ∷ cs) d) (distinct-push names (b ∷ bs)) ∙ others-with_used (c ∷ cs) (distinct names) (b ∷ bs)

pub distinct-append : (names more : List (List ℕ)) → distinct (names ++ more) ≡ fold with_name (distinct names) more
distinct-append names [] = ap distinct (append-nil names)
distinct-append names (n ∷ more) =
    sym (ap distinct (append_assoc names (n ∷ []) more)) ∙ distinct-append (names ++ n ∷ []) more ∙ ap (λ d. fold with_name d more) (distinct-push names n)

-- names that are distinct stay so
distinct-fold : (names more : List (List ℕ)) → distinct names ≡ names → distinct (fold with_name names more) ≡ fold with_name names more
distinct-fold names [] once = once
distinct-fold names ([] ∷ more) once = distinct-fold names more once
distinct-fold names ((b ∷ bs) ∷ more) once = distinct-fold (with_used names (b ∷ bs)) more (by (list_any (bytes_eq (b ∷ bs)) names) refl)
  where
    by : (used : Bool) → list_any (bytes_eq (b ∷ bs)) names ≡ used → distinct (with_used names (b ∷ bs)) ≡ with_used names (b ∷ bs)
    by true u = rw u once
    by false u = rw u (distinct-push names (b ∷ bs) ∙ rw (once, u) refl)

pub distinct-distinct : (names : List (List ℕ)) → distinct (distinct names) ≡ distinct names
unfolding distinct
distinct-distinct names =
    let all = distinct-append [] names in
    ap distinct all ∙ distinct-fold (distinct []) names refl ∙ sym all

-- the distinct names stand for all that were used
pub distinct-append_left : (names more : List (List ℕ)) → distinct (distinct names ++ more) ≡ distinct (names ++ more)
distinct-append_left names more =
    distinct-append (distinct names) more ∙ ap (λ d. fold with_name d more) (distinct-distinct names) ∙ sym (distinct-append names more)

-- the names before one, by whether the first is it
before-here : (n m : List ℕ) (names : List (List ℕ)) → bytes_eq n m ≡ true → before n (m ∷ names) ≡ []
before-here n m names e = take_while-cons (λ other. not (bytes_eq n other)) m names ∙ ap (λ b. cond (not b) (m ∷ before n names) []) e

before-cons : (n m : List ℕ) (names : List (List ℕ)) → bytes_eq n m ≡ false → before n (m ∷ names) ≡ m ∷ before n names
before-cons n m names e = take_while-cons (λ other. not (bytes_eq n other)) m names ∙ ap (λ b. cond (not b) (m ∷ before n names) []) e

-- more names after one that is there change nothing before it
pub before-append : (n : List ℕ) (names more : List (List ℕ)) → list_any (bytes_eq n) names ≡ true → before n (names ++ more) ≡ before n names
before-append n [] more h = absurd (false≢true h)
before-append n (m ∷ names) more h = by (bytes_eq n m) refl (before-append n names more)
  where
    by : (same : Bool) → bytes_eq n m ≡ same → (list_any (bytes_eq n) names ≡ true → before n (names ++ more) ≡ before n names) → before n (m ∷ names ++ more) ≡ before n (m ∷ names)
    by true e rest = before-here n m (names ++ more) e ∙ sym (before-here n m names e)
    by false e rest =
        let there : list_any (bytes_eq n) names ≡ true = sym (ap (λ b. b || list_any (bytes_eq n) names) e) ∙ h in
        before-cons n m (names ++ more) e ∙ ap (λ d. m ∷ d) (rest there) ∙ sym (before-cons n m names e)

-- before a new name all the others are used
pub before-push : (n : List ℕ) (names : List (List ℕ)) → list_any (bytes_eq n) names ≡ false → before n (names ++ n ∷ []) ≡ names
before-push n [] h = before-here n n [] (same_refl n)
before-push n (m ∷ names) h =
    let parts = or_parts (bytes_eq n m) (list_any (bytes_eq n) names) h in
    before-cons n m (names ++ n ∷ []) parts.0 ∙ ap (λ d. m ∷ d) (before-push n names parts.1)

-- a name that is there stands behind those before it
pub before-split : (n : List ℕ) (names : List (List ℕ)) → list_any (bytes_eq n) names ≡ true → (more : List (List ℕ)) × (names ≡ before n names ++ n ∷ more)
before-split n [] h = absurd (false≢true h)
before-split n (m ∷ names) h = by (bytes_eq n m) refl (before-split n names)
  where
    by : (same : Bool) → bytes_eq n m ≡ same → (list_any (bytes_eq n) names ≡ true → (more : List (List ℕ)) × (names ≡ before n names ++ n ∷ more)) → (more : List (List ℕ)) × (m ∷ names ≡ before n (m ∷ names) ++ n ∷ more)
    by true e rest = (names, ap (λ d. d ∷ names) (sym (same_true n m e)) ∙ ap (λ d. d ++ n ∷ names) (sym (before-here n m names e)))
    by false e rest =
        let there = rest (sym (ap (λ b. b || list_any (bytes_eq n) names) e) ∙ h) in
        (there.0, ap (λ d. m ∷ d) there.1 ∙ ap (λ d. d ++ n ∷ there.0) (sym (before-cons n m names e)))

-- those before a name do not have it
pub list_any-before : (n : List ℕ) (names : List (List ℕ)) → list_any (bytes_eq n) (before n names) ≡ false
list_any-before n [] = refl
list_any-before n (m ∷ names) = by (bytes_eq n m) refl (list_any-before n names)
  where
    by : (same : Bool) → bytes_eq n m ≡ same → list_any (bytes_eq n) (before n names) ≡ false → list_any (bytes_eq n) (before n (m ∷ names)) ≡ false
    by true e rest = ap (list_any (bytes_eq n)) (before-here n m names e)
    by false e rest = ap (list_any (bytes_eq n)) (before-cons n m names e) ∙ or_from _ _ e rest

-- the names without one, by whether the first is it
others-here : (m d : List ℕ) (names : List (List ℕ)) → bytes_eq m d ≡ true → others m (d ∷ names) ≡ others m names
others-here m d names e = ap (λ b. cond (not b) (d ∷ others m names) (others m names)) e

others-cons : (m d : List ℕ) (names : List (List ℕ)) → bytes_eq m d ≡ false → others m (d ∷ names) ≡ d ∷ others m names
others-cons m d names e = ap (λ b. cond (not b) (d ∷ others m names) (others m names)) e

-- taking another name out of those before one
before-others : (n m : List ℕ) (names : List (List ℕ)) → bytes_eq n m ≡ false → before n (others m names) ≡ others m (before n names)
before-others n m [] apart = refl
before-others n m (d ∷ names) apart = by (bytes_eq m d) refl (bytes_eq n d) refl (before-others n m names apart)
  where
    by : (out : Bool) → bytes_eq m d ≡ out → (same : Bool) → bytes_eq n d ≡ same → before n (others m names) ≡ others m (before n names) → before n (others m (d ∷ names)) ≡ others m (before n (d ∷ names))
    by true o same e rest =
        let apart' = subst (λ x. bytes_eq n x ≡ false) (same_true m d o) apart in
        ap (before n) (others-here m d names o) ∙ rest ∙ sym (ap (others m) (before-cons n d names apart') ∙ others-here m d (before n names) o)
    by false o true e rest = ap (before n) (others-cons m d names o) ∙ before-here n d (others m names) e ∙ sym (ap (others m) (before-here n d names e))
    by false o false e rest =
        ap (before n) (others-cons m d names o) ∙ before-cons n d (others m names) e ∙ ap (λ x. d ∷ x) rest
        ∙ sym (ap (others m) (before-cons n d names e) ∙ others-cons m d (before n names) o)

-- the distinct names before one
pub before-distinct : (b : ℕ) (bs : List ℕ) (names : List (List ℕ)) → before (b ∷ bs) (distinct names) ≡ distinct (before (b ∷ bs) names)
unfolding distinct
before-distinct b bs [] = refl
before-distinct b bs ([] ∷ names) = before-distinct b bs names ∙ sym (ap distinct (before-cons (b ∷ bs) [] names refl))
before-distinct b bs ((c ∷ cs) ∷ names) = by (bytes_eq (b ∷ bs) (c ∷ cs)) refl (before-distinct b bs names)
  where
    by : (same : Bool) → bytes_eq (b ∷ bs) (c ∷ cs) ≡ same → before (b ∷ bs) (distinct names) ≡ distinct (before (b ∷ bs) names)
        → before (b ∷ bs) ((c ∷ cs) ∷ others (c ∷ cs) (distinct names)) ≡ distinct (before (b ∷ bs) ((c ∷ cs) ∷ names))
    by true e rest = before-here (b ∷ bs) (c ∷ cs) (others (c ∷ cs) (distinct names)) e ∙ sym (ap distinct (before-here (b ∷ bs) (c ∷ cs) names e))
    by false e rest =
        before-cons (b ∷ bs) (c ∷ cs) (others (c ∷ cs) (distinct names)) e ∙ ap (λ x. (c ∷ cs) ∷ x) (before-others (b ∷ bs) (c ∷ cs) (distinct names) e ∙ ap (others (c ∷ cs)) rest)
        ∙ sym (ap distinct (before-cons (b ∷ bs) (c ∷ cs) names e))

-- a name is among the distinct ones where it is among all
pub list_any-distinct : (b : ℕ) (bs : List ℕ) (names : List (List ℕ)) → list_any (bytes_eq (b ∷ bs)) (distinct names) ≡ list_any (bytes_eq (b ∷ bs)) names
unfolding distinct
list_any-distinct b bs [] = refl
list_any-distinct b bs ([] ∷ names) = list_any-distinct b bs names
list_any-distinct b bs ((c ∷ cs) ∷ names) = by (bytes_eq (b ∷ bs) (c ∷ cs)) refl (list_any-distinct b bs names)
  where
    by : (same : Bool) → bytes_eq (b ∷ bs) (c ∷ cs) ≡ same → list_any (bytes_eq (b ∷ bs)) (distinct names) ≡ list_any (bytes_eq (b ∷ bs)) names
        → (bytes_eq (b ∷ bs) (c ∷ cs) || list_any (bytes_eq (b ∷ bs)) (others (c ∷ cs) (distinct names))) ≡ (bytes_eq (b ∷ bs) (c ∷ cs) || list_any (bytes_eq (b ∷ bs)) names)
    by true e rest = ap (λ s. s || list_any (bytes_eq (b ∷ bs)) (others (c ∷ cs) (distinct names))) e ∙ sym (ap (λ s. s || list_any (bytes_eq (b ∷ bs)) names) e)
    by false e rest = ap (λ x. bytes_eq (b ∷ bs) (c ∷ cs) || x) (list_any-others (c ∷ cs) (b ∷ bs) (distinct names) e ∙ rest)

-- more names go behind those that are there
pub fold-behind : (names more : List (List ℕ)) → (added : List (List ℕ)) × (fold with_name names more ≡ names ++ added)
fold-behind names [] = ([], sym (append-nil names))
fold-behind names ([] ∷ more) = fold-behind names more
fold-behind names ((b ∷ bs) ∷ more) = by (list_any (bytes_eq (b ∷ bs)) names) refl (fold-behind names more) (fold-behind (names ++ (b ∷ bs) ∷ []) more)
  where
    by : (used : Bool) → list_any (bytes_eq (b ∷ bs)) names ≡ used → ((added : List (List ℕ)) × (fold with_name names more ≡ names ++ added))
        → ((added : List (List ℕ)) × (fold with_name (names ++ (b ∷ bs) ∷ []) more ≡ names ++ (b ∷ bs) ∷ [] ++ added))
        → (added : List (List ℕ)) × (fold with_name (with_used names (b ∷ bs)) more ≡ names ++ added)
    by true u old new = (old.0, ap (λ d. fold with_name (cond d names (names ++ (b ∷ bs) ∷ [])) more) u ∙ old.1)
    by false u old new =
        ((b ∷ bs) ∷ new.0, ap (λ d. fold with_name (cond d names (names ++ (b ∷ bs) ∷ [])) more) u ∙ new.1 ∙ append_assoc names ((b ∷ bs) ∷ []) new.0)

-- a name that is there, among the distinct ones: behind those used before it
pub distinct-at : (b : ℕ) (bs : List ℕ) (names : List (List ℕ)) → list_any (bytes_eq (b ∷ bs)) names ≡ true
    → (added : List (List ℕ)) × (distinct names ≡ distinct (before (b ∷ bs) names) ++ (b ∷ bs) ∷ added)
distinct-at b bs names h =
    let n = b ∷ bs in
    let front = distinct (before n names) in
    let split = before-split n names h in
    let unused = list_any-distinct b bs (before n names) ∙ list_any-before n names in
    let behind = fold-behind (front ++ n ∷ []) split.0 in (
      behind.0,
      ap distinct split.1 ∙ distinct-append (before n names) (n ∷ split.0) ∙ ap (λ u. fold with_name (cond u front (front ++ n ∷ [])) split.0) unused
          ∙ behind.1 ∙ append_assoc front (n ∷ []) behind.0,
    )

-- How the chains grow with the names, and what a walk along one finds.
use Rattle.std.proofs.Common.{◌≡◌, ◌+◌, ◌<◌, ◌≤◌, ℕ, Bool, true, false, cond, eqb, Option, Some, None, refl, sym, ap, ◌∙◌, subst, arith, inl, inr, ⊎_elim}
use Rattle.std.specs.Prelude.{◌⊎◌}
use Rattle.std.proofs.lemmas.Bool.{cases_lt, eq-eqb, eqb-true, eqb-false}
use Rattle.strtab_shared.specs.Chains.{past, IsLast, FollowsSameHash, FollowsWith, IsIndexed}

none_some : {A : Type 0} (x : A) → ◌≡◌ {A = Option A} None (Some x) → ⊥
none_some x is = cc

some_same : (x y : ℕ) → Some x ≡ Some y → x ≡ y
some_same x y is = cc

-- what holds of the same indexes has the same last one
pub last_as : (P Q : ℕ → Type 0) (bound : ℕ) (last : Option ℕ)
    → ((i : ℕ) → i < bound → P i → Q i) → ((i : ℕ) → i < bound → Q i → P i)
    → IsLast P bound last → IsLast Q bound last
last_as P Q bound last to from l = record {
  one = λ i is. let found = l.one i is in (found.0, to i found.0 found.1);
  others = λ i lt q. l.others i lt (from i lt q);
}

-- nothing is indexed of no name
pub indexed_none : (hash digest : ℕ → ℕ) (older first newest : ℕ → Option ℕ)
    → ((q : ℕ) → first q ≡ None) → ((q : ℕ) → newest q ≡ None)
    → IsIndexed 0 hash digest older first newest
indexed_none hash digest older first newest no_first no_newest = record {
  known = λ i lt. absurd (omega (arith, lt));
  below = λ h i is. absurd (none_some i (sym (no_first h) ∙ is));
  heads = λ d. record {
    one = λ i is. absurd (none_some i (sym (no_newest d) ∙ is));
    others = λ i lt. absurd (omega (arith, lt));
  };
  links = λ i lt. absurd (omega (arith, lt));
}

-- ---- A name more

module _ (count count' : ℕ) (hash hash' digest digest' : ℕ → ℕ)
    (older older' first newest : ℕ → Option ℕ)
    (more : count' ≡ count + 1)
    (same_hash : (i : ℕ) → i < count → hash' i ≡ hash i)
    (same_digest : (i : ℕ) → i < count → digest' i ≡ digest i)
    (same_older : (i : ℕ) → i < count → older' i ≡ older i)
    (old : IsIndexed count hash digest older first newest) where
  split : (i : ℕ) (C : Type 0) → i < count' → (i < count → C) → (i ≡ count → C) → C
  split i C lt before at =
      ⊎_elim before (λ ge. at (omega (arith, more, lt, ge))) (cases_lt i count)

  -- the chain of a digest after it: the name is its last one, or the chain is as it was
  abbrev Heads : (ℕ → Option ℕ) → (ℕ → Option ℕ) → ℕ → Type 0
  Heads first' newest' d =
      (FollowsWith first' hash' digest' d count × (newest' d ≡ Some count))
      ⊎ ((FollowsWith first' hash' digest' d count → ⊥) × (newest' d ≡ newest d))

  -- whether its hash is a new one or not
  module _ (first' newest' : ℕ → Option ℕ)
      (same_first : (i : ℕ) → i < count → first' (hash' i) ≡ first (hash i))
      (noted : first' (hash' count) ≡ None → ⊥)
      (below' : (h i : ℕ) → first' h ≡ Some i → i < count')
      (head : (d : ℕ) → Heads first' newest' d)
      (linked : FollowsSameHash first' hash' count → older' count ≡ newest (digest' count)) where
    to : (d i : ℕ) → i < count → FollowsWith first hash digest d i
        → FollowsWith first' hash' digest' d i
    to d i lt f = (λ is. f.0 (sym (same_first i lt) ∙ is), same_digest i lt ∙ f.1)

    from : (d i : ℕ) → i < count → FollowsWith first' hash' digest' d i
        → FollowsWith first hash digest d i
    from d i lt f = (λ is. f.0 (same_first i lt ∙ is), sym (same_digest i lt) ∙ f.1)

    -- the last one of those before, among these
    before : (d bound : ℕ) → bound ≤ count → (o o' : Option ℕ) → o' ≡ o
        → IsLast (FollowsWith first hash digest d) bound o
        → IsLast (FollowsWith first' hash' digest' d) bound o'
    before d bound le o o' is last =
        subst (IsLast (FollowsWith first' hash' digest' d) bound) (sym is)
        (last_as (FollowsWith first hash digest d) (FollowsWith first' hash' digest' d) bound o
        (λ i lt. to d i (omega (arith, lt, le))) (λ i lt. from d i (omega (arith, lt, le)))
        last)

    known' : (i : ℕ) → i < count' → first' (hash' i) ≡ None → ⊥
    known' i lt none =
        split i ⊥ lt (λ l. old.known i l (sym (same_first i l) ∙ none))
        (λ at. noted (ap (λ (j : ℕ). first' (hash' j)) (sym at) ∙ none))

    heads' : (d : ℕ) → IsLast (FollowsWith first' hash' digest' d) count' (newest' d)
    heads' d = ⊎_elim here other (head d)
      where
        here : FollowsWith first' hash' digest' d count × (newest' d ≡ Some count)
            → IsLast (FollowsWith first' hash' digest' d) count' (newest' d)
        here h = record {
          one = λ i found. let same : count ≡ i = some_same count i (sym h.1 ∙ found) in (
            omega (arith, more, same),
            subst (FollowsWith first' hash' digest' d) same h.0,
          );
          others = λ i lt f. let past_is = ap past h.1 in omega (arith, more, lt, past_is);
        }

        other : (FollowsWith first' hash' digest' d count → ⊥) × (newest' d ≡ newest d)
            → IsLast (FollowsWith first' hash' digest' d) count' (newest' d)
        other h =
            let last = before d count (omega arith) (newest d) (newest' d) h.1 (old.heads d) in
            record {
              one = λ i found. let one = last.one i found in (
                omega (arith, more, one.0),
                one.1,
              );
              others = λ i lt f. split i (i < past (newest' d)) lt (λ l. last.others i l f)
                  (λ at. absurd (h.0 (subst (FollowsWith first' hash' digest' d) at f)));
            }

    links' : (i : ℕ) → i < count' → FollowsSameHash first' hash' i
        → IsLast (FollowsWith first' hash' digest' (digest' i)) i (older' i)
    links' i lt f =
        split i (IsLast (FollowsWith first' hash' digest' (digest' i)) i (older' i)) lt
        (λ l. subst (λ (d : ℕ). IsLast (FollowsWith first' hash' digest' d) i (older' i))
        (sym (same_digest i l)) (before (digest i) i (omega (arith, l)) (older i) (older' i)
        (same_older i l) (old.links i l (λ is. f (same_first i l ∙ is)))))
        (λ at. subst (λ (j : ℕ). IsLast (FollowsWith first' hash' digest' (digest' j)) j
        (older' j)) (sym at) (before (digest' count) count (omega arith)
        (newest (digest' count)) (older' count) (linked (subst (FollowsSameHash first' hash') at f))
        (old.heads (digest' count))))

    indexed_more : IsIndexed count' hash' digest' older' first' newest'
    indexed_more = record { known = known'; below = below'; heads = heads'; links = links' }

  -- its hash is a new one
  module _ (first' : ℕ → Option ℕ) (free : first (hash' count) ≡ None)
      (noted : (q : ℕ) → first' q ≡ cond (eqb (hash' count) q) (Some count) (first q)) where
    first_there : first' (hash' count) ≡ Some count
    first_there =
        noted (hash' count)
        ∙ ap (λ b. cond b (Some count) (first (hash' count)))
        (eq-eqb (hash' count) (hash' count) refl)

    first_same : (i : ℕ) → i < count → first' (hash' i) ≡ first (hash i)
    first_same i lt =
        noted (hash' i) ∙ at (eqb (hash' count) (hash' i)) refl
        ∙ ap first (same_hash i lt)
      where
        at : (b : Bool) → eqb (hash' count) (hash' i) ≡ b
            → cond b (Some count) (first (hash' i)) ≡ first (hash' i)
        at true is = absurd (old.known i lt (ap first (sym (same_hash i lt)
            ∙ sym (eqb-true (hash' count) (hash' i) is)) ∙ free))
        at false is = refl

    first_below : (h i : ℕ) → first' h ≡ Some i → i < count'
    first_below h i is = at (eqb (hash' count) h) (sym (noted h) ∙ is)
      where
        at : (b : Bool) → cond b (Some count) (first h) ≡ Some i → i < count'
        at true is = let same : count ≡ i = cc in omega (arith, more, same)
        at false is = let lt = old.below h i is in omega (arith, more, lt)

    pub indexed_first : IsIndexed count' hash' digest' older' first' newest
    indexed_first =
        indexed_more first' newest first_same (λ none. none_some count (sym none ∙ first_there))
        first_below (λ d. inr (λ f. f.0 first_there, refl)) (λ f. absurd (f first_there))

  -- its hash is noted for another one
  module _ (newest' : ℕ → Option ℕ) (taken : first (hash' count) ≡ None → ⊥)
      (linked : older' count ≡ newest (digest' count))
      (noted : (q : ℕ) → newest' q ≡ cond (eqb (digest' count) q) (Some count) (newest q)) where
    follows : FollowsSameHash first hash' count
    follows is = let lt = old.below (hash' count) count is in omega (arith, lt)

    followed : (d : ℕ) → Heads first newest' d
    followed d = at (eqb (digest' count) d) refl (noted d)
      where
        at : (b : Bool) → eqb (digest' count) d ≡ b
            → newest' d ≡ cond b (Some count) (newest d) → Heads first newest' d
        at true is new = inl ((follows, eqb-true (digest' count) d is), new)
        at false is new = inr (λ f. eqb-false (digest' count) d is f.1, new)

    pub indexed_follower : IsIndexed count' hash' digest' older' first newest'
    indexed_follower =
        indexed_more first newest' (λ i lt. ap first (same_hash i lt)) taken
        (λ h i is. let lt = old.below h i is in omega (arith, more, lt)) followed (λ f. linked)

-- ---- A walk along a chain

-- a walk for something, among some indexes that have it: the cursor is one of them, and each that
-- has it is not passed
pub record Walks (holds sought : ℕ → Type 0) (count : ℕ) (cursor : Option ℕ) : Type 0 where
  pub one : (i : ℕ) → cursor ≡ Some i → (i < count) × holds i
  pub ahead : (i : ℕ) → i < count → holds i → sought i → i < past cursor

pub walk_begins : (holds sought : ℕ → Type 0) (count : ℕ) (cursor : Option ℕ)
    → IsLast holds count cursor → Walks holds sought count cursor
walk_begins holds sought count cursor last =
    record { one = last.one; ahead = λ i lt h s. last.others i lt h }

pub walk_steps : (holds sought : ℕ → Type 0) (count i : ℕ) (older : Option ℕ)
    → Walks holds sought count (Some i) → (sought i → ⊥) → IsLast holds i older
    → Walks holds sought count older
walk_steps holds sought count i older w other link = record {
  one = λ k is. let found = link.one k is in (
    omega (arith, found.0, (w.one i refl).0),
    found.1,
  );
  ahead = λ k lt h s. let here = w.ahead k lt h s in
      ⊎_elim (λ (l : k < i). link.others k l h)
      (λ (ge : i ≤ k). let same : k ≡ i = omega (arith, here, ge) in
      absurd (other (subst sought same s))) (cases_lt k i);
}

pub walk_ends : (holds sought : ℕ → Type 0) (count : ℕ) → Walks holds sought count None
    → (i : ℕ) → i < count → holds i → sought i → ⊥
walk_ends holds sought count w i lt h s =
    let here = w.ahead i lt h s in omega (arith, here)

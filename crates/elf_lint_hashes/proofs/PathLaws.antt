-- What is known of the chains of a hash section of type SHT_HASH by their symbols.
use Rattle.std.proofs.Common.{◌≡◌, ◌⊎◌, inl, inr, ℕ, zero, suc, ◌+◌, ◌<◌, ◌≤◌, ◌==◌, ◌||◌, not, Bool, true, false, List, [], ◌∷◌, length, get_or, set, replicate, Option, Some, None, refl, sym, ap, ◌∙◌, subst, arith}
use Rattle.std.specs.Prelude.{nat_eq, slice_get, is_some}
use Rattle.std.specs.List.{list_any}
use Rattle.std.specs.Option.{option_map}
use Rattle.std.proofs.lemmas.Bool.{eq-eqb, ne_eqb, cases_lt, cases_eq}
use Rattle.std.proofs.lemmas.List.{length-replicate, get_or-replicate, get_or-set_same, get_or-set_other, get_or_past}
use Rattle.hash_model.specs.HashSections.{sysv_chain, is_on, ends}
use Rattle.hash_model.specs.elf_object.Sections.{is_among}
use Rattle.elf_lint_hashes.specs.declared.sysv.SysvTable.{SysvTable}
use Rattle.elf_lint_hashes.specs.declared.paths.Paths.{Paths}
use Rattle.elf_lint_hashes.specs.Sysv.{sysv_section_of, chain_has, has_end, is_true}
use Rattle.elf_lint_hashes.specs.Paths.{chain_from, is_known, ArePaths, IsLeapTarget}

some_of : {A : Type 0} (r : Option A) → ends r ≡ true → (x : A) × (r ≡ Some x)
some_of None is = cc
some_of (Some x) is = (x, refl)

-- ---- Chains

module _ (chains : List ℕ) where
  abbrev on_word : ℕ → ℕ → Option ℕ → Option (List ℕ)
  on_word n at got = elim got [
    | None ↦ None
    | Some next ↦ option_map (λ (later : List ℕ). at ∷ later) (sysv_chain chains n next)
  ]

  -- one that ends does so within more steps
  longer : (n m at : ℕ) (l : List ℕ) → n ≤ m → sysv_chain chains n at ≡ Some l
      → sysv_chain chains m at ≡ Some l
  unfolding sysv_chain
  longer n m zero l le is = is
  longer zero m (suc i) l le is = cc
  longer (suc n) zero (suc i) l le is = absurd (omega arith)
  longer (suc n) (suc m) (suc i) l le is =
      by_word (λ next later h. longer n m next later (omega arith) h) (slice_get chains (suc i)) is
    where
      by_word : ((next : ℕ) (later : List ℕ) → sysv_chain chains n next ≡ Some later
          → sysv_chain chains m next ≡ Some later)
          → (got : Option ℕ) → on_word n (suc i) got ≡ Some l → on_word m (suc i) got ≡ Some l
      by_word rest None is = cc
      by_word rest (Some next) is = by_later (sysv_chain chains n next) refl is
        where
          by_later : (r : Option (List ℕ)) → sysv_chain chains n next ≡ r
              → option_map (λ (later : List ℕ). suc i ∷ later) r ≡ Some l
              → option_map (λ (later : List ℕ). suc i ∷ later) (sysv_chain chains m next) ≡ Some l
          by_later None here is = cc
          by_later (Some later) here is =
              ap (option_map (λ (later : List ℕ). suc i ∷ later)) (rest next later here) ∙ is

  ends_longer : (n m at : ℕ) → n ≤ m → ends (sysv_chain chains n at) ≡ true
      → ends (sysv_chain chains m at) ≡ true
  ends_longer n m at le is =
      let got = some_of (sysv_chain chains n at) is in
      ap (λ (r : Option (List ℕ)). ends r) (longer n m at got.0 le got.1)

  no_steps : (n : ℕ) → sysv_chain chains n 0 ≡ Some []
  unfolding sysv_chain
  no_steps n = refl

  no_end : (at : ℕ) → 0 < at → ends (sysv_chain chains 0 at) ≡ true → ⊥
  unfolding sysv_chain
  no_end zero some is = absurd (omega arith)
  no_end (suc i) some is = cc

  word_missing : (n at : ℕ) → 0 < at → slice_get chains at ≡ None
      → ends (sysv_chain chains n at) ≡ true → ⊥
  unfolding sysv_chain
  word_missing n zero some none is = absurd (omega arith)
  word_missing zero (suc i) some none is = cc
  word_missing (suc n) (suc i) some none is =
      let gone : ends (sysv_chain chains (suc n) (suc i)) ≡ false =
      ap (λ (got : Option ℕ). ends (on_word n (suc i) got)) none in
      let both = sym gone ∙ is in cc

  module _ (at next : ℕ) (some : 0 < at) (here : Some next ≡ slice_get chains at) where
    step : (n : ℕ) → sysv_chain chains (suc n) at
        ≡ option_map (λ (later : List ℕ). at ∷ later) (sysv_chain chains n next)
    unfolding sysv_chain
    step n = by_place at some here
      where
        by_place : (k : ℕ) → 0 < k → Some next ≡ slice_get chains k
            → sysv_chain chains (suc n) k
            ≡ option_map (λ (later : List ℕ). k ∷ later) (sysv_chain chains n next)
        by_place zero some here = absurd (omega arith)
        by_place (suc i) some here = ap (on_word n (suc i)) (sym here)

    ends_more : (n : ℕ) → ends (sysv_chain chains n next) ≡ true
        → ends (sysv_chain chains (suc n) at) ≡ true
    ends_more n is =
        let got = some_of (sysv_chain chains n next) is in
        ap (λ (r : Option (List ℕ)). ends r)
        (step n ∙ ap (option_map (λ (later : List ℕ). at ∷ later)) got.1)

    -- what stands behind the symbol on a chain that ends
    tail : (n : ℕ) → ends (sysv_chain chains n at) ≡ true
        → (l : List ℕ) × (m : ℕ) × (n ≡ suc m) × (sysv_chain chains m next ≡ Some l)
    tail zero is = absurd (no_end at some is)
    tail (suc m) is =
        let whole : ends (option_map (λ (later : List ℕ). at ∷ later) (sysv_chain chains m next))
        ≡ true = ap (λ (r : Option (List ℕ)). ends r) (sym (step m)) ∙ is in
        by_later (sysv_chain chains m next) refl whole
      where
        by_later : (r : Option (List ℕ)) → sysv_chain chains m next ≡ r
            → ends (option_map (λ (later : List ℕ). at ∷ later) r) ≡ true
            → (l : List ℕ) × (k : ℕ) × (suc m ≡ suc k) × (sysv_chain chains k next ≡ Some l)
        by_later None rest is = cc
        by_later (Some l) rest is = (l, m, refl, rest)

    module _ (size n : ℕ) (le : n ≤ size) (end : ends (sysv_chain chains n at) ≡ true) where
      -- the chain is the symbol, and the one from the next on
      whole : (l : List ℕ) × (sysv_chain chains size next ≡ Some l)
          × (sysv_chain chains size at ≡ Some (at ∷ l))
      whole =
          let rest = tail n end in
          let l = rest.0 in
          let m = rest.1 in
          let one = rest.2 in (
            l,
            longer m size next l (omega (arith, one, le)) rest.3,
            longer (suc m) size at (at ∷ l) (omega (arith, one, le))
                (step m ∙ ap (option_map (λ (later : List ℕ). at ∷ later)) rest.3),
          )

      among_more : (l : List ℕ) (i : ℕ) → is_among l i ≡ true → is_among (at ∷ l) i ≡ true
      unfolding is_among
      among_more l i is = by_test (nat_eq i at)
        where
          by_test : (b : Bool) → (b || list_any (nat_eq i) l) ≡ true
          by_test true = refl
          by_test false = is

      next_on : (i : ℕ) → is_on i (sysv_chain chains size next) ≡ true
          → is_on i (sysv_chain chains size at) ≡ true
      next_on i on =
          ap (is_on i) whole.2 ∙ among_more whole.0 i (sym (ap (is_on i) whole.1) ∙ on)

      among_first : (l : List ℕ) → is_among (at ∷ l) at ≡ true
      unfolding is_among
      among_first l = ap (λ (b : Bool). b || list_any (nat_eq at) l) (eq-eqb at at refl)

      self_on : is_on at (sysv_chain chains size at) ≡ true
      self_on = ap (is_on at) whole.2 ∙ among_first whole.0

-- ---- What is known

-- none of so many zeros
pub zero_at : (n i : ℕ) (l : List ℕ) → l ≡ replicate n 0 → get_or l i 0 ≡ 0
zero_at n i l is = ap (λ (m : List ℕ). get_or m i 0) is ∙ by_place (cases_lt i n)
  where
    by_place : (i < n) ⊎ (n ≤ i) → ◌≡◌ {A = ℕ} (get_or (replicate n 0) i 0) 0
    by_place (inl below) = get_or-replicate n i 0 0 below
    by_place (inr past) =
        get_or_past (replicate n 0) i 0 (omega (arith, past, length-replicate {A = ℕ} n 0))

module _ (words : List ℕ) (t : SysvTable) where
  abbrev chains : List ℕ
  chains = (sysv_section_of t words).chains

  pub paths_none : (p : Paths) → ((i : ℕ) → get_or p.steps i 0 ≡ 0)
      → ((i : ℕ) → get_or p.leaps i 0 ≡ 0) → ArePaths words t p
  unfolding is_among
  paths_none p steps leaps = record {
    ended = λ at some. absurd (omega (arith, some, steps at));
    within = λ at. omega (arith, steps at);
    leads = λ at i on.
        let none : is_on i (chain_from words t (get_or p.leaps at 0)) ≡ false =
        ap (λ (k : ℕ). is_on i (chain_from words t k)) (leaps at)
        ∙ ap (is_on i) (no_steps chains t.nchain) in
        let both = sym none ∙ on in cc;
  }

  module _ (p : Paths) (are : ArePaths words t p) where
    -- a chain that is known to end does so within the steps that are told of its first symbol
    by_steps : (at : ℕ) → is_known p at ≡ true
        → ends (sysv_chain chains (get_or p.steps at 0) at) ≡ true
    by_steps at is = by_place (cases_lt 0 at)
      where
        by_test : (b : Bool) → (get_or p.steps at 0 == 0) ≡ b → (at == 0) ≡ false
            → (at == 0 || not b) ≡ true → 0 < get_or p.steps at 0
        by_test true none other known =
            let both = sym (ap (λ (c : Bool). c || false) other) ∙ known in cc
        by_test false none other known = by_number (get_or p.steps at 0) none
          where
            by_number : (n : ℕ) → (n == 0) ≡ false → 0 < n
            by_number zero is = cc
            by_number (suc n) is = omega arith

        by_place : (0 < at) ⊎ (at ≤ 0)
            → ends (sysv_chain chains (get_or p.steps at 0) at) ≡ true
        by_place (inl some) =
            are.ended at (by_test (get_or p.steps at 0 == 0) refl
            (ne_eqb at 0 (λ same. omega (arith, some, same))) is)
        by_place (inr none) =
            let zero_is : at ≡ 0 = omega arith in
            ap (λ (k : ℕ). ends (sysv_chain chains (get_or p.steps at 0) k)) zero_is
            ∙ ap (λ (r : Option (List ℕ)). ends r) (no_steps chains (get_or p.steps at 0))

    pub known_ends : (at : ℕ) → is_known p at ≡ true → ends (chain_from words t at) ≡ true
    known_ends at is =
        ends_longer chains (get_or p.steps at 0) t.nchain at (are.within at) (by_steps at is)

    pub known_end : (at : ℕ) → is_known p at ≡ true → true ≡ has_end words t at
    unfolding has_end chain_has
    known_end at is =
        let got = some_of (chain_from words t at) (known_ends at is) in
        sym (ap (λ (r : Option (List ℕ)). is_some (option_map (λ (l : List ℕ). is_among l 0) r))
        got.1)

    -- what is on the chain from the next symbol on is on that of a known one
    pub next_leads : (at next : ℕ) → 0 < at → is_known p at ≡ true → Some next ≡ slice_get chains at
        → (i : ℕ) → is_on i (chain_from words t next) ≡ true
        → is_on i (chain_from words t at) ≡ true
    next_leads at next some known here i on =
        next_on chains at next some here t.nchain (get_or p.steps at 0) (are.within at)
        (by_steps at known) i on

    pub self_leads : (at : ℕ) → 0 < at → is_known p at ≡ true
        → is_on at (chain_from words t at) ≡ true
    self_leads at some known = by_word (slice_get chains at) refl
      where
        by_word : (got : Option ℕ) → slice_get chains at ≡ got
            → is_on at (chain_from words t at) ≡ true
        by_word None none =
            absurd (word_missing chains (get_or p.steps at 0) at some none (by_steps at known))
        by_word (Some next) here =
            self_on chains at next some (sym here) t.nchain (get_or p.steps at 0) (are.within at)
            (by_steps at known)

    -- and what is on that of one behind
    behind_leads : (next leap : ℕ) → IsLeapTarget p next leap
        → (i : ℕ) → is_on i (chain_from words t leap) ≡ true
        → is_on i (chain_from words t next) ≡ true
    behind_leads next leap (inl same) i on =
        subst (λ (k : ℕ). is_on i (chain_from words t k) ≡ true) same on
    behind_leads next leap (inr far) i on =
        are.leads next i (are.leads (get_or p.leaps next 0) i
        (subst (λ (k : ℕ). is_on i (chain_from words t k) ≡ true) far on))

    module _ (q : Paths) (at next steps leap : ℕ) (some : 0 < at)
        (here : Some next ≡ slice_get chains at) (known : is_known p next ≡ true)
        (told : steps ≡ get_or p.steps next 0) (room : steps < t.nchain)
        (behind : IsLeapTarget p next leap) (there : at < length p.steps) (place : at < length p.leaps)
        (more : q.steps ≡ set p.steps at (steps + 1)) (far : q.leaps ≡ set p.leaps at leap) where
      ends_here : ends (sysv_chain chains (steps + 1) at) ≡ true
      ends_here =
          let one : steps + 1 ≡ suc steps = omega arith in
          ap (λ (n : ℕ). ends (sysv_chain chains n at)) one
          ∙ ends_more chains at next some here steps
          (ap (λ (n : ℕ). ends (sysv_chain chains n next)) told ∙ by_steps next known)

      leads_here : (i : ℕ) → is_on i (chain_from words t leap) ≡ true
          → is_on i (chain_from words t at) ≡ true
      leads_here i on =
          next_on chains at next some here t.nchain (steps + 1) (omega (arith, room)) ends_here i
          (behind_leads next leap behind i on)

      steps_of : (k : ℕ) → ((k ≡ at) × (get_or q.steps k 0 ≡ steps + 1))
          ⊎ (get_or q.steps k 0 ≡ get_or p.steps k 0)
      steps_of k = by_place (cases_eq k at)
        where
          by_place : (k ≡ at) ⊎ (k ≡ at → ⊥)
              → ((k ≡ at) × (get_or q.steps k 0 ≡ steps + 1))
              ⊎ (get_or q.steps k 0 ≡ get_or p.steps k 0)
          by_place (inl same) =
              inl (
                same,
                ap (λ (l : List ℕ). get_or l k 0) more
                    ∙ ap (λ (j : ℕ). get_or (set p.steps at (steps + 1)) j 0) same
                    ∙ get_or-set_same p.steps at (steps + 1) 0 there,
              )
          by_place (inr other) =
              inr (ap (λ (l : List ℕ). get_or l k 0) more
              ∙ get_or-set_other p.steps at k (steps + 1) 0 other)

      ended_at : (k : ℕ) → ((k ≡ at) × (get_or q.steps k 0 ≡ steps + 1))
          ⊎ (get_or q.steps k 0 ≡ get_or p.steps k 0)
          → 0 < get_or q.steps k 0 → ends (sysv_chain chains (get_or q.steps k 0) k) ≡ true
      ended_at k (inl both) some =
          ap (λ (n : ℕ). ends (sysv_chain chains n k)) both.1
          ∙ ap (λ (j : ℕ). ends (sysv_chain chains (steps + 1) j)) both.0 ∙ ends_here
      ended_at k (inr same) some =
          ap (λ (n : ℕ). ends (sysv_chain chains n k)) same
          ∙ are.ended k (omega (arith, some, same))

      within_at : (k : ℕ) → ((k ≡ at) × (get_or q.steps k 0 ≡ steps + 1))
          ⊎ (get_or q.steps k 0 ≡ get_or p.steps k 0) → get_or q.steps k 0 ≤ t.nchain
      within_at k (inl both) = let n = both.1 in omega (arith, n, room)
      within_at k (inr same) = omega (arith, same, are.within k)

      leads_at : (k i : ℕ) → (k ≡ at) ⊎ (k ≡ at → ⊥)
          → is_on i (chain_from words t (get_or q.leaps k 0)) ≡ true
          → is_on i (chain_from words t k) ≡ true
      leads_at k i (inl same) on =
          let leap_is : get_or q.leaps k 0 ≡ leap =
          ap (λ (l : List ℕ). get_or l k 0) far
          ∙ ap (λ (j : ℕ). get_or (set p.leaps at leap) j 0) same
          ∙ get_or-set_same p.leaps at leap 0 place in
          ap (λ (j : ℕ). is_on i (chain_from words t j)) same
          ∙ leads_here i (sym (ap (λ (j : ℕ). is_on i (chain_from words t j)) leap_is) ∙ on)
      leads_at k i (inr other) on =
          let leap_is : get_or q.leaps k 0 ≡ get_or p.leaps k 0 =
          ap (λ (l : List ℕ). get_or l k 0) far ∙ get_or-set_other p.leaps at k leap 0 other in
          are.leads k i (sym (ap (λ (j : ℕ). is_on i (chain_from words t j)) leap_is) ∙ on)

      -- one symbol more is known
      pub paths_more : ArePaths words t q
      paths_more = record {
        ended = λ k some. ended_at k (steps_of k) some;
        within = λ k. within_at k (steps_of k);
        leads = λ k i on. leads_at k i (cases_eq k at) on;
      }

  -- a symbol that is found on a chain that ends
  pub walked_on : (at i : ℕ) (found : Option Bool) → found ≡ chain_has words t at i
      → is_true found ≡ is_on i (chain_from words t at)
  unfolding chain_has
  walked_on at i found is = ap is_true is ∙ by_chain (chain_from words t at)
    where
      by_chain : (r : Option (List ℕ))
          → is_true (option_map (λ (l : List ℕ). is_among l i) r) ≡ is_on i r
      by_chain None = refl
      by_chain (Some l) = refl

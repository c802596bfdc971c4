-- Names that stand in a row from each place of a section on, and what that says of their chain.
use Rattle.std.proofs.Common.{◌≡◌, ◌⊎◌, inl, inr, ℕ, zero, suc, ◌+◌, ◌-◌, ◌<◌, ◌≤◌, ◌==◌, Bool, true, false, List, [], length, take, drop, get_or, set, replicate, Option, Some, None, Result, Ok, Err, refl, sym, ap, ◌∙◌, subst, arith}
use Rattle.std.proofs.lemmas.Bool.{lt-ltb, ne_eqb, cases_lt, cases_eq}
use Rattle.std.proofs.lemmas.List.{length-replicate, get_or-replicate, get_or-set_same, get_or-set_other, get_or_past}
use Rattle.elf_types.specs.declared.errors.ElfError.{ElfError}
use Rattle.elf_types.specs.declared.errors.ElfError.TheVariants.{BadChain}
use Rattle.elf_types.specs.declared.records.Kind.TheVariants as kinds
use Rattle.elf_types.specs.Answers.{answered, refused_if, ◌>>=◌}
use Rattle.elf_lint_findings.specs.elf_object.Words.{result_map}
use Rattle.elf_lint_findings.specs.elf_object.Object.{Object}
use Rattle.elf_lint_findings.specs.elf_object.Answers.{bytes_of, items_at, lend_refusal}
use Rattle.elf_lint_findings.specs.gelf_view.declared.aux.AuxPlace.{AuxPlace}
use Rattle.elf_lint_findings.specs.gelf_view.declared.versions.Verdaux.{Verdaux}
use Rattle.elf_lint_findings.specs.gelf_view.declared.versions.Vernaux.{Vernaux}
use Rattle.elf_lint_findings.specs.gelf_view.declared.versions.TheConstants.{VERDAUX_SIZE, VERNAUX_SIZE}
use Rattle.elf_lint_findings.specs.gelf_view.Records.{record_at}
use Rattle.elf_lint_findings.specs.gelf_view.Versions.{verdaux_at, verdaux_of, vernaux_at, vernaux_of}
use Rattle.elf_lint_findings.specs.gelf_view.Calls.{verdaux_answer, vernaux_answer}
use Rattle.elf_lint_findings.specs.gelf_view.Chains.{aux_upto, first_aux, led_by, leading, verdauxs, vernauxs}
use Rattle.elf_lint_findings.specs.Looking.{data_bytes, if_lent}
use Rattle.elf_lint_links.specs.Chains.Chains.{bad_place}
use Rattle.elf_lint_links.specs.Chains.Reach.{next_found, verdaux_next, vernaux_next, stand, IsReach}

-- ---- Names in a row

module _ (next_at : ℕ → Option ℕ) where
  abbrev behind : ℕ → ℕ → Option ℕ → Bool
  behind n at r = elim r [ None ↦ false | Some next ↦ stand next_at n (at + next) (next == 0) ]

  -- fewer do too
  pub fewer : (n m at : ℕ) (last : Bool) → m ≤ n → stand next_at n at last ≡ true
      → stand next_at m at last ≡ true
  unfolding stand
  fewer n zero at last le is = refl
  fewer zero (suc m) at last le is = absurd (omega arith)
  fewer (suc n) (suc m) at true le is = cc
  fewer (suc n) (suc m) at false le is =
      by_next (λ place last. fewer n m place last (omega arith)) (next_at at) is
    where
      by_next : ((place : ℕ) (last : Bool) → stand next_at n place last ≡ true
          → stand next_at m place last ≡ true)
          → (r : Option ℕ) → behind n at r ≡ true → behind m at r ≡ true
      by_next rest None is = cc
      by_next rest (Some next) is = rest (at + next) (next == 0) is

  -- a name, and those behind it
  one_more : (n at next : ℕ) → next_at at ≡ Some next
      → stand next_at n (at + next) (next == 0) ≡ true → stand next_at (suc n) at false ≡ true
  unfolding stand
  one_more n at next here is = ap (behind n at) here ∙ is

  pub stand_none : (at : ℕ) → stand next_at 0 at false ≡ true
  unfolding stand
  stand_none at = refl

  pub stand_one : (at next : ℕ) → Some next ≡ next_at at → stand next_at 1 at false ≡ true
  unfolding stand
  stand_one at next here = one_more 0 at next (sym here) refl

  module _ (reach : List ℕ) (are : IsReach next_at reach) where
    pub stand_more : (at next steps n : ℕ) → Some next ≡ next_at at → (next ≡ 0 → ⊥)
        → steps ≡ get_or reach (at + next) 0 → 0 < n → n ≤ steps + 1
        → stand next_at n at false ≡ true
    stand_more at next steps n here other is some le =
        let m = n - 1 in
        let one : n ≡ suc m = omega (arith, some) in
        let rest : stand next_at steps (at + next) false ≡ true =
        subst (λ (k : ℕ). stand next_at k (at + next) false ≡ true) (sym is) (are (at + next)) in
        ap (λ (k : ℕ). stand next_at k at false) one
        ∙ one_more m at next (sym here)
        (ap (λ (last : Bool). stand next_at m (at + next) last) (ne_eqb next 0 other)
        ∙ fewer steps m (at + next) false (omega (arith, le)) rest)

    -- one place is told anew
    pub reach_more : (at n : ℕ) (after : List ℕ) → at < length reach → after ≡ set reach at n
        → stand next_at n at false ≡ true → IsReach next_at after
    reach_more at n after there is here p =
        ap (λ (l : List ℕ). stand next_at (get_or l p 0) p false) is ∙ by_place (cases_eq p at)
      where
        by_place : (p ≡ at) ⊎ (p ≡ at → ⊥)
            → stand next_at (get_or (set reach at n) p 0) p false ≡ true
        by_place (inl same) =
            ap (λ (k : ℕ). stand next_at (get_or (set reach at n) k 0) k false) same
            ∙ ap (λ (k : ℕ). stand next_at k at false) (get_or-set_same reach at n 0 there)
            ∙ here
        by_place (inr other) =
            ap (λ (k : ℕ). stand next_at k p false) (get_or-set_other reach at p n 0 other)
            ∙ are p

    -- as many as are wanted
    pub reach_there : (at n : ℕ) → n ≤ get_or reach at 0 → stand next_at n at false ≡ true
    reach_there at n le = fewer (get_or reach at 0) n at false le (are at)

  -- none is told of any place
  pub reach_none : (count : ℕ) (reach : List ℕ) → reach ≡ replicate count 0
      → IsReach next_at reach
  reach_none count reach is p =
      ap (λ (l : List ℕ). stand next_at (get_or l p 0) p false) is ∙ by_place (cases_lt p count)
    where
      by_place : (p < count) ⊎ (count ≤ p)
          → stand next_at (get_or (replicate count 0) p 0) p false ≡ true
      by_place (inl below) =
          ap (λ (k : ℕ). stand next_at k p false) (get_or-replicate count p 0 0 below)
          ∙ stand_none p
      by_place (inr past) =
          ap (λ (k : ℕ). stand next_at k p false)
          (get_or_past (replicate count 0) p 0 (omega (arith, past, length-replicate {A = ℕ} count 0)))
          ∙ stand_none p

-- ---- Their chain

module _ {A : Type 0} (read : ℕ → Result A ElfError) (next : A → ℕ) (next_at : ℕ → Option ℕ)
    (links : (at k : ℕ) → next_at at ≡ Some k → (x : A) × (read at ≡ Ok x) × (next x ≡ k)) where
  -- it does not go bad
  chain_stands : (n at : ℕ) (last : Bool) → stand next_at n at last ≡ true
      → (aux_upto read next n at last).bad ≡ None
  unfolding stand aux_upto
  chain_stands zero at last is = refl
  chain_stands (suc n) at true is = cc
  chain_stands (suc n) at false is =
      by_next (λ place last rest. chain_stands n place last rest) (next_at at) refl is
    where
      by_next : ((place : ℕ) (last : Bool) → stand next_at n place last ≡ true
          → (aux_upto read next n place last).bad ≡ None)
          → (r : Option ℕ) → next_at at ≡ r → behind next_at n at r ≡ true
          → (led_by (read at) (λ x. leading x
          (aux_upto read next n (at + next x) (next x == 0)))).bad ≡ None
      by_next rest None here is = cc
      by_next rest (Some k) here is =
          let found = links at k here in
          let x = found.0 in
          ap (λ (r : Result A ElfError). (led_by r (λ y. leading y
          (aux_upto read next n (at + next y) (next y == 0)))).bad) found.1
          ∙ rest (at + next x) (next x == 0)
          (ap (λ (j : ℕ). stand next_at n (at + j) (j == 0)) found.2 ∙ is)

-- ---- The names in a section

module _ {A : Type 0} (form : List ℕ → A) (size : ℕ) (next : A → ℕ) (some : 0 < size) where
  -- none stand in no bytes
  none_there : (at : ℕ) → next_found next (result_map form (record_at size [] at)) ≡ None
  unfolding record_at
  none_there at =
      ap (λ (t : Bool). next_found next (result_map form
      (answered (refused_if t (BadChain at)) (take size (drop at [])))))
      (lt-ltb 0 (at + size) (omega (arith, some)))

  -- a next one is that of a name that the call reads
  links_by : (refusal : Option ElfError) (bytes : List ℕ) (at k : ℕ)
      → next_found next (result_map form (record_at size (if_lent refusal bytes) at)) ≡ Some k
      → (x : A) × ((answered refusal bytes >>= λ l. result_map form (record_at size l at)) ≡ Ok x)
      × (next x ≡ k)
  links_by None bytes at k is = by_found (result_map form (record_at size bytes at)) is
    where
      by_found : (r : Result A ElfError) → next_found next r ≡ Some k
          → (x : A) × (r ≡ Ok x) × (next x ≡ k)
      by_found (Ok x) is = (x, refl, cc)
      by_found (Err e) is = cc
  links_by (Some e) bytes at k is = let both = sym (none_there at) ∙ is in cc

module _ (o : Object) (s : ℕ) (reach : List ℕ) where
  pub verdauxs_stand : IsReach (verdaux_next o.header.order (data_bytes o s)) reach
      → (place : AuxPlace) (at aux cnt : ℕ) → place ≡ first_aux at aux cnt
      → place.left ≤ get_or reach place.at 0 → bad_place (verdauxs o s 0 place).bad ≡ None
  unfolding verdauxs verdaux_answer verdaux_at data_bytes
  verdauxs_stand are place at aux cnt is le =
      let bytes = bytes_of (items_at o s 0) in
      let refusal = lend_refusal o kinds.Bytes s 0 in
      let next_at = verdaux_next o.header.order (data_bytes o s) in
      let wanted : cnt ≤ get_or reach (at + aux) 0 =
      subst (λ (p : AuxPlace). p.left ≤ get_or reach p.at 0) is le in
      ap (λ (p : AuxPlace). bad_place (verdauxs o s 0 p).bad) is
      ∙ ap bad_place (chain_stands (verdaux_answer o s 0) (λ (x : Verdaux). x.next) next_at
      (λ a k found. links_by (verdaux_of o.header.order) VERDAUX_SIZE (λ (x : Verdaux). x.next)
      (omega arith) refusal bytes a k found)
      cnt (at + aux) false (reach_there next_at reach are (at + aux) cnt wanted))

  pub vernauxs_stand : IsReach (vernaux_next o.header.order (data_bytes o s)) reach
      → (place : AuxPlace) (at aux cnt : ℕ) → place ≡ first_aux at aux cnt
      → place.left ≤ get_or reach place.at 0 → bad_place (vernauxs o s 0 place).bad ≡ None
  unfolding vernauxs vernaux_answer vernaux_at data_bytes
  vernauxs_stand are place at aux cnt is le =
      let bytes = bytes_of (items_at o s 0) in
      let refusal = lend_refusal o kinds.Bytes s 0 in
      let next_at = vernaux_next o.header.order (data_bytes o s) in
      let wanted : cnt ≤ get_or reach (at + aux) 0 =
      subst (λ (p : AuxPlace). p.left ≤ get_or reach p.at 0) is le in
      ap (λ (p : AuxPlace). bad_place (vernauxs o s 0 p).bad) is
      ∙ ap bad_place (chain_stands (vernaux_answer o s 0) (λ (x : Vernaux). x.next) next_at
      (λ a k found. links_by (vernaux_of o.header.order) VERNAUX_SIZE (λ (x : Vernaux). x.next)
      (omega arith) refusal bytes a k found)
      cnt (at + aux) false (reach_there next_at reach are (at + aux) cnt wanted))

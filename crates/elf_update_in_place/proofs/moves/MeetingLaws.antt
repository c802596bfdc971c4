-- An extent among others that stand one behind the other: the first that ends behind its place
-- tells whether it meets one.
use Rattle.std.proofs.Common.{◌≡◌, ℕ, zero, suc, ◌+◌, ◌-◌, ◌/◌, ◌<◌, ◌≤◌, Bool, true, false, List, [], ◌∷◌, length, get_or, ap, arith, ⊎_elim, ◌⊎◌}
use Rattle.std.specs.Prelude.{nat_lt}
use Rattle.std.specs.List.{list_any}
use Rattle.std.proofs.lemmas.Bool.{cases_lt, lt-ltb, ltb-true, or_cases, false_from_ne_true}
use Rattle.std.proofs.lemmas.List.Folds.{list_any_at}
use Rattle.elf_update_to.specs.elf_object.Blocks.{extents_meet}
use Rattle.elf_update_to.proofs.law_object.writing.DisturbedLaws.{meeting_from, meeting_to, same_test}
use Rattle.elf_update_in_place.specs.declared.moves.extents.Extent.{Extent}
use Rattle.elf_update_in_place.specs.Moves.Extents.{StandInOrder, no_extent, SplitsAt, meets_extents}

-- ---- In order

record IsApart (from : ℕ) (e : Extent) : Type 0 where
  pub first : from ≤ e.at
  pub some : e.at < e.end

apart_at : (from : ℕ) (es : List Extent) (i : ℕ) → StandInOrder from es → i < length es
    → IsApart from (get_or es i no_extent)
apart_at from [] i apart there = absurd (omega (arith, there))
apart_at from (e ∷ es) zero apart there = record { first = apart.0; some = apart.1 }
apart_at from (e ∷ es) (suc i) apart there =
    let rest = apart_at e.end es i apart.2 (omega (arith, there)) in
    let some = apart.1 in
    let start = apart.0 in
    let later = rest.first in
    record { first = omega (arith, start, some, later); some = rest.some }

apart_next : (from : ℕ) (es : List Extent) (i j : ℕ) → StandInOrder from es → i < j → j < length es
    → (get_or es i no_extent).end ≤ (get_or es j no_extent).at
apart_next from [] i j apart less there = absurd (omega (arith, there))
apart_next from (e ∷ es) i zero apart less there = absurd (omega (arith, less))
apart_next from (e ∷ es) zero (suc j) apart less there =
    let rest = apart_at e.end es j apart.2 (omega (arith, there)) in
    rest.first
apart_next from (e ∷ es) (suc i) (suc j) apart less there =
    apart_next e.end es i j apart.2 (omega (arith, less)) (omega (arith, there))

ends_rise : (es : List Extent) (i j : ℕ) → StandInOrder 0 es → i ≤ j → j < length es
    → (get_or es i no_extent).end ≤ (get_or es j no_extent).end
ends_rise es i j apart upto there = ⊎_elim
    (λ less.
    let next = apart_next 0 es i j apart less there in
    let some = (apart_at 0 es j apart there).some in
    omega (arith, next, some))
    (λ past.
    let same : i ≡ j = omega (arith, upto, past) in
    let ends = ap (λ (k : ℕ). (get_or es k no_extent).end) same in
    omega (arith, ends))
    (cases_lt i j)

starts_rise : (es : List Extent) (i j : ℕ) → StandInOrder 0 es → i ≤ j → j < length es
    → (get_or es i no_extent).at ≤ (get_or es j no_extent).at
starts_rise es i j apart upto there = ⊎_elim
    (λ less.
    let next = apart_next 0 es i j apart less there in
    let some = (apart_at 0 es i apart (omega (arith, less, there))).some in
    omega (arith, next, some))
    (λ past.
    let same : i ≡ j = omega (arith, upto, past) in
    let starts = ap (λ (k : ℕ). (get_or es k no_extent).at) same in
    omega (arith, starts))
    (cases_lt i j)

-- ---- The search

halves : (n : ℕ) → 0 < n → n / 2 < n
halves n some = omega (arith, some)

-- between two indexes it is not known yet which extents end at or before a place
pub record IsNarrowed (es : List Extent) (at low high : ℕ) : Type 0 where
  pub order : low ≤ high
  pub within : high ≤ length es
  pub before : (i : ℕ) → i < low → (get_or es i no_extent).end ≤ at
  pub behind : (i : ℕ) → high ≤ i → i < length es → at < (get_or es i no_extent).end

-- the middle lies between
pub middle_of : (low high : ℕ) → low < high
    → (low ≤ low + (high - low) / 2) × (low + (high - low) / 2 < high)
middle_of low high less =
    let half = halves (high - low) (omega (arith, less)) in
    (omega arith, omega (arith, half, less))

pub narrowed_first : (es : List Extent) (at : ℕ) → IsNarrowed es at 0 (length es)
narrowed_first es at = record {
  order = omega arith;
  within = omega arith;
  before = λ i less. absurd (omega (arith, less));
  behind = λ i from below. absurd (omega (arith, from, below));
}

pub narrowed_up : (es : List Extent) (at low high middle : ℕ) → StandInOrder 0 es
    → IsNarrowed es at low high → middle < high → (get_or es middle no_extent).end ≤ at
    → IsNarrowed es at (middle + 1) high
narrowed_up es at low high middle apart is less ended =
    let all = is.within in record {
      order = omega (arith, less);
      within = is.within;
      before = λ i h.
          let rise = ends_rise es i middle apart (omega (arith, h)) (omega (arith, less, all)) in
          omega (arith, rise, ended);
      behind = is.behind;
    }

pub narrowed_down : (es : List Extent) (at low high middle : ℕ) → StandInOrder 0 es
    → IsNarrowed es at low high → low ≤ middle → middle < high
    → at < (get_or es middle no_extent).end → IsNarrowed es at low middle
narrowed_down es at low high middle apart is from less ends =
    let all = is.within in record {
      order = from;
      within = omega (arith, less, all);
      before = is.before;
      behind = λ i h below.
          let rise = ends_rise es middle i apart h below in
          omega (arith, rise, ends);
    }

pub narrowed_last : (es : List Extent) (at low high : ℕ) → IsNarrowed es at low high → high ≤ low
    → SplitsAt es at low
narrowed_last es at low high is done =
    let order = is.order in
    let within = is.within in record {
      within = omega (arith, order, within);
      before = is.before;
      behind = λ i from below. is.behind i (omega (arith, done, from)) below;
    }

-- ---- What meets

-- an index at which a test passes
record PassesAt (f : Extent → Bool) (es : List Extent) : Type 0 where
  pub index : ℕ
  pub there : index < length es
  pub passes : f (get_or es index no_extent) ≡ true

passes_at : (f : Extent → Bool) (es : List Extent) → list_any f es ≡ true → PassesAt f es
passes_at f [] h = cc
passes_at f (e ∷ es) h = ⊎_elim
    (λ first. record { index = 0; there = omega arith; passes = first })
    (λ rest.
    let later = passes_at f es rest in
    let there = later.there in
    record { index = suc later.index; there = omega (arith, there); passes = later.passes })
    (or_cases (f e) (list_any f es) h)

module _ (es : List Extent) (at len index : ℕ) (apart : StandInOrder 0 es)
    (split : SplitsAt es at index) where
  -- the extent with an index meets
  record IsMet (i : ℕ) : Type 0 where
    pub some : 0 < len
    pub from : index ≤ i
    pub below : (get_or es i no_extent).at < at + len

  met_at : (i : ℕ) → i < length es
      → extents_meet at len (get_or es i no_extent).at
      ((get_or es i no_extent).end - (get_or es i no_extent).at) ≡ true
      → IsMet i
  met_at i there h =
      let is = meeting_from at len (get_or es i no_extent).at
      ((get_or es i no_extent).end - (get_or es i no_extent).at) h in
      let before = is.before in
      let after = is.after in
      let some = (apart_at 0 es i apart there).some in
      record {
        some = is.some;
        from = ⊎_elim
            (λ less.
            let ended = split.before i less in
            absurd (omega (arith, before, some, ended)))
            (λ past. past)
            (cases_lt i index);
        below = after;
      }

pub meets_none : (es : List Extent) (at len index : ℕ) → StandInOrder 0 es → SplitsAt es at index
    → (len ≡ 0) ⊎ (length es ≤ index) → meets_extents at len es ≡ false
unfolding meets_extents
meets_none es at len index apart split none =
    false_from_ne_true (list_any (λ e. extents_meet at len e.at (e.end - e.at)) es) (λ h.
    let one = passes_at (λ e. extents_meet at len e.at (e.end - e.at)) es h in
    let there = one.there in
    let is = met_at es at len index apart split one.index one.there one.passes in
    let some = is.some in
    let from = is.from in
    ⊎_elim
    (λ empty. absurd (omega (arith, empty, some)))
    (λ past. absurd (omega (arith, past, from, there)))
    none)

pub meets_first : (es : List Extent) (at len index : ℕ) → StandInOrder 0 es → SplitsAt es at index
    → 0 < len → index < length es
    → meets_extents at len es ≡ nat_lt (get_or es index no_extent).at (at + len)
unfolding meets_extents
meets_first es at len index apart split some there =
    same_test (list_any (λ e. extents_meet at len e.at (e.end - e.at)) es)
    (nat_lt (get_or es index no_extent).at (at + len))
    (λ h.
    let one = passes_at (λ e. extents_meet at len e.at (e.end - e.at)) es h in
    let is = met_at es at len index apart split one.index one.there one.passes in
    let rise = starts_rise es index one.index apart is.from one.there in
    let below = is.below in
    lt-ltb (get_or es index no_extent).at (at + len) (omega (arith, rise, below)))
    (λ h.
    let below = ltb-true (get_or es index no_extent).at (at + len) h in
    let behind = split.behind index (omega arith) there in
    let own = (apart_at 0 es index apart there).some in
    list_any_at (λ e. extents_meet at len e.at (e.end - e.at)) es index no_extent there
    (meeting_to at len (get_or es index no_extent).at
    ((get_or es index no_extent).end - (get_or es index no_extent).at) (record {
      some = some;
      other = omega (arith, own);
      before = omega (arith, own, behind);
      after = below;
    })))

-- The first two neighbours that share a byte, as a loop over the extents finds them.
use Rattle.std.proofs.Common.{◌≡◌, ℕ, ◌+◌, ◌-◌, ◌<◌, ◌≤◌, List, length, get_or, drop, true, false, cond, nat_lt, Option, Some, None, slice_get, sym, ◌∙◌, ap, subst, ⊎_elim, arith}
use Rattle.std.proofs.lemmas.List.{at_drop_more, drop_more, drop_all, at_drop_all}
use Rattle.std.proofs.lemmas.Bool.{cases_lt, lt-ltb, le-ltb, cond-true, cond-false}
use Rattle.elf_layout.specs.declared.meeting.Extent.{Extent}
use Rattle.elf_layout.specs.Extents.{first_close, first_close_or}

-- one neighbour on
pub first_close_more : (es : List Extent) (i : ℕ) (d : Extent) → i + 1 < length es → first_close (drop i es) ≡ cond (nat_lt ((get_or es (i + 1) d).at - (get_or es i d).at) (get_or es i d).len) (Some ((get_or es i d).rank, (get_or es (i + 1) d).rank)) (first_close (drop (i + 1) es))
unfolding first_close first_close_or
first_close_more es i d inside =
    at_drop_more first_close es i d (omega arith)
    ∙ ap (λ (o : Option Extent). first_close_or (get_or es i d) o (first_close (drop (i + 1) es))) (ap (λ (l : List Extent). slice_get l 0) (drop_more es (i + 1) d inside))

-- the last has no neighbour
pub first_close_end : (es : List Extent) (i : ℕ) (d : Extent) → length es ≤ i + 1 → first_close (drop i es) ≡ None
unfolding first_close first_close_or
first_close_end es i d outside =
    ⊎_elim
    (λ (here : i < length es). at_drop_more first_close es i d here ∙ ap (λ (l : List Extent). first_close_or (get_or es i d) (slice_get l 0) (first_close l)) (drop_all (i + 1) es outside))
    (λ (past : length es ≤ i). at_drop_all first_close es i past)
    (cases_lt i (length es))

-- the same where a loop compares the extent `next` with the one before it
first_close_at : (es : List Extent) (next : ℕ) (d : Extent) → 1 ≤ next → next < length es → first_close (drop (next - 1) es) ≡ cond (nat_lt ((get_or es next d).at - (get_or es (next - 1) d).at) (get_or es (next - 1) d).len) (Some ((get_or es (next - 1) d).rank, (get_or es next d).rank)) (first_close (drop next es))
first_close_at es next d low inside =
    let e : next - 1 + 1 ≡ next = omega arith in
    subst (λ (n : ℕ). first_close (drop (next - 1) es) ≡ cond (nat_lt ((get_or es n d).at - (get_or es (next - 1) d).at) (get_or es (next - 1) d).len) (Some ((get_or es (next - 1) d).rank, (get_or es n d).rank)) (first_close (drop n es))) e
    (first_close_more es (next - 1) d (omega arith))

pub first_close_found : (es : List Extent) (next : ℕ) (d : Extent) (gap : ℕ) → 1 ≤ next → next < length es → first_close (drop (next - 1) es) ≡ first_close es → gap ≡ (get_or es next d).at - (get_or es (next - 1) d).at → gap < (get_or es (next - 1) d).len → ◌≡◌ {A = Option (ℕ × ℕ)} (Some ((get_or es (next - 1) d).rank, (get_or es next d).rank)) (first_close es)
first_close_found es next d gap low inside so_far gap_is close =
    let here : nat_lt ((get_or es next d).at - (get_or es (next - 1) d).at) (get_or es (next - 1) d).len ≡ true = lt-ltb _ _ (omega arith) in
    sym (cond-true _ _ _ here) ∙ (sym (first_close_at es next d low inside) ∙ so_far)

pub first_close_passed : (es : List Extent) (next : ℕ) (d : Extent) (gap : ℕ) → 1 ≤ next → next < length es → first_close (drop (next - 1) es) ≡ first_close es → gap ≡ (get_or es next d).at - (get_or es (next - 1) d).at → (get_or es (next - 1) d).len ≤ gap → first_close (drop (next + 1 - 1) es) ≡ first_close es
first_close_passed es next d gap low inside so_far gap_is apart =
    let e : next + 1 - 1 ≡ next = omega arith in
    let not_here : nat_lt ((get_or es next d).at - (get_or es (next - 1) d).at) (get_or es (next - 1) d).len ≡ false = le-ltb _ _ (omega arith) in
    ap (λ (n : ℕ). first_close (drop n es)) e ∙ (sym (cond-false _ _ _ not_here) ∙ (sym (first_close_at es next d low inside) ∙ so_far))

pub first_close_none : (es : List Extent) (next : ℕ) (d : Extent) → 1 ≤ next → length es ≤ next → first_close (drop (next - 1) es) ≡ first_close es → None ≡ first_close es
first_close_none es next d low outside so_far = sym (first_close_end es (next - 1) d (omega arith)) ∙ so_far

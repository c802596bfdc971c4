-- What is read when an object is made of what was gathered: no change of copy adds to it.
use Rattle.std.proofs.Common.{◌≡◌, ◌+◌, ◌≤◌, ◌<◌, ℕ, zero, suc, Bool, true, List, [], ◌∷◌, ◌++◌, length, get_or, if◌then◌else◌, ap, arith}
use Rattle.std.specs.Prelude.{slice_set}
use Rattle.std.proofs.lemmas.List.Sums.{sum_by-cons, sum_by_push, sum_by-set}
use Rattle.rebuild_plan.specs.rebuild_image.declared.ranges.ranges.ByteRange.{ByteRange}
use Rattle.rebuild_plan.specs.rebuild_image.Ranges.Ranges.{range_due}
use Rattle.rebuild_plan.specs.Reading.{ranges_due}
use Rattle.rebuild_copy.specs.Rows.{empty_held_range}

-- a range that is held is not read
pub held_due : (r : ByteRange) → r.held ≡ true → range_due r ≡ 0
held_due r at = ap (λ (b : Bool). if b then 0 else r.len) at

pub due_set : (l : List ByteRange) (s : ℕ) (r : ByteRange) → r.held ≡ true
    → ranges_due (slice_set l s r) ≤ ranges_due l
due_set [] s r at = omega arith
due_set (x ∷ l) zero r at =
    let now = sum_by-cons range_due r l in
    let was = sum_by-cons range_due x l in
    let none = held_due r at in
    omega (arith, now, was, none)
due_set (x ∷ l) (suc s) r at =
    let now = sum_by-cons range_due x (slice_set l s r) in
    let was = sum_by-cons range_due x l in
    let less = due_set l s r at in
    omega (arith, now, was, less)

-- with what is read of the range that was there
pub due_taken : (l : List ByteRange) (s : ℕ) (r : ByteRange) → r.held ≡ true → s < length l
    → range_due (get_or l s empty_held_range) + ranges_due (slice_set l s r) ≡ ranges_due l
due_taken l s r at below =
    let is = sum_by-set range_due l s r empty_held_range below in
    let none = held_due r at in
    omega (arith, is, none)

pub due_pushed : (l : List ByteRange) (r : ByteRange) → r.held ≡ true
    → ranges_due (l ++ r ∷ []) ≤ ranges_due l
due_pushed l r at =
    let is = sum_by_push range_due l r in let none = held_due r at in omega (arith, is, none)

pub due_same : (a b : List ByteRange) → a ≡ b → ranges_due a ≤ ranges_due b
due_same a b same = let is = ap ranges_due same in omega (arith, is)

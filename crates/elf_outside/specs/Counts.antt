-- Counts of faults and of bytes, and totals of them. A count never falls. One that rises by n rises
-- by exactly n while the sum stays below 2 ^ 64. Past that it may rise by less, never by more, so a
-- count of 64 bits can stop at its last value, 2 ^ 64 - 1.
use Rattle.std.specs.Prelude.{◌≡◌, ℕ, ◌+◌, ◌-◌, ◌^◌, ◌<◌, ◌≤◌, Result, Ok, Err, OnErr, min}

-- the count rose in this call, or stands at its last value
abbrev pub Rose : ℕ → ℕ → Type 0
Rose before now = min (before + 1) (2 ^ 64 - 1) ≤ now

-- the count of faults never falls, and the call failed only where it rose
pub record HasCause {T E : Type 0} (before now : ℕ) (result : Result T E) : Type 0 where
  pub later : before ≤ now
  pub failed : OnErr result (Rose before now)

-- the count rose by at most n, and by exactly n while the sum stays below 2 ^ 64
pub record RaisedBy (before now n : ℕ) : Type 0 where
  pub later : before ≤ now
  pub no_more : now ≤ before + n
  pub exact : before + n < 2 ^ 64 → now ≡ before + n

-- the count rose by at most n
pub record RaisedAtMost (before now n : ℕ) : Type 0 where
  pub later : before ≤ now
  pub no_more : now ≤ before + n

-- the count rose by exactly n, or to its last value where the sum passes that
pub record RaisedExactly (before now n : ℕ) : Type 0 where
  pub later : before ≤ now
  pub exact : now ≡ min (before + n) (2 ^ 64 - 1)

-- a total of faults never falls, and rises where the file's own count had risen
pub record RisesWith (before now own : ℕ) : Type 0 where
  pub later : before ≤ now
  pub rose : 0 < own → Rose before now

-- a count after one more, which stops at its last value
abbrev pub next_count : ℕ → ℕ
next_count n = min (n + 1) (2 ^ 64 - 1)

-- a count of faults after a call: one more where it failed
abbrev pub faults_after : {T E : Type 0} → Result T E → ℕ → ℕ
faults_after (Ok x) n = n
faults_after (Err e) n = next_count n

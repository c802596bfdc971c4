-- A read of a range of two sources, one behind the other.
use Rattle.std.specs.Prelude.{◌≡◌, ℕ, ◌+◌, List, length, take, drop, IfSome, OnOk, Result, Ok, Err}
use Rattle.elf_outside.specs.Asks.{Leaves}
use Rattle.elf_outside.specs.Counts.{HasCause, RaisedBy}
use Rattle.elf_outside.specs.declared.sources.Source.{Ghosts}
use Rattle.rebuild_join.specs.Pair.Pairs.{bytes_of_pair}

-- the answer of two reads
abbrev pub both_answers : {T E : Type 0} → Result T E → Result T E → Result T E
both_answers (Ok x) other = other
both_answers (Err e) other = Err e

-- The range was read, or a read of one of them failed. Both are left, and their counts rise
-- together as those of one source do.
pub record ReadsPair {S T A E : Type 0} (g : Ghosts S) (h : Ghosts T) (at : ℕ)
    (result : Result A E) (first_old first_new : S) (second_old second_new : T)
    (old new : List ℕ) : Type 0 where
  pub first : Leaves g first_old first_new
  pub second : Leaves h second_old second_new
  pub bytes : OnOk result (IfSome (bytes_of_pair (g.holds first_old) (h.holds second_old))
      (λ bytes. new ≡ take (length old) (drop at bytes)))
  pub cause : HasCause (g.faults first_old + h.faults second_old)
      (g.faults first_new + h.faults second_new) result
  pub taken : RaisedBy (g.taken first_old + h.taken second_old)
      (g.taken first_new + h.taken second_new) (length old)

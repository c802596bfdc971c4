-- What is there or refused.
use Rattle.std.proofs.Common.{◌≡◌, ℕ, ◌<◌, Option, Some, None, IfSome, IfOk, refl}
use Rattle.std.specs.Option.{ok_or}
use Rattle.elf_types.specs.Answers.{or_refused}

-- the library's word is the definitions' word
pub ok_or_is : {A E : Type 0} (o : Option A) (e : E) → ok_or o e ≡ or_refused o e
ok_or_is None e = refl
ok_or_is (Some x) e = refl

-- a bound on a value that is there
pub small_or : {E : Type 0} (o : Option ℕ) (e : E) (m : ℕ) → IfSome o (λ n. n < m) → IfOk (ok_or o e) (λ n. n < m)
small_or None e m low = tt
small_or (Some n) e m low = low

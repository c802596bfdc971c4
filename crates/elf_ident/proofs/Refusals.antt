-- What an answer by refusals tells of them.
use Rattle.std.proofs.Common.{◌≡◌, ◌++◌, Bool, true, false, List, [], ◌∷◌, Option, Some, None, Result, Ok, Err, refl}
use Rattle.elf_types.specs.Answers.{refused_if, first_refusal, answered, or_refused, ◌>>=◌}

pub answered_ok : {A E : Type 0} (refusal : Option E) (x y : A) → answered refusal x ≡ Ok y → (refusal ≡ None) × (x ≡ y)
answered_ok None x y h = (refl, cc)
answered_ok (Some e) x y h = cc

-- the last test of a list of which none refuses does not hold
pub last_passed : {E : Type 0} (tests : List (Option E)) (test : Bool) (e : E) → first_refusal (tests ++ refused_if test e ∷ []) ≡ None → test ≡ false
last_passed [] true e h = cc
last_passed [] false e h = refl
last_passed (Some d ∷ tests) test e h = cc
last_passed (None ∷ tests) test e h = last_passed tests test e h

pub bind_ok : {A B E : Type 0} (r : Result A E) (next : A → Result B E) (y : B) → (r >>= next) ≡ Ok y → (x : A) × (r ≡ Ok x) × (next x ≡ Ok y)
bind_ok (Ok x) next y h = (x, refl, h)
bind_ok (Err e) next y h = cc

pub or_refused_ok : {A E : Type 0} (o : Option A) (e : E) (x : A) → or_refused o e ≡ Ok x → o ≡ Some x
or_refused_ok None e x h = cc
or_refused_ok (Some y) e x h = cc

-- what follows a passed answer looks at its value alone
pub answered_then : {A B E : Type 0} (refusal : Option E) (x y : A) (next : A → Result B E) → next x ≡ next y → (answered refusal x >>= next) ≡ (answered refusal y >>= next)
answered_then None x y next h = h
answered_then (Some e) x y next h = refl

-- A number below 2^64 that has to be below a lesser bound.
use Rattle.std.proofs.Common.{◌≡◌, ◌^◌, ◌≤◌, ℕ, List, [], ◌∷◌, Option, Some, None, option_map, option_and_then, IfSome, Result, Ok, Err, refl, ap, arith}
use Rattle.std.proofs.lemmas.Bool.Decides.{nat_tests}
use Rattle.std.proofs.lemmas.Option.{IfSome_then}
use Rattle.elf_types.specs.Answers.{or_refused, ◌>>=◌}
use Rattle.elf_calls_script.specs.declared.faults.Why.{Why}
use Rattle.elf_calls_script.specs.declared.faults.Why.TheVariants.{BadWords}
use Rattle.elf_calls_script.specs.declared.faults.CallFault.{CallFault}
use Rattle.elf_calls_script.specs.Causes.{call_fault_why}
use Rattle.elf_calls_script.specs.Numbers.{number_literal_of, number_if_below}
use Rattle.elf_calls_script.specs.Parts.{bounded_number}

of_ok : (x y : Option ℕ × List (List ℕ)) → (let r : Result (Option ℕ × List (List ℕ)) Why = Ok x in r) ≡ Ok y → x ≡ y
of_ok x y e = cc

below_twice : (bound n : ℕ) → bound ≤ 2 ^ 64 → option_and_then (number_if_below bound) (number_if_below (2 ^ 64) n) ≡ number_if_below bound n
below_twice bound n h = grind (arith, nat_tests)

read_below : ℕ → Option ℕ → List (List ℕ) → Result (Option ℕ × List (List ℕ)) Why
read_below bound n words = or_refused (option_map (number_if_below bound) n) BadWords >>= λ x. Ok (x, words)

narrowed_word : (bound : ℕ) (said n : Option ℕ) (words rest : List (List ℕ)) → bound ≤ 2 ^ 64
    → read_below (2 ^ 64) said words ≡ Ok (n, rest) → read_below bound said words ≡ Ok (option_and_then (number_if_below bound) n, rest)
unfolding read_below
narrowed_word bound (Some v) n words rest h e =
    let pair = of_ok (number_if_below (2 ^ 64) v, words) (n, rest) e in
    let is_n : number_if_below (2 ^ 64) v ≡ n = ap (λ x. x.0) pair in
    let is_rest : words ≡ rest = ap (λ x. x.1) pair in
    rw (← is_n) (rw (below_twice bound v h) (rw is_rest refl))
narrowed_word bound None n words rest h e = absurd (cc)

pub narrowed : (bound : ℕ) (n : Option ℕ) (words rest : List (List ℕ)) → bound ≤ 2 ^ 64
    → bounded_number (2 ^ 64) words ≡ Ok (n, rest) → bounded_number bound words ≡ Ok (option_and_then (number_if_below bound) n, rest)
unfolding bounded_number read_below
narrowed bound n [] rest h e = absurd (cc)
narrowed bound n (w ∷ ws) rest h e = narrowed_word bound (number_literal_of w) n ws rest h e

refused_word : (bound : ℕ) (said : Option ℕ) (words : List (List ℕ)) (why : Why)
    → read_below (2 ^ 64) said words ≡ Err why → read_below bound said words ≡ Err why
unfolding read_below
refused_word bound (Some v) words why e = absurd (cc)
refused_word bound None words why e = cc

pub refused_as : (bound : ℕ) (words : List (List ℕ)) (why : Why) → bounded_number (2 ^ 64) words ≡ Err why → bounded_number bound words ≡ Err why
unfolding bounded_number read_below
refused_as bound [] why e = cc
refused_as bound (w ∷ ws) why e = refused_word bound (number_literal_of w) ws why e

-- what is refused as a number is refused whatever its bound
pub narrowed_refused : (bound : ℕ) (words : List (List ℕ)) (stop : CallFault)
    → IfSome (call_fault_why stop) (λ why. bounded_number (2 ^ 64) words ≡ Err why) → IfSome (call_fault_why stop) (λ why. bounded_number bound words ≡ Err why)
narrowed_refused bound words stop h = IfSome_then (call_fault_why stop) h (λ why is. refused_as bound words why is)

-- The last word of a list, and the only one.
use Rattle.std.proofs.Common.{◌≡◌, ◌++◌, ◌+◌, List, [], ◌∷◌, ℕ, length, Option, Some, None, option_to_list, MatchOption, refl, sym, ap, ◌∙◌, arith}
use Rattle.std.specs.List.{last_or}
use Rattle.std.proofs.lemmas.List.{nil_from_length}
use Rattle.tool_text.specs.Arguments.{last, only_one}

last_or-push : {X : Type 0} (o : Option X) (xs : List X) (x : X) → last_or o (xs ++ x ∷ []) ≡ Some x
last_or-push o [] x = refl
last_or-push o (y ∷ ys) x = last_or-push (Some y) ys x

-- what is taken from the end is the last
pub last_popped : {X : Type 0} (xs rest : List X) (r : Option X) (n m : ℕ) → n ≡ length xs → xs ≡ rest ++ option_to_list r → MatchOption r ((n ≡ 0) × (m ≡ 0)) (λ _. m + 1 ≡ n) → r ≡ last xs
unfolding last
last_popped xs rest None n m len parts empty = ap (last_or None) (sym (nil_from_length xs (sym len ∙ empty.0)))
last_popped xs rest (Some x) n m len parts more = sym (ap (last_or None) parts ∙ last_or-push None rest x)

pub last-one : (xs : List (List ℕ)) → length xs ≡ 1 → last xs ≡ only_one xs
unfolding last only_one
last-one [] one = absurd (omega arith)
last-one (x ∷ []) one = refl
last-one (x ∷ y ∷ xs) one = absurd (omega arith)

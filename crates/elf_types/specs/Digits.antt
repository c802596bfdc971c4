-- Words that are digits.
use Rattle.std.specs.Prelude.{ℕ, List, Bool}
use Rattle.std.specs.List.{list_all}
use Rattle.std.specs.Char.{is_digit}

-- each byte is a digit in the radix, in either case
abbrev pub are_digits : ℕ → List ℕ → Bool
are_digits radix word = list_all (λ c. is_digit c radix) word

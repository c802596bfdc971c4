-- Bytes as hexadecimal digits.
use Rattle.std.specs.Prelude.{ℕ, ◌/◌, ◌%◌, List, [], ◌∷◌, slice_index, codes}

-- the digits, in small letters
unfoldable pub hex_digits : List ℕ
hex_digits = codes "0123456789abcdef"

-- a byte, by two digits
unfoldable pub hex_pair : ℕ → List ℕ
hex_pair b = slice_index hex_digits (b / 16) ∷ slice_index hex_digits (b % 16) ∷ []

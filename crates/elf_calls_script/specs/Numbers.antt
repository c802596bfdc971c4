-- The words of a script that stand for numbers and bytes: their form, and what they stand for. The
-- form of a number is its digits and how many there are, whatever its range.
use Rattle.std.specs.Prelude.{ℕ, ℤ, pos, negsuc, neg_ℤ, ◌^◌, ◌&&◌, List, [], length, drop, nat_le, nat_lt, nat_eq, bytes_eq, Option, Some, None, option_map, codes, if◌then◌else◌}
use Rattle.std.specs.List.{starts_with}
use Rattle.std.specs.Result.{result_ok}
use Rattle.std.specs.Str.Parse.{digits_value}
use Rattle.hex.specs.Hex.{decode_of}
use Rattle.elf_types.specs.Digits.{are_digits}

-- the number that one to `most` digits stand for
unfoldable pub digits_of : ℕ → ℕ → List ℕ → Option ℕ
digits_of radix most word =
    if nat_le 1 (length word) && nat_le (length word) most && are_digits radix word
    then Some (digits_value radix word)
    else None

-- a number: 1 to 20 decimal digits, or `0x` and 1 to 16 hexadecimal ones
unfoldable pub number_literal_of : List ℕ → Option ℕ
number_literal_of word =
    if starts_with nat_eq word (codes "0x") then digits_of 16 16 (drop 2 word)
    else digits_of 10 20 word

-- a number that may be below 0: it has that form, or is `-` and 1 to 20 decimal digits
unfoldable pub signed_literal_of : List ℕ → Option ℤ
signed_literal_of word =
    if starts_with nat_eq word (codes "-")
    then option_map (λ n. neg_ℤ (pos n)) (digits_of 10 20 (drop 1 word))
    else option_map pos (number_literal_of word)

-- a number, where it is below the bound
abbrev pub number_if_below : ℕ → ℕ → Option ℕ
number_if_below bound n = if nat_lt n bound then Some n else None

-- a number, where it is from -2^63 to 2^63 - 1: negsuc n is -1 - n
abbrev pub within_64_bits : ℤ → Option ℤ
within_64_bits (pos n) = if nat_lt n (2 ^ 63) then Some (pos n) else None
within_64_bits (negsuc n) = if nat_lt n (2 ^ 63) then Some (negsuc n) else None

-- HEX: `-` for no bytes, or an even number of hexadecimal digits, of which there are some
unfoldable pub hex_of : List ℕ → Option (List ℕ)
hex_of word =
    if bytes_eq word (codes "-") then Some []
    else (if nat_le 1 (length word) then result_ok (decode_of word) else None)

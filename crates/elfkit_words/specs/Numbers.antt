-- Words that are numbers.
use Rattle.std.specs.Prelude.{◌&&◌, ◌^◌, List, ℕ, length, drop, nat_le, nat_lt, nat_eq, Option, Some, None, codes, if◌then◌else◌}
use Rattle.std.specs.List.{starts_with}
use Rattle.std.specs.Str.Parse.{digits_value}
use Rattle.elf_types.specs.Digits.{are_digits}

-- the number that a word of one to `most` digits stands for, where it is below 2 ^ 64
unfoldable pub numeral : ℕ → ℕ → List ℕ → Option ℕ
numeral radix most word =
    if are_digits radix word && nat_le 1 (length word) && nat_le (length word) most
    && nat_lt (digits_value radix word) (2 ^ 64)
    then Some (digits_value radix word)
    else None

-- a number of the command line: one to nine decimal digits
unfoldable pub word_number_of : List ℕ → Option ℕ
word_number_of word = numeral 10 9 word

-- a number of a script: one to twenty decimal digits, or `0x` and one to sixteen hexadecimal ones
unfoldable pub script_number_of : List ℕ → Option ℕ
script_number_of word =
    if starts_with nat_eq word (codes "0x") then numeral 16 16 (drop 2 word) else numeral 10 20 word

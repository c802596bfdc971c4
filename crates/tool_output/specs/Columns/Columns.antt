-- Numbers in columns, with spaces or zeros before their digits.
use Rattle.std.specs.Prelude.{◌++◌, ◌-◌, ℕ, false, List, length}
use Rattle.std.specs.Fmt.{digits}
use Rattle.std.specs.Str.{byte}
use Rattle.std.proofs.Math.ListN.{replicate}
use Rattle.tool_text.specs.declared.radixes.Radix.{Radix}
use Rattle.tool_text.specs.declared.radixes.Radix.TheVariants.{Decimal, Octal, Hex}

-- the numbers of a radix below it
abbrev pub radix_base : Radix → ℕ
radix_base Decimal = 10
radix_base Octal = 8
radix_base Hex = 16

-- the digits of a number, in small letters and without leading zeros
unfoldable pub radix_digits : Radix → ℕ → List ℕ
radix_digits radix n = digits (radix_base radix) false n

-- so many spaces
unfoldable pub spaces : ℕ → List ℕ
spaces count = replicate count (byte " ")

-- a text, right in so many places behind copies of a byte; a longer one stands as it is
unfoldable pub padded : ℕ → ℕ → List ℕ → List ℕ
padded fill width text = replicate (width - length text) fill ++ text

-- a number of at least so many digits, with zeros before those that it has
unfoldable pub zero_filled : Radix → ℕ → ℕ → List ℕ
zero_filled radix width n = padded (byte "0") width (radix_digits radix n)

-- a number, right in seven places
unfoldable pub column : Radix → ℕ → List ℕ
column radix n = padded (byte " ") 7 (radix_digits radix n)

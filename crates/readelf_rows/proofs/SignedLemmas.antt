-- The text of a signed number by that of its absolute value.
use Rattle.std.proofs.Common.{◌≡◌, ◌∷◌, true, false, ℤ, pos, negsuc, int_le, unsigned_abs, refl, arith}
use Rattle.std.specs.Fmt.{decimal, signed_decimal}

-- one that is not below 0 has no sign
pub no_sign : (z : ℤ) → int_le (pos 0) z ≡ true → decimal (unsigned_abs z) ≡ signed_decimal z
no_sign (pos n) e = refl
no_sign (negsuc n) e = absurd (grind arith)

-- and another begins with one
pub minus_first : (z : ℤ) → int_le (pos 0) z ≡ false → 45 ∷ decimal (unsigned_abs z) ≡ signed_decimal z
minus_first (pos n) e = absurd (grind arith)
minus_first (negsuc n) e = refl

-- The header at a place, by what was read there.
use Rattle.std.proofs.Common.{◌≡◌, ℕ, ◌+◌, ◌-◌, ◌<◌, ◌≤◌, Bool, true, false, cond, leb, List, length, take, drop, Err, refl, arith}
use Rattle.std.proofs.lemmas.Bool.{le-leb, lt-leb}
use Rattle.elf_types.specs.declared.errors.ElfError.TheVariants.{BadMember}
use Rattle.ar_members.specs.Headers.{header_at, header_in, header_asks}

-- a header that does not lie in the archive
pub header_cut : (bytes : List ℕ) (at : ℕ) → length bytes < at + 60 → header_at bytes at ≡ Err (BadMember at)
unfolding header_at
header_cut bytes at cut = rw (lt-leb (at + 60) (length bytes) cut) refl

-- a header that does
pub header_whole : (bytes header : List ℕ) (at room : ℕ) → at + 60 ≤ length bytes → header ≡ take 60 (drop at bytes) → room ≡ length bytes - 60 - at → header_at bytes at ≡ header_in at header room
unfolding header_at
header_whole bytes header at room whole is left = rw (le-leb (at + 60) (length bytes) whole, is, left) refl

-- a look at a header asks for 60 bytes at most
pub header_asks_low : (len at : ℕ) → header_asks len at ≤ 60
header_asks_low len at = cond_low (leb (at + 60) len)
  where
    cond_low : (b : Bool) → cond b 60 0 ≤ 60
    cond_low true = omega arith
    cond_low false = omega arith

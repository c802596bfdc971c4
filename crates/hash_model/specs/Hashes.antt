-- The hash of a name in the two kinds of hash sections (gABI chapter 5, "Hash Table"; GNU's hash
-- section).
use Rattle.std.specs.Prelude.{ℕ, ◌+◌, ◌*◌, ◌/◌, ◌%◌, ◌^◌, List}
use Rattle.std.specs.List.{fold}
use Rattle.std.specs.Int.Bits.{bit_xor}

-- h, shifted by four bits, and the byte, in 32 bits: its top four bits go into the bits 4 to 7,
-- and are cleared
unfoldable pub elf_hash_step : ℕ → ℕ → ℕ
elf_hash_step h byte =
    let moved = (16 * h + byte) % 2 ^ 32 in
    bit_xor moved (moved / 2 ^ 28 * 16) % 2 ^ 28

-- elf_hash(3E)
unfoldable pub elf_hash : List ℕ → ℕ
elf_hash name = fold elf_hash_step 0 name

-- the hash of GNU's sections, in 32 bits
unfoldable pub gnu_hash : List ℕ → ℕ
gnu_hash name = fold (λ h byte. (33 * h + byte) % 2 ^ 32) 5381 name

-- What names are found by.
use Rattle.std.specs.Prelude.{ℕ, ◌/◌, ◌^◌, List, take}
use Rattle.std.specs.Int.{w64, from_be_bytes}
use Rattle.std.specs.Hash.FoldHasher.{initial, write, finish}
use Rattle.sha2.specs.Sha256.{sha256}

-- the hash of a name: the upper half of a quick one
unfoldable pub quick_hash_of : List ℕ → ℕ
quick_hash_of name = finish (write initial name) / 2 ^ 32

-- the digest of a name: the first eight bytes of its SHA-256 (FIPS 180-4), as a number
unfoldable pub digest_of : List ℕ → ℕ
digest_of name = from_be_bytes w64 (take 8 (sha256 name))

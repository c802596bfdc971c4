-- Records and strings that are read from bytes. The records of notes and of versions are alike in
-- both classes, and their numbers stand in the byte order of the image.
use Rattle.std.specs.Prelude.{◌≡◌, ℕ, ◌+◌, ◌<◌, ◌≤◌, ◌^◌, nat_lt, not, ◌==◌, List, length, take, drop, take_while, Option, Some, None, is_some, Result, if◌then◌else◌}
use Rattle.std.specs.Option.{option_map}
use Rattle.elf_types.specs.declared.errors.ElfError.{ElfError}
use Rattle.elf_types.specs.declared.errors.ElfError.TheVariants.{BadChain}
use Rattle.elf_types.specs.Answers.{refused_if, answered}
use Rattle.elf_descriptor.specs.elf_object.Strings.{has_nul}

-- the bytes of a record of that size at a place, or that it does not lie in the bytes
unfoldable pub record_at : ℕ → List ℕ → ℕ → Result (List ℕ) ElfError
record_at size bytes at =
    answered
    (refused_if (nat_lt (length bytes) (at + size)) (BadChain at))
    (take size (drop at bytes))

-- a record of that size at a place lies in so many bytes, which stand in memory
abbrev pub LiesAt : ℕ → ℕ → ℕ → Type 0
LiesAt at size count = (at + size ≤ count) × (count < 2 ^ 63)

-- the string with which bytes begin, without its NUL, or none where no NUL follows (gABI chapter 4,
-- "String Table")
unfoldable pub string_front : List ℕ → Option (List ℕ)
string_front bytes =
    if has_nul bytes then Some (take_while (λ b. not (b == 0)) bytes) else None

-- a string of fewer bytes than that, or none
abbrev pub shorter_than : ℕ → Option (List ℕ) → Option (List ℕ)
shorter_than n None = None
shorter_than n (Some string) = if nat_lt (length string) n then Some string else None

-- the first bytes of a string, so many at most, or none
abbrev pub first_bytes_of : ℕ → Option (List ℕ) → Option (List ℕ)
first_bytes_of n string = option_map (λ bytes. take n bytes) string

-- a string begins at each place of bytes
abbrev pub AreEnded : List ℕ → Type 0
AreEnded bytes = (at : ℕ) → is_some (string_front (drop at bytes)) ≡ nat_lt at (length bytes)

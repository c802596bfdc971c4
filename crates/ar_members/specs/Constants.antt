-- The lengths of an archive's format (ar.h), each name beside its number, and the two bytes that
-- end a header.
use Rattle.std.specs.Prelude.{ℕ, List, [], ◌∷◌}
use Rattle.ar_members.specs.declared.headers.TheConstants.{HEADER_LEN, FIRST}

-- a header, and what stands before the first one
abbrev pub lengths : List (ℕ × ℕ)
lengths = (HEADER_LEN, 60) ∷ (FIRST, 8) ∷ []

-- a backquote and a newline
abbrev pub header_end : List ℕ
header_end = 0x60 ∷ 0x0a ∷ []

-- What a loan of bytes owns. A right can be split: C gives up a part of the right to the bytes that
-- it lends and keeps the rest, so that both sides may read them, and none may write. What it keeps
-- can be split again, so the same bytes can be lent several times at once, each time by a smaller
-- part.
use Rattle.std.specs.Prelude.{ℕ, zero, suc, Bool, true, false, List, [], ◌∷◌}
use base.Fraction.{full_share, left}
use base.Fml.{Share, Lft, Fml, ftrue}
use denote.Array.{Array}
use denote.Builtin.{u8}
use denote.RawPtr.{Ptr, block_ptr, null_ptr, lies_at}
use denote.Struct.Lending.{lent_at}

-- a part of the right: a half, a quarter, an eighth and so on
abbrev pub halved_share : ℕ → Share
halved_share zero = left full_share
halved_share (suc n) = left (halved_share n)

-- so many bytes lie at the place, which is not null
abbrev pub loan_owns : ℕ → Ptr → ℕ → List ℕ → Fml
loan_owns part place count bytes = lies_at (Array u8 count) (halved_share part) place bytes

-- the same where they are lent, and nothing where they are not
abbrev pub lent_owns : Bool → ℕ → Ptr → ℕ → List ℕ → Fml
lent_owns false part place count bytes = ftrue
lent_owns true part place count bytes = loan_owns part place count bytes

-- what a reference to a loan shows for as long as it lasts
abbrev pub loan_shares : Ptr → ℕ → List ℕ → Lft → Fml
loan_shares place count bytes = lent_at (Array u8 count) place bytes

-- a place in numbers: the block and the byte in it
abbrev pub pointer_numbers : Ptr → List ℕ
pointer_numbers (block_ptr block byte) = block ∷ byte ∷ []
pointer_numbers null_ptr = []

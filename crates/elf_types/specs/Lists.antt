-- Words on `List`, which a contract sees as the list of its items.
use Rattle.std.specs.Prelude.{◌++◌, ◌<◌, ◌^◌, ℕ, List, All, length, take, drop}
use Rattle.std.specs.Borrow.{Lends, Fml}
use denote.RattleType.{RattleType}
use denote.Array.{Array}
use denote.Ref.{MutBor}
use Rattle.elf_types.specs.contracts.lists.List.{the_row}

-- each number is a byte
abbrev pub AreBytes : List ℕ → Type 0
AreBytes l = All (λ n. n < 2 ^ 8) l

-- the list after a loan of its items: what the borrower left, of the list's length
abbrev pub refilled : {X : Type 0} → List X → List X → List X
refilled old left = take (length old) (left ++ drop (length left) old)

-- the items are lent, and the list holds at the end what the borrower left
abbrev pub LendsItems : (T : RattleType) → MutBor (List T.Denot) → MutBor (List T.Denot) → Fml
LendsItems T s r = Lends (the_row T) (Array T 0) s r (refilled s.now)

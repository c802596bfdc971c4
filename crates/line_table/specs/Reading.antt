-- What stands at the front of bytes: a value, and the bytes after it. It is Cut where the bytes end
-- before it does.
use Rattle.std.specs.Prelude.{ℕ, suc, zero, ◌+◌, ◌-◌, ◌*◌, ◌%◌, ◌^◌, ◌==◌, ◌&&◌, Bool, false, List, [], ◌∷◌, length, take, drop, Option, Some, None, Result, Ok, Err, if◌then◌else◌, nat_lt, nat_le, position}
use Rattle.std.specs.Int.{Width, byte_len, from_le_bytes, from_be_bytes}
use Rattle.elf_types.specs.declared.records.Order.{Order}
use Rattle.elf_types.specs.declared.records.Order.TheVariants.{Least, Greatest}
use Rattle.elf_types.specs.Answers.{◌>>=◌}
use Rattle.line_table.specs.declared.faults.LineWhy.{LineWhy}
use Rattle.line_table.specs.declared.faults.LineWhy.TheVariants.{Cut}

-- a value at the front of bytes, and the bytes after it
abbrev pub Front : Type 0 → Type 0 → Type 0
Front X E = Result (X × List ℕ) E

-- a byte
unfoldable pub byte_at : List ℕ → Front ℕ LineWhy
byte_at [] = Err Cut
byte_at (b ∷ bytes) = Ok (b, bytes)

-- a count of bytes
unfoldable pub bytes_at : ℕ → List ℕ → Front (List ℕ) LineWhy
bytes_at n bytes = if nat_lt (length bytes) n then Err Cut else Ok (take n bytes, drop n bytes)

-- what bytes stand for as a number: the sum of each byte times 256 to the power of its distance
-- from the least
unfoldable pub number : Order → Width → List ℕ → ℕ
number Least w bytes = from_le_bytes w bytes
number Greatest w bytes = from_be_bytes w bytes

-- a number as wide as w says
unfoldable pub number_at : Order → Width → List ℕ → Front ℕ LineWhy
number_at order w bytes =
    bytes_at (byte_len w) bytes >>= λ front. Ok (number order w front.0, front.1)

-- what a byte of a LEB128 number stands for: its low seven bits. In the last byte of a signed
-- number, which is the one below 128, bit 6 is the sign, and 128 is taken off; kept modulo 2 ^ 64
abbrev pub digit : Bool → ℕ → ℕ
digit signed b = if signed && nat_le 64 b && nat_lt b 128 then (2 ^ 64 - 128) + b else b % 128

-- LEB128 (DWARF 4, 7.6): seven bits of the number in each byte, the least first. A byte below 128
-- is the last one
abbrev pub leb128 : Bool → List ℕ → Front ℕ LineWhy
leb128 signed [] = Err Cut
leb128 signed (b ∷ bytes) =
    if nat_lt b 128 then Ok (digit signed b, bytes)
    else (leb128 signed bytes >>= λ high. Ok (digit signed b + 128 * high.0, high.1))

-- a LEB128 number, signed or not, modulo 2 ^ 64
unfoldable pub leb128_at : Bool → List ℕ → Front ℕ LineWhy
leb128_at signed bytes = leb128 signed bytes >>= λ x. Ok (x.0 % 2 ^ 64, x.1)

-- the bytes up to a place, which is passed
abbrev pub ended_at : Option ℕ → List ℕ → Front (List ℕ) LineWhy
ended_at None bytes = Err Cut
ended_at (Some n) bytes = Ok (take n bytes, drop (n + 1) bytes)

-- a string: the bytes before the first that is 0, which ends it
unfoldable pub string_at : List ℕ → Front (List ℕ) LineWhy
string_at bytes = ended_at (position (λ b. b == 0) bytes) bytes

-- a file (DWARF 4, 6.2.4, item 12): its name, which is a string, and the numbers of its directory,
-- its time and its length
unfoldable pub file_at : List ℕ → Front (List ℕ) LineWhy
file_at bytes = do
  name ← string_at bytes
  directory ← leb128_at false name.1
  time ← leb128_at false directory.1
  size ← leb128_at false time.1
  Ok (name.0, size.1)

-- items one after the other, up to the end of their list or to the first that is refused, and what
-- stands after the list
pub record Listed (X E : Type 0) : Type 0 where
  pub items : List X
  pub after : Result (List ℕ) E

-- what was read is refused, or is the list's end, or is an item, which the items after it follow
abbrev pub listed_on : {X E : Type 0} → Front (Option X) E → (List ℕ → Listed X E) → Listed X E
listed_on (Err e) later = record { items = []; after = Err e }
listed_on (Ok (None, rest)) later = record { items = []; after = Ok rest }
listed_on (Ok (Some x, rest)) later =
    record { items = x ∷ (later rest).items; after = (later rest).after }

-- at most so many items, where `next` reads an item, or the end of the list
abbrev pub items_at_most : {X E : Type 0} → (List ℕ → Front (Option X) E) → ℕ → List ℕ → Listed X E
items_at_most next zero bytes = record { items = []; after = Ok bytes }
items_at_most next (suc n) bytes = listed_on (next bytes) (λ rest. items_at_most next n rest)

-- the whole list: since an item takes a byte, there is one turn more than it can need
unfoldable pub list_at : {X E : Type 0} → (List ℕ → Front (Option X) E) → List ℕ → Listed X E
list_at next bytes = items_at_most next (suc (length bytes)) bytes

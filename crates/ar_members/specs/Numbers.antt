-- The number fields of a member's header (ar.h, `struct ar_hdr`): digits, then spaces up to the end
-- of the field. A blank field is 0.
use Rattle.std.specs.Prelude.{ℕ, ◌+◌, ◌-◌, ◌*◌, ◌==◌, Bool, ◌&&◌, List, length, take, drop, Option, Result, Ok, Err, fold, take_while, nat_eq, nat_le, nat_lt, if◌then◌else◌}
use Rattle.std.specs.Bool.{then_some}
use Rattle.std.specs.List.{list_all, ends_with}
use Rattle.elf_types.specs.declared.errors.ElfError.{ElfError}
use Rattle.elf_types.specs.declared.errors.ElfError.TheVariants.{BadMember}
use Rattle.elf_types.specs.Answers.{or_refused, ◌>>=◌}
use Rattle.ar_members.specs.declared.numbers.TheConstants.{ARFMAG}
use Rattle.ar_members.specs.declared.numbers.Numbers.{Numbers}

-- the byte is a digit of the base
abbrev pub is_digit : ℕ → ℕ → Bool
is_digit base b = nat_le 48 b && nat_lt b (48 + base)

-- the byte is a space
abbrev pub is_space : ℕ → Bool
is_space b = b == 32

-- what digits stand for, the greatest first
abbrev pub value_of : ℕ → List ℕ → ℕ
value_of base digits = fold (λ n b. n * base + (b - 48)) 0 digits

-- the number of a field, or None where something other than spaces follows its digits
unfoldable pub number_of : ℕ → List ℕ → Option ℕ
number_of base field =
    let digits = take_while (is_digit base) field in
    then_some (list_all is_space (drop (length digits) field)) (value_of base digits)

-- the number of a field of the header at a place, which is bad where it has none
abbrev pub field_of : ℕ → ℕ → List ℕ → Result ℕ ElfError
field_of at base field = or_refused (number_of base field) (BadMember at)

-- the bytes of a header from a place on
abbrev pub part : ℕ → ℕ → List ℕ → List ℕ
part from width header = take width (drop from header)

-- the numbers of the header at a place, field by field
unfoldable pub fields_of : ℕ → List ℕ → Result Numbers ElfError
fields_of at header = do
  date ← field_of at 10 (part 16 12 header)
  uid ← field_of at 10 (part 28 6 header)
  gid ← field_of at 10 (part 34 6 header)
  mode ← field_of at 8 (part 40 8 header)
  size ← field_of at 10 (part 48 10 header)
  Ok (record { date = date; uid = uid; gid = gid; mode = mode; size = size })

-- the numbers of the header at a place, which ends with a backquote and a newline
unfoldable pub numbers_of : ℕ → List ℕ → Result Numbers ElfError
numbers_of at header =
    if ends_with nat_eq header ARFMAG then fields_of at header else Err (BadMember at)

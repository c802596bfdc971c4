-- Fields of a record, by their places. A table has one row a field, in the order of the record.
use Rattle.std.specs.Prelude.{ℕ, ◌+◌, ◌<◌, ◌^◌, List, [], ◌∷◌, ◌++◌, length, take, drop, map, Bool, true, false, nat_lt, ℤ, pos, negsuc}
use Rattle.std.proofs.Math.ListN.{replicate}
use Rattle.elf_types.specs.declared.records.Class.{Class}
use Rattle.elf_types.specs.declared.records.Class.TheVariants.{C32, C64}
use Rattle.elf_types.specs.declared.records.Order.{Order}
use Rattle.elf_xlate.specs.Numbers.{number_at, octets}

-- a field's place and width, in bytes, in class 32 and in class 64
pub record Field : Type 0 where
  pub narrow : ℕ × ℕ
  pub broad : ℕ × ℕ

-- a row of a table
abbrev pub field : ℕ × ℕ → ℕ × ℕ → Field
field narrow broad = record { narrow = narrow; broad = broad }

-- the class that is class 64 or not
abbrev pub class_of : Bool → Class
class_of false = C32
class_of true = C64

-- a field's place and width in a class
abbrev pub place_in : Class → Field → ℕ × ℕ
place_in C32 f = f.narrow
place_in C64 f = f.broad

-- the number that stands in a field
unfoldable pub number_in : Class → Order → List ℕ → Field → ℕ
number_in class order bytes f = number_at order bytes (place_in class f).0 (place_in class f).1

-- the numbers that stand in the fields of a table
abbrev pub numbers_in : Class → Order → List ℕ → List Field → List ℕ
numbers_in class order bytes fields = map (number_in class order bytes) fields

-- bytes with others written over them at a place
unfoldable pub written : ℕ → List ℕ → List ℕ → List ℕ
written place new bytes = take place bytes ++ (new ++ drop (place + length new) bytes)

-- bytes with a number written into a field
unfoldable pub written_in : Class → Order → Field → ℕ → List ℕ → List ℕ
written_in class order f n bytes =
    written (place_in class f).0 (octets order (place_in class f).1 n) bytes

-- bytes with numbers written into the fields of a table
abbrev pub laid : Class → Order → List Field → List ℕ → List ℕ → List ℕ
laid class order [] numbers bytes = bytes
laid class order (f ∷ fields) [] bytes = bytes
laid class order (f ∷ fields) (n ∷ numbers) bytes =
    laid class order fields numbers (written_in class order f n bytes)

-- the bytes of a record whose fields cover all of them
unfoldable pub record_bytes : Class → Order → ℕ → List Field → List ℕ → List ℕ
record_bytes class order size fields numbers = laid class order fields numbers (replicate size 0)

-- whether an unsigned number fits a field of four bytes in class 32 and of eight in class 64
abbrev pub fits : Class → ℕ → Bool
fits C32 n = nat_lt n (2 ^ 32)
fits C64 n = true

-- whether a signed number does
abbrev pub fits_signed : Class → ℤ → Bool
fits_signed C32 (pos n) = nat_lt n (2 ^ 31)
fits_signed C32 (negsuc n) = nat_lt n (2 ^ 31)
fits_signed C64 z = true

-- a signed number of eight bytes
abbrev pub IsSigned : ℤ → Type 0
IsSigned (pos n) = n < 2 ^ 63
IsSigned (negsuc n) = n < 2 ^ 63

-- Numbers as bytes (gABI chapter 4, "ELF Identification", Data Encoding). A byte is a number below
-- 256.
use Rattle.std.specs.Prelude.{ℕ, zero, suc, ◌+◌, ◌*◌, ◌-◌, ◌/◌, ◌%◌, ◌^◌, List, [], ◌∷◌, take, drop, reverse, nat_lt, if◌then◌else◌, ℤ, pos, negsuc, ◌-ℤ◌}
use Rattle.elf_types.specs.declared.records.Order.{Order}
use Rattle.elf_types.specs.declared.records.Order.TheVariants.{Least, Greatest}

-- bytes in their order of weight: the least one first. From there it is the way back too.
unfoldable pub by_weight : Order → List ℕ → List ℕ
by_weight Least bytes = bytes
by_weight Greatest bytes = reverse bytes

-- the sum of each byte times 256 to the power of its distance from the least byte
unfoldable pub weighed : ℕ → List ℕ → ℕ
weighed distance [] = 0
weighed distance (b ∷ bytes) = b * 256 ^ distance + weighed (suc distance) bytes

-- the number of bytes in an order
unfoldable pub number_of : Order → List ℕ → ℕ
number_of order bytes = weighed 0 (by_weight order bytes)

-- the number of the bytes at a place, of a width
unfoldable pub number_at : Order → List ℕ → ℕ → ℕ → ℕ
number_at order bytes place width = number_of order (take width (drop place bytes))

-- the lowest bytes of a number, the least one first
unfoldable pub lowest_bytes : ℕ → ℕ → List ℕ
lowest_bytes zero n = []
lowest_bytes (suc width) n = (n % 256) ∷ lowest_bytes width (n / 256)

-- the bytes of that width with this number
unfoldable pub octets : Order → ℕ → ℕ → List ℕ
octets order width n = by_weight order (lowest_bytes width n)

-- two's complement: the number of that width, less 256 ^ width where its top bit is set
unfoldable pub signed_of : ℕ → ℕ → ℤ
signed_of width n = if nat_lt n (2 ^ (8 * width - 1)) then pos n else pos n -ℤ pos (256 ^ width)

-- the number that stands for a signed one in that width
unfoldable pub unsigned_of : ℕ → ℤ → ℕ
unsigned_of width (pos n) = n
unsigned_of width (negsuc n) = 256 ^ width - suc n

-- A walk over the chain of a hash's bucket, in the two kinds of hash sections (gABI chapter 5,
-- "Hash Table"; GNU's hash section). The words that it needs, in their order: those before the
-- buckets, the bloom's word, the bucket, and the chain words as the walk meets them. The first one
-- that is not there is a bad chain at its place, in bytes from the start of the section.
use Rattle.std.specs.Prelude.{ℕ, zero, suc, ◌+◌, ◌-◌, ◌*◌, ◌/◌, ◌%◌, ◌^◌, ◌==◌, ◌&&◌, not, Bool, nat_lt, nat_le, List, [], ◌∷◌, length, slice_get, if◌then◌else◌, min, Option, Some, None, Result, Ok, Err}
use Rattle.elf_types.specs.Answers.{or_refused, ◌>>=◌}
use Rattle.elf_types.specs.declared.records.Class.{Class}
use Rattle.elf_types.specs.declared.records.Order.{Order}
use Rattle.elf_types.specs.declared.errors.ElfError.{ElfError}
use Rattle.elf_types.specs.declared.errors.ElfError.TheVariants.{BadChain}
use Rattle.hash_model.specs.elf_xlate.Numbers.{number_at}
use Rattle.hash_model.specs.elf_object.Words.{result_map}
use Rattle.hash_model.specs.HashSections.{bloom_bits, bloom_bytes, has_bit, is_end}
use Rattle.symbol_lookup.specs.declared.walks.WalkStep.{WalkStep}
use Rattle.symbol_lookup.specs.declared.walks.Links.TheVariants as links
use Rattle.symbol_lookup.specs.declared.walks.WalkStart.{WalkStart}
use Rattle.symbol_lookup.specs.declared.walks.GnuHead.{GnuHead}

-- ---- Words

-- the word at an index of a section of words
unfoldable pub hash_word : List ℕ → ℕ → Result ℕ ElfError
hash_word words index = or_refused (slice_get words index) (BadChain (4 * index))

-- the number of a width at a place of bytes
unfoldable pub hash_number_in : Order → List ℕ → ℕ → ℕ → Result ℕ ElfError
hash_number_in order bytes at width =
    if nat_le (at + width) (length bytes) then Ok (number_at order bytes at width)
    else Err (BadChain at)

-- a count that is 0 is a word that is not there
unfoldable pub nonzero_count : ℕ → ℕ → Result ℕ ElfError
nonzero_count at count = if count == 0 then Err (BadChain at) else Ok count

-- ---- SHT_HASH

-- the number of buckets
unfoldable pub sysv_buckets : List ℕ → Result ℕ ElfError
sysv_buckets words = hash_word words 0 >>= nonzero_count 0

-- where the walk of a hash begins: at its bucket
unfoldable pub sysv_bucket : List ℕ → ℕ → ℕ → ℕ → Result WalkStart ElfError
sysv_bucket words hash nbucket nchain = result_map
    (λ first. record {
      links = links.Sysv nbucket nchain;
      step = record { at = 4 * (2 + hash % nbucket); symbol = first };
    })
    (hash_word words (2 + hash % nbucket))

-- behind the number of chain words
unfoldable pub sysv_behind : List ℕ → ℕ → ℕ → Result WalkStart ElfError
sysv_behind words hash nbucket = hash_word words 1 >>= sysv_bucket words hash nbucket

unfoldable pub sysv_start : List ℕ → ℕ → Result WalkStart ElfError
sysv_start words hash = sysv_buckets words >>= sysv_behind words hash

-- the step from a symbol: the chain entries stand behind the buckets, one for each symbol
unfoldable pub sysv_next : List ℕ → ℕ → ℕ → ℕ → Result WalkStep ElfError
sysv_next words nbucket nchain i =
    let index = 2 + nbucket + i in
    if nat_lt i nchain
    then result_map (λ next. record { at = 4 * index; symbol = next }) (hash_word words index)
    else Err (BadChain (4 * index))

-- ---- GNU's hash section

-- a count at a place
unfoldable pub hash_count_in : Order → List ℕ → ℕ → Result ℕ ElfError
hash_count_in order bytes at = hash_number_in order bytes at 4 >>= nonzero_count at

-- its four numbers: buckets, the first symbol that it knows, bloom words, and the bloom's shift
unfoldable pub gnu_head_in : Order → List ℕ → Result GnuHead ElfError
gnu_head_in order bytes =
    hash_count_in order bytes 0 >>= λ nbuckets. hash_number_in order bytes 4 4
    >>= λ symoffset. hash_count_in order bytes 8
    >>= λ size. hash_number_in order bytes 12 4
    >>= λ shift. Ok (record {
      nbuckets = nbuckets;
      symoffset = symoffset;
      size = size;
      shift = shift;
    })

-- a walk that has no symbol to begin with
abbrev pub nowhere : WalkStart
nowhere = record { links = links.Gnu 0 0; step = record { at = 0; symbol = 0 } }

-- the place of a hash's bloom word, and whether it has both of the hash's bits
unfoldable pub bloom_at : Class → GnuHead → ℕ → ℕ
bloom_at class head hash = 16 + bloom_bytes class * (hash / bloom_bits class % head.size)

unfoldable pub has_bits : Class → GnuHead → ℕ → ℕ → Bool
has_bits class head hash word =
    has_bit word (hash % bloom_bits class)
    && has_bit word (hash / 2 ^ head.shift % bloom_bits class)

-- where the buckets and the chain words begin
unfoldable pub buckets_at : Class → GnuHead → ℕ
buckets_at class head = 16 + bloom_bytes class * head.size

unfoldable pub chains_at : Class → GnuHead → ℕ
chains_at class head = buckets_at class head + 4 * head.nbuckets

-- the walk from a bucket at a place: 0 has no symbol, and one below the first that the section
-- knows is not there
unfoldable pub first_from : Class → GnuHead → ℕ → ℕ → Result WalkStart ElfError
first_from class head at first =
    if not (first == 0) && nat_lt first head.symoffset then Err (BadChain at)
    else Ok (record {
      links = links.Gnu head.symoffset (chains_at class head);
      step = record { at = at; symbol = first };
    })

unfoldable pub bucket_in : Class → Order → List ℕ → ℕ → GnuHead → Result WalkStart ElfError
bucket_in class order bytes hash head =
    let at = buckets_at class head + 4 * (hash % head.nbuckets) in
    hash_number_in order bytes at 4 >>= first_from class head at

-- a hash that does not pass the bloom is not there
unfoldable pub behind_head : Class → Order → List ℕ → ℕ → GnuHead → Result WalkStart ElfError
behind_head class order bytes hash head =
    hash_number_in order bytes (bloom_at class head hash) (bloom_bytes class)
    >>= λ word. (if has_bits class head hash word then bucket_in class order bytes hash head
    else Ok nowhere)

-- where the walk of a hash begins
unfoldable pub gnu_start : Class → Order → List ℕ → ℕ → Result WalkStart ElfError
gnu_start class order bytes hash = gnu_head_in order bytes >>= behind_head class order bytes hash

-- the step from a symbol: the symbols of a chain stand in a row, up to the end mark
unfoldable pub gnu_next : Order → List ℕ → ℕ → ℕ → ℕ → Result WalkStep ElfError
gnu_next order bytes symoffset chains i =
    let at = chains + 4 * (i - symoffset) in
    result_map
    (λ word. record { at = at; symbol = if is_end word then 0 else i + 1 })
    (hash_number_in order bytes at 4)

-- ---- Walks

-- the symbols on a chain from one on, up to 0, whose number stood at a place. The chain is bad
-- there, at the last word that was read, where the walk stands at a symbol after so many steps
unfoldable pub walk_from : (ℕ → Result WalkStep ElfError) → ℕ → ℕ → ℕ → Result (List ℕ) ElfError
walk_from next n at zero = Ok []
walk_from next zero at (suc i) = Err (BadChain at)
walk_from next (suc n) at (suc i) =
    next (suc i) >>= λ step. result_map
    (λ later. suc i ∷ later)
    (walk_from next n step.at step.symbol)

-- ---- What is found on a chain

-- the lesser of two that may be none
abbrev pub lesser : Option ℕ → Option ℕ → Option ℕ
lesser None b = b
lesser (Some a) None = Some a
lesser (Some a) (Some b) = Some (min a b)

-- the least number that passes
unfoldable pub least_of : (ℕ → Bool) → List ℕ → Option ℕ
least_of test [] = None
least_of test (i ∷ later) = lesser (if test i then Some i else None) (least_of test later)

-- the least of those before, and of one more where it passes
abbrev pub with_least : Option ℕ → Bool → ℕ → Option ℕ
with_least best passes i = lesser best (if passes then Some i else None)

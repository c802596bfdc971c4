-- rehash: the hash sections of the dynamic symbols built anew.
use Rattle.std.specs.Prelude.{ℕ, ◌^◌, Bool, true, ◌==◌, ◌&&◌, nat_lt, nat_le, List, length, slice_index_or, if◌then◌else◌, Option, Some, None, Result, Ok, Err}
use Rattle.std.specs.List.{position}
use Rattle.elf_types.specs.Answers.{answered, ◌>>=◌}
use Rattle.elf_types.specs.declared.records.Class.{Class}
use Rattle.elf_types.specs.declared.records.Class.TheVariants.{C32, C64}
use Rattle.elf_types.specs.declared.records.Order.{Order}
use Rattle.elf_types.specs.declared.records.Kind.TheVariants as kinds
use Rattle.elf_types.specs.declared.errors.ElfError.{ElfError}
use Rattle.elf_types.specs.declared.constants.TheConstants.{SHT_DYNSYM, SHT_HASH, SHT_GNU_HASH}
use Rattle.hash_model.specs.elf_xlate.declared.content.Items.TheVariants as items
use Rattle.hash_model.specs.elf_object.Object.{Object}
use Rattle.hash_model.specs.elf_object.Answers.{bytes_of, words_of}
use Rattle.hash_model.specs.elf_object.Steps.{with_layout}
use Rattle.hash_model.specs.elf_object.Calls.{data_answer, replace}
use Rattle.hash_model.specs.elf_object.Sections.{is_of, is_program, edited}
use Rattle.hash_model.specs.HashSections.{gnu_head}
use Rattle.hash_model.specs.BuiltHashes.{GnuShape, gnu_order_answer, build_gnu_answer, build_sysv_answer}
use Rattle.hash_model.specs.Reordered.{reordered, reorder_refusal}

-- ---- The sections

-- the first table of dynamic symbols
unfoldable pub dynamic_symbols : Object → Option ℕ
dynamic_symbols o = position (λ c. c.header.stype == SHT_DYNSYM) o.sections

-- the first GNU hash section that links to it
unfoldable pub gnu_section : Object → ℕ → Option ℕ
gnu_section o s = position (λ c. c.header.stype == SHT_GNU_HASH && c.header.link == s) o.sections

-- the first hash section of words that links to it
unfoldable pub sysv_section : Object → ℕ → Option ℕ
sysv_section o s =
    position (λ c. is_of SHT_HASH kinds.Word c.header && c.header.link == s) o.sections

-- ---- The shape

-- from 1 to 2^20
abbrev pub is_moderate : ℕ → Bool
is_moderate n = nat_le 1 n && nat_le n (2 ^ 20)

-- one bucket, one bloom word, and a shift that goes on with the next bits of the hash
abbrev pub smallest_shape : Class → GnuShape
smallest_shape C32 = record { nbuckets = 1; bloom = 1; shift = 5 }
smallest_shape C64 = record { nbuckets = 1; bloom = 1; shift = 6 }

abbrev pub shape_at : Order → List ℕ → GnuShape
shape_at order bytes =
    record {
      nbuckets = gnu_head order bytes 0;
      bloom = gnu_head order bytes 2;
      shift = gnu_head order bytes 3;
    }

abbrev pub is_usable : GnuShape → Bool
is_usable shape = is_moderate shape.nbuckets && is_moderate shape.bloom && nat_lt shape.shift 32

-- that of the section as it is, where it is there and moderate
unfoldable pub shape_of : Class → Order → List ℕ → GnuShape
shape_of class order bytes =
    if nat_le 16 (length bytes) && is_usable (shape_at order bytes)
    then shape_at order bytes
    else smallest_shape class

-- the number of buckets of the section as it is, where it is there and moderate
unfoldable pub nbucket_of : List ℕ → ℕ
nbucket_of words = let n = slice_index_or words 0 0 in if is_moderate n then n else 1

-- ---- The steps

-- the symbols in the order that the GNU hash section needs, and the section built for them
unfoldable pub with_gnu : Object → ℕ → ℕ → Result Object ElfError
with_gnu o s g =
    data_answer o g 0 >>= λ old.
    let shape = shape_of o.header.class o.header.order (bytes_of old) in
    gnu_order_answer o s shape.nbuckets >>= λ order.
    answered (reorder_refusal o s) (reordered o s order) >>= λ sorted.
    build_gnu_answer sorted s shape >>= λ bytes.
    edited (replace g 0 (items.Bytes bytes)) sorted

-- the hash section built for the symbols as they stand then
unfoldable pub with_sysv : Object → ℕ → ℕ → Result Object ElfError
with_sysv o s h =
    data_answer o h 0 >>= λ old.
    build_sysv_answer o s (nbucket_of (words_of old)) >>= λ words.
    edited (replace h 0 (items.Word words)) o

abbrev pub where_there :
    (Object → ℕ → Result Object ElfError) → Option ℕ → Object → Result Object ElfError
where_there change None o = Ok o
where_there change (Some n) o = change o n

-- ELF_F_LAYOUT for a program
abbrev pub laid_out : Object → Object
laid_out o = if is_program o then with_layout o true else o

pub data RehashFault : Type 0 where
  NoDynamicHash : RehashFault  -- no table of dynamic symbols, or neither hash section
  Refused : ElfError → RehashFault

abbrev pub or_fault : Result Object ElfError → Result Object RehashFault
or_fault (Ok o) = Ok o
or_fault (Err e) = Err (Refused e)

unfoldable pub rehashed_at : Object → ℕ → Option ℕ → Option ℕ → Result Object RehashFault
rehashed_at o s None None = Err NoDynamicHash
rehashed_at o s g h = or_fault
    (where_there (λ p n. with_gnu p s n) g o >>= λ p.
    where_there (λ q n. with_sysv q s n) h p >>= λ q.
    Ok (laid_out q))

-- what rehash makes of an object
unfoldable pub rehashed : Object → Result Object RehashFault
rehashed o = elim (dynamic_symbols o) [
  | None ↦ Err NoDynamicHash
  | Some s ↦ rehashed_at o s (gnu_section o s) (sysv_section o s)
]

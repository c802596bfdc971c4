-- Small images, byte by byte, and objects made of them, on which the definitions are computed.
use Rattle.std.specs.Prelude.{◌^◌, ℕ, ◌+◌, ◌-◌, ◌*◌, nat_lt, Bool, true, false, List, [], ◌∷◌, ◌++◌, codes, slice_get, Option, if◌then◌else◌, Result, Ok, Err}
use Rattle.elf_types.specs.declared.records.Class.TheVariants.{C64}
use Rattle.elf_types.specs.declared.records.Order.TheVariants.{Least}
use Rattle.elf_types.specs.declared.records.Ehdr.{Ehdr}
use Rattle.elf_types.specs.declared.records.Phdr.{Phdr}
use Rattle.elf_types.specs.declared.records.Shdr.{Shdr}
use Rattle.elf_types.specs.declared.records.Sym.{Sym}
use Rattle.elf_types.specs.declared.errors.ElfError.{ElfError}
use Rattle.elf_types.specs.declared.errors.ElfError.TheVariants.{Memory}
use Rattle.elf_ident.specs.elf_xlate.declared.content.Items.{Items}
use Rattle.elf_ident.specs.elf_xlate.Numbers.{octets}
use Rattle.elf_ident.specs.elf_xlate.Fields.{written}
use Rattle.elf_ident.specs.Front.{zero_shdr}
use Rattle.elf_object.specs.Words.{Wants}
use Rattle.elf_object.specs.Object.{Object, Section, new_section, no_phdr, header_of}
use Rattle.elf_object.specs.Derived.{written_header, numbered_shdr}
use Rattle.elf_object.specs.Open.{opened, created}
use Rattle.elf_object.specs.Answers.{bytes_of, syms_of}
use Rattle.elf_types.specs.declared.records.Part.TheVariants as part
use Rattle.elf_object.specs.Calls.{Call, step, sym, update_sym, newdata, newdata_aligned, newphdr, newscn, set_fill, flag, update_null}
use Rattle.elf_object.specs.SymbolSections.{symshndx}
use Rattle.elf_object.specs.Runs.{left_by, addall, set_item, set_shdr}
use Rattle.elf_ident.specs.elf_xlate.declared.content.Items.TheVariants.{Bytes}
use Rattle.std.proofs.Math.ListN.{replicate}

-- a hexadecimal digit
abbrev pub digit : ℕ → ℕ
digit c = if nat_lt c 58 then c - 48 else c - 87

-- the bytes of two digits each
abbrev pub hex : List ℕ → List ℕ
hex [] = []
hex (a ∷ []) = []
hex (a ∷ b ∷ digits) = (16 * digit a + digit b) ∷ hex digits

-- class 64, least byte first: a string table and a symbol table of two symbols
unfoldable pub small64 : List ℕ
small64 =
    hex (codes "7f454c4602010100000000000000000001003e00010000000000000000000000")
    ++ hex (codes "0000000000000000780000000000000000000000400000000000400003000100")
    ++ hex (codes "006100")
    ++ hex (codes "0000000000")
    ++ hex (codes "000000000000000000000000000000000000000000000000")
    ++ hex (codes "010000001200f1ff00100000000000000400000000000000")
    ++ hex (codes "0000000000000000000000000000000000000000000000000000000000000000")
    ++ hex (codes "0000000000000000000000000000000000000000000000000000000000000000")
    ++ hex (codes "0000000003000000000000000000000000000000000000004000000000000000")
    ++ hex (codes "0300000000000000000000000000000001000000000000000000000000000000")
    ++ hex (codes "0000000002000000000000000000000000000000000000004800000000000000")
    ++ hex (codes "3000000000000000010000000100000008000000000000001800000000000000")

-- the same object in class 32, greatest byte first
unfoldable pub small32 : List ℕ
small32 =
    hex (codes "7f454c460102010000000000000000000001003e000000010000000000000000")
    ++ hex (codes "0000005800000000003400000000002800030001")
    ++ hex (codes "006100")
    ++ hex (codes "00")
    ++ hex (codes "00000000000000000000000000000000")
    ++ hex (codes "0000000100001000000000041200fff1")
    ++ hex (codes "0000000000000000000000000000000000000000000000000000000000000000")
    ++ hex (codes "0000000000000000")
    ++ hex (codes "0000000000000003000000000000000000000034000000030000000000000000")
    ++ hex (codes "0000000100000000")
    ++ hex (codes "0000000000000002000000000000000000000038000000200000000100000001")
    ++ hex (codes "0000000400000010")

-- class 64, least byte first: five sections of eight bytes
unfoldable pub five64 : List ℕ
five64 =
    hex (codes "7f454c4602010100000000000000000001003e00010000000000000000000000")
    ++ hex (codes "0000000000000000680000000000000000000000400000000000400006000000")
    ++ hex (codes "0101010101010101")
    ++ hex (codes "0202020202020202")
    ++ hex (codes "0303030303030303")
    ++ hex (codes "0404040404040404")
    ++ hex (codes "0505050505050505")
    ++ hex (codes "0000000000000000000000000000000000000000000000000000000000000000")
    ++ hex (codes "0000000000000000000000000000000000000000000000000000000000000000")
    ++ hex (codes "0000000001000000000000000000000000000000000000004000000000000000")
    ++ hex (codes "0800000000000000000000000000000008000000000000000000000000000000")
    ++ hex (codes "0000000001000000000000000000000000000000000000004800000000000000")
    ++ hex (codes "0800000000000000000000000000000008000000000000000000000000000000")
    ++ hex (codes "0000000001000000000000000000000000000000000000005000000000000000")
    ++ hex (codes "0800000000000000000000000000000008000000000000000000000000000000")
    ++ hex (codes "0000000001000000000000000000000000000000000000005800000000000000")
    ++ hex (codes "0800000000000000000000000000000008000000000000000000000000000000")
    ++ hex (codes "0000000001000000000000000000000000000000000000006000000000000000")
    ++ hex (codes "0800000000000000000000000000000008000000000000000000000000000000")

-- five bytes after the last part
unfoldable pub tailed64 : List ℕ
tailed64 = small64 ++ hex (codes "7461696c0a")

-- a header alone
unfoldable pub header64 : List ℕ
header64 = hex (codes "7f454c4602010100000000000000000002003e00010000000010400000000000")
    ++ hex (codes "0000000000000000000000000000000000000000400000000000000000000000")

-- an image with a number of a width, least byte first, at a place
unfoldable pub with_number : ℕ → ℕ → ℕ → List ℕ → List ℕ
with_number at width n image = written at (octets Least width n) image

-- a header and the header of section 0, which has the three numbers 0xff00, 0xff01 and 0x10000
unfoldable pub crowded64 : List ℕ
crowded64 =
    with_number 40 8 64
    (with_number 56 2 0xffff
    (with_number 58 2 64
    (with_number 62 2 0xffff
    (with_number 96 8 0xff00
    (with_number 104 4 0xff01 (with_number 108 4 0x10000 (header64 ++ replicate 64 0)))))))

-- ---- Fields that are set, and the form of a byte

abbrev pub flags_set : ℕ → Shdr → Shdr
flags_set n h = record h { flags = n }

abbrev pub type_set : ℕ → Shdr → Shdr
type_set n h = record h { stype = n }

abbrev pub offset_set : ℕ → Shdr → Shdr
offset_set n h = record h { offset = n }

abbrev pub addralign_set : ℕ → Shdr → Shdr
addralign_set n h = record h { addralign = n }

abbrev pub link_set : ℕ → Shdr → Shdr
link_set n h = record h { link = n }

abbrev pub entry_set : ℕ → Ehdr → Ehdr
entry_set n h = record h { entry = n }

abbrev pub shstrndx_set : ℕ → Ehdr → Ehdr
shstrndx_set n h = record h { shstrndx = n }

abbrev pub vaddr_set : ℕ → Phdr → Phdr
vaddr_set n p = record p { vaddr = n }

abbrev pub value_set : ℕ → Sym → Sym
value_set n s = record s { value = n }

abbrev pub byte_in : Items → ℕ → Option ℕ
byte_in items i = slice_get (bytes_of items) i

abbrev pub sym_in : Items → ℕ → Option Sym
sym_in items i = slice_get (syms_of items) i

-- the section of symbol i: whether the index is a section's number, and the index
abbrev pub section_of : ℕ → ℕ → ℕ → Call (Bool × ℕ)
section_of s p i = symshndx true (λ n. (false, n)) (λ n. (true, n)) s p i

-- ---- Objects

-- the object of an image, and one without sections where it is refused
abbrev pub or_none : Result Object ElfError → Object
or_none (Ok o) = o
or_none (Err e) = created C64 Least

unfoldable pub object_in : List ℕ → Object
object_in image = or_none (opened image)

abbrev pub symbols64 : Object
symbols64 = object_in small64

abbrev pub symbols32 : Object
symbols32 = object_in small32

abbrev pub sections : Object
sections = object_in five64

abbrev pub tailed : Object
tailed = object_in tailed64

-- e_shnum 0 and e_shstrndx 0xffff, with the numbers in sh_size and sh_link of section 0
abbrev pub numbered64 : ℕ → List ℕ
numbered64 count =
    with_number 60 2 0
    (with_number 62 2 0xffff (with_number 152 8 count (with_number 160 4 1 small64)))

-- section 2 has sh_size 25
abbrev pub ragged : Object
ragged = object_in (with_number 280 8 25 small64)

-- section 2 is of type PROGBITS, and has two bytes from the last place that a number can name
abbrev pub missing : Object
missing =
    object_in (with_number 252 4 1 (with_number 272 8 (2 ^ 64 - 1) (with_number 280 8 2 small64)))

-- section 1 is a table of extended indexes of section 2, and has the words 0x6100 and 7; symbol 1
-- has an extended index
abbrev pub indexed : Object
indexed = object_in
    (with_number 68 4 7
    (with_number 102 2 0xffff
    (with_number 188 4 18 (with_number 216 8 8 (with_number 224 4 2 small64)))))

abbrev pub filled_section : Section
filled_section = record new_section { header = type_set 1 zero_shdr }

-- 16 added to each symbol's value
abbrev pub shifted : Object
shifted = step (addall 2 0 16) symbols64

abbrev pub shifted32 : Object
shifted32 = step (addall 2 0 16) symbols32

-- with ELF_F_LAYOUT
abbrev pub laid : Object → Object
laid o = step (flag part.Object true 4) o

-- eight bytes more in section 3
abbrev pub eight_more : Items
eight_more = Bytes (replicate 8 0x33)

abbrev pub grown : Object
grown = step (newdata 3 eight_more) sections

-- section 3 is of type SHT_NULL, and section 4 of type SHT_NOBITS
abbrev pub hollow : Object
hollow = left_by (set_shdr 3 (type_set 0) ∷ set_shdr 4 (type_set 8) ∷ []) sections

-- a fourth section, with a type and an alignment
abbrev pub typed : Object
typed =
    left_by (set_shdr 3 (type_set 1) ∷ set_shdr 3 (addralign_set 4) ∷ []) (step newscn symbols64)

abbrev pub two_bytes : Items
two_bytes = Bytes (1 ∷ 2 ∷ [])

-- with two bytes, and with a program header
abbrev pub extended : Object
extended = step (newphdr 1) (step (newdata 3 two_bytes) typed)

-- one byte more in section 1, aligned to eight, over another fill byte
abbrev pub spaced : Object
spaced = step (newdata_aligned 1 (Bytes (0x62 ∷ [])) 8) (step (set_fill 0xaa) symbols64)

-- a list that tells something of the third section
abbrev pub third : List Bool
third = false ∷ false ∷ true ∷ []

-- a call that may want memory and may fail to read
abbrev pub wanting : Wants
wanting = record { memory = true; read = true }

-- ---- Records

-- symbol 1 of the small images, with its value
abbrev pub named_symbol : ℕ → Sym
named_symbol value = record {
  name = 1;
  info = 0x12;
  other = 0;
  shndx = 0xfff1;
  value = value;
  size = 4;
}

abbrev pub no_symbol : Sym
no_symbol = record { name = 0; info = 0; other = 0; shndx = 0; value = 0; size = 0 }

-- the header of a section without a name, by its type, place, size and alignment
abbrev pub typed_shdr : ℕ → ℕ → ℕ → ℕ → Shdr
typed_shdr stype offset size align =
    record zero_shdr { stype = stype; offset = offset; size = size; addralign = align }

-- the header of the small image with other counts
abbrev pub with_shnum : ℕ → Ehdr
with_shnum n = record (header_of symbols64) { shnum = n }

abbrev pub with_shstrndx : ℕ → Ehdr
with_shstrndx n = record (header_of symbols64) { shstrndx = n }

abbrev pub with_phnum : ℕ → Ehdr
with_phnum n = record (header_of symbols64) { phnum = n }

-- section 0 beside a header
abbrev pub first_beside : Ehdr → Shdr
first_beside h = numbered_shdr h zero_shdr

-- with so many program headers, or sections, and a mark
abbrev pub with_segments : ℕ → Object
with_segments n = record (object_in header64) { phdrs = replicate n no_phdr; marked = true }

abbrev pub with_copies : ℕ → Section → Object
with_copies n c = record (object_in header64) { sections = replicate n c; marked = true }

-- the header and section 0 that are read back
abbrev pub read_back : {A : Type 0} → (Ehdr → Shdr → A) → Ehdr → A
read_back number h = number (written_header h) (first_beside h)

-- edits in a row
abbrev pub moved_twice : List (Call (Unit {0}))
moved_twice = set_shdr 2 (offset_set 66) ∷ set_shdr 2 (offset_set 67) ∷ []

abbrev pub typed_and_aligned : ℕ → ℕ → ℕ → List (Call (Unit {0}))
typed_and_aligned s stype align =
    set_shdr s (type_set stype) ∷ set_shdr s (addralign_set align) ∷ []

-- ELF_F_LAYOUT is set twice and cleared, a mark is not cleared, both are set, and the image is
-- measured
abbrev pub flagged_in_turn : List (Call ℕ)
flagged_in_turn =
    flag part.Object true 4
    ∷ flag part.Object true 4
    ∷ flag part.Object false 4
    ∷ flag part.Object false 1
    ∷ flag part.Object true 4
    ∷ flag part.Header true 1
    ∷ update_null
    ∷ []

-- the place of section 2 in the caller's layout
abbrev pub at_place : ℕ → Object → Object
at_place n o = step (set_shdr 2 (offset_set n)) (laid o)

-- the value of symbol 1 of section 2 is stored
abbrev pub stored_value : ℕ → Call (Unit {0})
stored_value n = set_item (sym 2 0 1) (λ v. update_sym 2 0 1 v) (value_set n)

abbrev pub out_of_memory : Result ℕ ElfError
out_of_memory = Err Memory

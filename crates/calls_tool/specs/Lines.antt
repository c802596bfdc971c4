-- The lines of answers. A number after `0x` is hexadecimal, any other is decimal.
use Rattle.std.specs.Prelude.{◌++◌, ℕ, List, [], ◌∷◌, flat_map, codes, decimal}
use Rattle.std.specs.Fmt.{signed_decimal}
use Rattle.elf_types.specs.declared.records.Class.{Class}
use Rattle.elf_types.specs.declared.records.Class.TheVariants.{C32, C64}
use Rattle.elf_types.specs.declared.records.Order.{Order}
use Rattle.elf_types.specs.declared.records.Order.TheVariants.{Least, Greatest}
use Rattle.elf_types.specs.declared.records.Kind.{Kind}
use Rattle.elf_types.specs.declared.records.Part.TheVariants as parts
use Rattle.elf_types.specs.declared.records.Ehdr.{Ehdr as EhdrRecord}
use Rattle.elf_types.specs.declared.records.Phdr.{Phdr as PhdrRecord}
use Rattle.elf_types.specs.declared.records.Shdr.{Shdr as ShdrRecord}
use Rattle.elf_types.specs.declared.records.Sym.{Sym as SymRecord}
use Rattle.elf_types.specs.declared.records.Rel.{Rel as RelRecord}
use Rattle.elf_types.specs.declared.records.Rela.{Rela as RelaRecord}
use Rattle.elf_types.specs.declared.records.Dyn.{Dyn as DynRecord}
use Rattle.elf_types.specs.declared.errors.ElfError.{ElfError}
use Rattle.elf_types.specs.Text.{hex, kind_text, part_text, error_text}
use Rattle.tool_output.specs.Columns.HexPairs.{hex_pair}
use Rattle.elf_calls_apply.specs.declared.answers.PieceItem.{PieceItem as ItemRecord}
use Rattle.elf_calls_apply.specs.declared.answers.PieceItem.TheVariants as items
use Rattle.symbol_lookup.specs.gelf_view.declared.notes.NoteAt.{NoteAt}
use Rattle.calls_tool.specs.declared.lines.columns.Number.{Number}
use Rattle.calls_tool.specs.declared.lines.columns.Number.TheVariants.{Decimal, Hex, Signed}
use Rattle.elf_calls_apply.specs.declared.answers.Answer.{Answer}
use Rattle.elf_calls_apply.specs.declared.answers.Answer.TheVariants.{Ehdr, Phdr, Shdr, Pieces, Data, Raw, Item, Str, Note, NoteEnd, Found, FoundNone, Done, Changed, Section, Piece, Flags, Size, Refused}

-- ---- Columns

-- a number, by the way it is written
unfoldable pub number_text : Number → List ℕ
number_text (Decimal n) = decimal n
number_text (Hex n) = codes "0x" ++ hex n
number_text (Signed n) = signed_decimal n

-- a text and a number
unfoldable pub column_text : List ℕ → Number → List ℕ
column_text text number = text ++ number_text number

abbrev pub columns_text : List (List ℕ × Number) → List ℕ
columns_text columns = flat_map (λ c. column_text c.0 c.1) columns

-- bytes, or `-` for none
unfoldable pub bytes_text : List ℕ → List ℕ
bytes_text [] = codes "-"
bytes_text (b ∷ bytes) = flat_map hex_pair (b ∷ bytes)

-- ---- Headers

unfoldable pub class_text : Class → List ℕ
class_text C32 = codes "ehdr class 32"
class_text C64 = codes "ehdr class 64"

unfoldable pub ehdr_order_text : Order → List ℕ
ehdr_order_text Least = codes " order least"
ehdr_order_text Greatest = codes " order greatest"

unfoldable pub ehdr_numbers_text : EhdrRecord → List ℕ
ehdr_numbers_text h = columns_text
    ((codes " osabi ", Decimal h.osabi)
    ∷ (codes " abiversion ", Decimal h.abiversion)
    ∷ (codes " type ", Decimal h.etype)
    ∷ (codes " machine ", Decimal h.machine)
    ∷ (codes " version ", Decimal h.version)
    ∷ (codes " entry ", Hex h.entry)
    ∷ (codes " phoff ", Decimal h.phoff)
    ∷ (codes " shoff ", Decimal h.shoff)
    ∷ (codes " flags ", Hex h.flags)
    ∷ (codes " ehsize ", Decimal h.ehsize)
    ∷ (codes " phentsize ", Decimal h.phentsize)
    ∷ (codes " phnum ", Decimal h.phnum)
    ∷ (codes " shentsize ", Decimal h.shentsize)
    ∷ (codes " shnum ", Decimal h.shnum)
    ∷ (codes " shstrndx ", Decimal h.shstrndx)
    ∷ [])

unfoldable pub ehdr_text : EhdrRecord → List ℕ
ehdr_text h = class_text h.class ++ ehdr_order_text h.order ++ ehdr_numbers_text h

unfoldable pub phdr_text : PhdrRecord → List ℕ
phdr_text h = columns_text
    ((codes "phdr type ", Hex h.ptype)
    ∷ (codes " flags ", Hex h.flags)
    ∷ (codes " offset ", Hex h.offset)
    ∷ (codes " vaddr ", Hex h.vaddr)
    ∷ (codes " paddr ", Hex h.paddr)
    ∷ (codes " filesz ", Hex h.filesz)
    ∷ (codes " memsz ", Hex h.memsz)
    ∷ (codes " align ", Hex h.align)
    ∷ [])

unfoldable pub shdr_text : ShdrRecord → List ℕ
shdr_text h = columns_text
    ((codes "shdr name ", Decimal h.name)
    ∷ (codes " type ", Hex h.stype)
    ∷ (codes " flags ", Hex h.flags)
    ∷ (codes " addr ", Hex h.addr)
    ∷ (codes " offset ", Hex h.offset)
    ∷ (codes " size ", Hex h.size)
    ∷ (codes " link ", Decimal h.link)
    ∷ (codes " info ", Decimal h.info)
    ∷ (codes " addralign ", Decimal h.addralign)
    ∷ (codes " entsize ", Decimal h.entsize)
    ∷ [])

-- ---- Items

unfoldable pub sym_text : SymRecord → List ℕ
sym_text s = columns_text
    ((codes "sym name ", Decimal s.name)
    ∷ (codes " value ", Hex s.value)
    ∷ (codes " size ", Decimal s.size)
    ∷ (codes " info ", Hex s.info)
    ∷ (codes " other ", Hex s.other)
    ∷ (codes " shndx ", Hex s.shndx)
    ∷ [])

unfoldable pub rel_text : RelRecord → List ℕ
rel_text r = columns_text
    ((codes "rel offset ", Hex r.offset)
    ∷ (codes " sym ", Decimal r.sym)
    ∷ (codes " type ", Decimal r.rtype)
    ∷ [])

unfoldable pub rela_place : RelaRecord → List ℕ
rela_place r = columns_text
    ((codes "rela offset ", Hex r.offset)
    ∷ (codes " sym ", Decimal r.sym)
    ∷ (codes " type ", Decimal r.rtype)
    ∷ [])

unfoldable pub rela_text : RelaRecord → List ℕ
rela_text r = rela_place r ++ column_text (codes " addend ") (Signed r.addend)

unfoldable pub dyn_text : DynRecord → List ℕ
dyn_text d = columns_text
    ((codes "dyn tag ", Signed d.tag)
    ∷ (codes " val ", Hex d.val)
    ∷ [])

unfoldable pub item_text : ItemRecord → List ℕ
item_text (items.Byte n) = column_text (codes "byte ") (Hex n)
item_text (items.Half n) = column_text (codes "half ") (Hex n)
item_text (items.Word n) = column_text (codes "word ") (Hex n)
item_text (items.Addr n) = column_text (codes "addr ") (Hex n)
item_text (items.Sym s) = sym_text s
item_text (items.Rel r) = rel_text r
item_text (items.Rela r) = rela_text r
item_text (items.Dyn d) = dyn_text d

-- ---- Answers

unfoldable pub data_text : Kind → ℕ → List ℕ
data_text kind count =
    codes "kind " ++ kind_text kind ++ column_text (codes " count ") (Decimal count)

unfoldable pub raw_text : List ℕ → List ℕ
raw_text bytes = codes "raw " ++ bytes_text bytes

unfoldable pub str_text : List ℕ → List ℕ
str_text bytes = codes "str [" ++ bytes ++ codes "]"

unfoldable pub note_answer_text : NoteAt → List ℕ
note_answer_text n = columns_text
    ((codes "note type ", Decimal n.ntype)
    ∷ (codes " namesz ", Decimal n.namesz)
    ∷ (codes " descsz ", Decimal n.descsz)
    ∷ (codes " next ", Decimal n.next)
    ∷ [])

unfoldable pub refused_text : ElfError → List ℕ
refused_text e = codes "refused " ++ error_text e

unfoldable pub answer_text : Answer → List ℕ
answer_text (Ehdr h) = ehdr_text h
answer_text (Phdr h) = phdr_text h
answer_text (Shdr h) = shdr_text h
answer_text (Pieces n) = column_text (codes "pieces ") (Decimal n)
answer_text (Data kind count) = data_text kind count
answer_text (Raw bytes) = raw_text bytes
answer_text (Item item) = item_text item
answer_text (Str bytes) = str_text bytes
answer_text (Note n) = note_answer_text n
answer_text NoteEnd = codes "note end"
answer_text (Found i) = column_text (codes "found ") (Decimal i)
answer_text FoundNone = codes "found none"
answer_text Done = codes "ok"
answer_text (Changed n) = column_text (codes "changed ") (Decimal n)
answer_text (Section s) = part_text (parts.Section s)
answer_text (Piece s p) = part_text (parts.Piece s p)
answer_text (Flags f) = column_text (codes "flags ") (Hex f)
answer_text (Size n) = column_text (codes "size ") (Decimal n)
answer_text (Refused e) = refused_text e

-- the line of an answer
unfoldable pub answer_line : Answer → List ℕ
answer_line answer = answer_text answer ++ codes "\n"

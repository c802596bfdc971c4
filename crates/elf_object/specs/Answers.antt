-- What stands in an object for each call to read (elf(3E), gelf(3E)): items, flags, and the
-- refusals by index, kind and home, each of which carries what shows it.
use Rattle.std.specs.Prelude.{ℕ, ◌+◌, ◌/◌, ◌%◌, Bool, false, not, ◌==◌, nat_le, List, [], ◌∷◌, length, slice_get, Option, Some, None, if◌then◌else◌, Result, Ok, Err}
use Rattle.elf_types.specs.declared.records.Kind.{Kind}
use Rattle.elf_types.specs.declared.records.Kind.TheVariants as kinds
use Rattle.elf_types.specs.declared.records.Part.{Part}
use Rattle.elf_types.specs.declared.records.Part.TheVariants as part
use Rattle.elf_types.specs.declared.records.Sym.{Sym}
use Rattle.elf_types.specs.declared.records.Rel.{Rel}
use Rattle.elf_types.specs.declared.records.Rela.{Rela}
use Rattle.elf_types.specs.declared.records.Dyn.{Dyn}
use Rattle.elf_types.specs.declared.errors.ElfError.{ElfError}
use Rattle.elf_types.specs.declared.errors.ElfError.TheVariants.{NoSection, NoData, NoEntry, WrongKind, OutOfFile, Ragged, Reserved}
use Rattle.elf_types.specs.declared.records.TheConstants.{DIRTY, LAYOUT}
use Rattle.elf_ident.specs.elf_xlate.declared.content.Items.{Items}
use Rattle.elf_ident.specs.elf_xlate.declared.content.Items.TheVariants as items
use Rattle.elf_ident.specs.elf_xlate.Translation.{decoded, items_kind, items_count}
use Rattle.elf_types.specs.Answers.{refused_if, first_refusal, err_of}
use Rattle.elf_object.specs.Object.{Object, section_at, piece_at}

-- ---- Content

-- the items of a home: it is out of the file or ragged, or its bytes hold them
unfoldable pub content : Object → ℕ → Result Items ElfError
content o s =
    let c = section_at o s in
    if c.home.out then Err (OutOfFile s)
    else (elim (decoded c.home.kind o.header.class o.header.order c.raw) [
      | None ↦ Err (Ragged s)
      | Some items ↦ Ok items
    ])

abbrev pub or_empty : Result Items ElfError → Items
or_empty (Ok items) = items
or_empty (Err e) = items.Empty

-- the items of a piece: its own, or for the clean home piece the content
unfoldable pub items_at : Object → ℕ → ℕ → Items
items_at o s p = elim ((piece_at o s p).own) [ None ↦ or_empty (content o s) | Some items ↦ items ]

-- the kind that a piece holds
unfoldable pub kind_at : Object → ℕ → ℕ → Kind
kind_at o s p =
    elim ((piece_at o s p).own) [
      | None ↦ (section_at o s).home.kind
      | Some items ↦ items_kind items
    ]

-- the number of its items
unfoldable pub count_at : Object → ℕ → ℕ → ℕ
count_at o s p = items_count (items_at o s p)

-- the number of a section's pieces
unfoldable pub piece_count : Object → ℕ → ℕ
piece_count o s = length (section_at o s).pieces

-- ---- Refusals

abbrev pub no_section : Object → ℕ → Option ElfError
no_section o s = refused_if (nat_le (length o.sections) s) (NoSection s (length o.sections))

abbrev pub no_data : Object → ℕ → ℕ → Option ElfError
no_data o s p = refused_if (nat_le (piece_count o s) p) (NoData p (piece_count o s))

abbrev pub no_entry : ℕ → ℕ → Option ElfError
no_entry i count = refused_if (nat_le count i) (NoEntry i count)

abbrev pub reserved : ℕ → Option ElfError
reserved s = refused_if (s == 0) Reserved

-- a number for each kind, by which two kinds are compared
abbrev pub kind_code : Kind → ℕ
kind_code kinds.Empty = 0
kind_code kinds.Bytes = 1
kind_code kinds.Half = 2
kind_code kinds.Word = 3
kind_code kinds.Addr = 4
kind_code kinds.Sym = 5
kind_code kinds.Rel = 6
kind_code kinds.Rela = 7
kind_code kinds.Dyn = 8

abbrev pub same_kind : Kind → Kind → Bool
same_kind a b = kind_code a == kind_code b

abbrev pub wrong_kind : Object → Kind → ℕ → ℕ → Option ElfError
wrong_kind o kind s p =
    refused_if (not (same_kind (kind_at o s p) kind)) (WrongKind (kind_at o s p))

-- the home is out of the file
abbrev pub out_of_file : Object → ℕ → Option ElfError
out_of_file o s = refused_if (section_at o s).home.out (OutOfFile s)

-- the piece is the clean home piece, and its home is out of the file or ragged
unfoldable pub no_content : Object → ℕ → ℕ → Option ElfError
no_content o s p = elim ((piece_at o s p).own) [ None ↦ err_of (content o s) | Some items ↦ None ]

-- of the calls that name a piece and read nothing
unfoldable pub piece_refusal : Object → ℕ → ℕ → Option ElfError
piece_refusal o s p = first_refusal (no_section o s ∷ no_data o s p ∷ [])

-- of elf_getdata
unfoldable pub data_refusal : Object → ℕ → ℕ → Option ElfError
data_refusal o s p = first_refusal (no_section o s ∷ no_data o s p ∷ no_content o s p ∷ [])

-- of elf_rawdata
unfoldable pub raw_refusal : Object → ℕ → Option ElfError
raw_refusal o s = first_refusal (no_section o s ∷ out_of_file o s ∷ [])

-- of the calls that hand out the items of a kind
unfoldable pub lend_refusal : Object → Kind → ℕ → ℕ → Option ElfError
lend_refusal o kind s p =
    first_refusal (no_section o s ∷ no_data o s p ∷ wrong_kind o kind s p ∷ no_content o s p ∷ [])

-- of the calls that give an item of a kind
unfoldable pub item_refusal : Object → Kind → ℕ → ℕ → ℕ → Option ElfError
item_refusal o kind s p i =
    first_refusal (lend_refusal o kind s p ∷ no_entry i (count_at o s p) ∷ [])

-- ---- Items

-- the lists of items, each of its kind
abbrev pub bytes_of : Items → List ℕ
bytes_of (items.Bytes l) = l
bytes_of _ = []

abbrev pub halves_of : Items → List ℕ
halves_of (items.Half l) = l
halves_of _ = []

abbrev pub words_of : Items → List ℕ
words_of (items.Word l) = l
words_of _ = []

abbrev pub addrs_of : Items → List ℕ
addrs_of (items.Addr l) = l
addrs_of _ = []

abbrev pub syms_of : Items → List Sym
syms_of (items.Sym l) = l
syms_of _ = []

abbrev pub rels_of : Items → List Rel
rels_of (items.Rel l) = l
rels_of _ = []

abbrev pub relas_of : Items → List Rela
relas_of (items.Rela l) = l
relas_of _ = []

abbrev pub dyns_of : Items → List Dyn
dyns_of (items.Dyn l) = l
dyns_of _ = []

-- the entry at an index, or that there is none
abbrev pub entry_at : {A : Type 0} → List A → ℕ → Result A ElfError
entry_at l i = elim (slice_get l i) [ None ↦ Err (NoEntry i (length l)) | Some x ↦ Ok x ]

-- the same behind refusals that come before
abbrev pub entry_answer : {A : Type 0} → Option ElfError → List A → ℕ → Result A ElfError
entry_answer None l i = entry_at l i
entry_answer (Some e) l i = Err e

-- ---- Flags (elf_flagelf and its like)

-- whether the bits have ELF_F_DIRTY and ELF_F_LAYOUT
abbrev pub has_dirty : ℕ → Bool
has_dirty bits = bits / DIRTY % 2 == 1

abbrev pub has_layout : ℕ → Bool
has_layout bits = bits / LAYOUT % 2 == 1

abbrev pub flag_bits : Bool → Bool → ℕ
flag_bits dirty layout = (if dirty then DIRTY else 0) + (if layout then LAYOUT else 0)

-- the flags of a part; the section header table has those of the object
unfoldable pub flags_of : Object → Part → ℕ
flags_of o part.Object = flag_bits o.marked o.layout
flags_of o part.Table = flag_bits o.marked o.layout
flags_of o part.Header = flag_bits o.header_marked false
flags_of o part.Segments = flag_bits o.segments_marked false
flags_of o (part.Section s) = flag_bits (section_at o s).marked false
flags_of o (part.Piece s p) = flag_bits (piece_at o s p).marked false

-- of the calls that name a part
unfoldable pub part_refusal : Object → Part → Option ElfError
part_refusal o part.Object = None
part_refusal o part.Table = None
part_refusal o part.Header = None
part_refusal o part.Segments = None
part_refusal o (part.Section s) = no_section o s
part_refusal o (part.Piece s p) = piece_refusal o s p

-- The items of a section's data (gABI chapter 4, "Data Representation", "Symbol Table" and
-- "Relocation", chapter 5, "Dynamic Section"). Each has one table for both classes, by which it is
-- read and written. A field has its name there: place and width in class 32, and then in class 64.
use Rattle.std.specs.Prelude.{ℕ, ◌+◌, ◌*◌, ◌/◌, ◌%◌, ◌^◌, ◌<◌, List, [], ◌∷◌, Bool, true, ◌&&◌, nat_lt}
use Rattle.elf_types.specs.declared.records.Class.{Class}
use Rattle.elf_types.specs.declared.records.Class.TheVariants.{C32, C64}
use Rattle.elf_types.specs.declared.records.Order.{Order}
use Rattle.elf_types.specs.declared.records.Kind.{Kind}
use Rattle.elf_types.specs.declared.records.Kind.TheVariants as kinds
use Rattle.elf_types.specs.declared.records.Sym.{Sym}
use Rattle.elf_types.specs.declared.records.Rel.{Rel}
use Rattle.elf_types.specs.declared.records.Rela.{Rela}
use Rattle.elf_types.specs.declared.records.Dyn.{Dyn}
use Rattle.elf_xlate.specs.Numbers.{signed_of, unsigned_of}
use Rattle.elf_xlate.specs.Fields.{Field, field, number_in, record_bytes, fits, fits_signed, IsSigned}

-- the number of bytes of an item in the file
abbrev pub item_size : Kind → Class → ℕ
item_size kinds.Empty class = 0
item_size kinds.Bytes class = 1
item_size kinds.Half class = 2
item_size kinds.Word class = 4
item_size kinds.Addr C32 = 4
item_size kinds.Addr C64 = 8
item_size kinds.Sym C32 = 16
item_size kinds.Sym C64 = 24
item_size kinds.Rel C32 = 8
item_size kinds.Rel C64 = 16
item_size kinds.Rela C32 = 12
item_size kinds.Rela C64 = 24
item_size kinds.Dyn C32 = 8
item_size kinds.Dyn C64 = 16

-- ---- Numbers: Half, Word and Addr ("Data Representation")

abbrev pub half_field : Field
half_field = field (0, 2) (0, 2)

unfoldable pub half_fields : List Field
half_fields = half_field ∷ []

unfoldable pub half_of : Class → Order → List ℕ → ℕ
half_of class order bytes = number_in class order bytes half_field

unfoldable pub half_bytes : Class → Order → ℕ → List ℕ
half_bytes class order n =
    record_bytes class order (item_size kinds.Half class) half_fields (n ∷ [])

abbrev pub word_field : Field
word_field = field (0, 4) (0, 4)

unfoldable pub word_fields : List Field
word_fields = word_field ∷ []

unfoldable pub word_of : Class → Order → List ℕ → ℕ
word_of class order bytes = number_in class order bytes word_field

unfoldable pub word_bytes : Class → Order → ℕ → List ℕ
word_bytes class order n =
    record_bytes class order (item_size kinds.Word class) word_fields (n ∷ [])

abbrev pub addr_field : Field
addr_field = field (0, 4) (0, 8)

unfoldable pub addr_fields : List Field
addr_fields = addr_field ∷ []

unfoldable pub addr_of : Class → Order → List ℕ → ℕ
addr_of class order bytes = number_in class order bytes addr_field

unfoldable pub addr_bytes : Class → Order → ℕ → List ℕ
addr_bytes class order n =
    record_bytes class order (item_size kinds.Addr class) addr_fields (n ∷ [])

-- ---- Symbols ("Symbol Table")

abbrev pub st_name : Field
st_name = field (0, 4) (0, 4)

abbrev pub st_info : Field
st_info = field (12, 1) (4, 1)

abbrev pub st_other : Field
st_other = field (13, 1) (5, 1)

abbrev pub st_shndx : Field
st_shndx = field (14, 2) (6, 2)

abbrev pub st_value : Field
st_value = field (4, 4) (8, 8)

abbrev pub st_size : Field
st_size = field (8, 4) (16, 8)

unfoldable pub sym_fields : List Field
sym_fields =
    st_name ∷ st_info ∷ st_other ∷ st_shndx ∷ st_value ∷ st_size ∷ []

abbrev pub sym_numbers : Sym → List ℕ
sym_numbers s = s.name ∷ s.info ∷ s.other ∷ s.shndx ∷ s.value ∷ s.size ∷ []

unfoldable pub sym_of : Class → Order → List ℕ → Sym
sym_of class order bytes = record {
  name = number_in class order bytes st_name;
  info = number_in class order bytes st_info;
  other = number_in class order bytes st_other;
  shndx = number_in class order bytes st_shndx;
  value = number_in class order bytes st_value;
  size = number_in class order bytes st_size;
}

unfoldable pub sym_bytes : Class → Order → Sym → List ℕ
sym_bytes class order s =
    record_bytes class order (item_size kinds.Sym class) sym_fields (sym_numbers s)

unfoldable pub sym_fits : Class → Sym → Bool
sym_fits class s = fits class s.value && fits class s.size

-- each field is in the range of its type
pub record IsSym (s : Sym) : Type 0 where
  pub name : s.name < 2 ^ 32
  pub info : s.info < 2 ^ 8
  pub other : s.other < 2 ^ 8
  pub shndx : s.shndx < 2 ^ 16
  pub value : s.value < 2 ^ 64
  pub size : s.size < 2 ^ 64

-- ---- Relocations ("Relocation"): r_info is the symbol's index and the type

-- the number of relocation types: the type is r_info modulo it, and the symbol's index the quotient
abbrev pub type_range : Class → ℕ
type_range C32 = 2 ^ 8
type_range C64 = 2 ^ 32

abbrev pub r_offset : Field
r_offset = field (0, 4) (0, 8)

abbrev pub r_info : Field
r_info = field (4, 4) (8, 8)

unfoldable pub rel_fields : List Field
rel_fields =
    r_offset ∷ r_info ∷ []

abbrev pub rel_numbers : Class → Rel → List ℕ
rel_numbers class r = r.offset ∷ (r.sym * type_range class + r.rtype) ∷ []

unfoldable pub rel_of : Class → Order → List ℕ → Rel
rel_of class order bytes = record {
  offset = number_in class order bytes r_offset;
  sym = number_in class order bytes r_info / type_range class;
  rtype = number_in class order bytes r_info % type_range class;
}

unfoldable pub rel_bytes : Class → Order → Rel → List ℕ
rel_bytes class order r =
    record_bytes class order (item_size kinds.Rel class) rel_fields (rel_numbers class r)

-- whether the symbol's index and the type fit r_info
abbrev pub info_fits : Class → ℕ → ℕ → Bool
info_fits C32 sym rtype = nat_lt sym (2 ^ 24) && nat_lt rtype (2 ^ 8)
info_fits C64 sym rtype = true

unfoldable pub rel_fits : Class → Rel → Bool
rel_fits class r = fits class r.offset && info_fits class r.sym r.rtype

-- each field is in the range of its type
pub record IsRel (r : Rel) : Type 0 where
  pub offset : r.offset < 2 ^ 64
  pub sym : r.sym < 2 ^ 32
  pub rtype : r.rtype < 2 ^ 32

abbrev pub r_addend : Field
r_addend = field (8, 4) (16, 8)  -- signed

unfoldable pub rela_fields : List Field
rela_fields =
    r_offset ∷ r_info ∷ r_addend ∷ []

-- the width of an addend, and of a tag
abbrev pub signed_width : Class → ℕ
signed_width C32 = 4
signed_width C64 = 8

abbrev pub rela_numbers : Class → Rela → List ℕ
rela_numbers class r =
    r.offset ∷ (r.sym * type_range class + r.rtype) ∷ unsigned_of (signed_width class) r.addend ∷ []

unfoldable pub rela_of : Class → Order → List ℕ → Rela
rela_of class order bytes = record {
  offset = number_in class order bytes r_offset;
  sym = number_in class order bytes r_info / type_range class;
  rtype = number_in class order bytes r_info % type_range class;
  addend = signed_of (signed_width class) (number_in class order bytes r_addend);
}

unfoldable pub rela_bytes : Class → Order → Rela → List ℕ
rela_bytes class order r =
    record_bytes class order (item_size kinds.Rela class) rela_fields (rela_numbers class r)

unfoldable pub rela_fits : Class → Rela → Bool
rela_fits class r =
    fits class r.offset && info_fits class r.sym r.rtype && fits_signed class r.addend

-- each field is in the range of its type
pub record IsRela (r : Rela) : Type 0 where
  pub offset : r.offset < 2 ^ 64
  pub sym : r.sym < 2 ^ 32
  pub rtype : r.rtype < 2 ^ 32
  pub addend : IsSigned r.addend

-- ---- Entries of the dynamic section ("Dynamic Section")

abbrev pub d_tag : Field
d_tag = field (0, 4) (0, 8)  -- signed

abbrev pub d_val : Field
d_val = field (4, 4) (8, 8)

unfoldable pub dyn_fields : List Field
dyn_fields =
    d_tag ∷ d_val ∷ []

abbrev pub dyn_numbers : Class → Dyn → List ℕ
dyn_numbers class d = unsigned_of (signed_width class) d.tag ∷ d.val ∷ []

unfoldable pub dyn_of : Class → Order → List ℕ → Dyn
dyn_of class order bytes = record {
  tag = signed_of (signed_width class) (number_in class order bytes d_tag);
  val = number_in class order bytes d_val;
}

unfoldable pub dyn_bytes : Class → Order → Dyn → List ℕ
dyn_bytes class order d =
    record_bytes class order (item_size kinds.Dyn class) dyn_fields (dyn_numbers class d)

unfoldable pub dyn_fits : Class → Dyn → Bool
dyn_fits class d = fits_signed class d.tag && fits class d.val

-- each field is in the range of its type
pub record IsDyn (d : Dyn) : Type 0 where
  pub tag : IsSigned d.tag
  pub val : d.val < 2 ^ 64

-- The symbols of an image that two ranges of its bytes hold, by its front (gABI chapter 4,
-- "Sections", "Symbol Table" and "String Table").
use Rattle.std.specs.Prelude.{◌≡◌, ◌≤◌, ◌+◌, ◌^◌, ◌==◌, ◌&&◌, not, ℕ, Bool, false, IsTrue, slice_get, Some, None}
use Rattle.std.specs.List.{position, list_any}
use Rattle.elf_types.specs.declared.constants.TheConstants.{SHT_SYMTAB, SHT_STRTAB, SHT_SYMTAB_SHNDX}
use Rattle.elf_types.specs.declared.records.Class.{Class}
use Rattle.elf_types.specs.declared.records.Kind.TheVariants as kinds
use Rattle.elf_types.specs.declared.records.Shdr.{Shdr}
use Rattle.elf_types.specs.Kinds.{is_compressed}
use Rattle.elf_xlate.specs.Translation.{is_whole}
use Rattle.elf_ident.specs.declared.fronts.Front.{Front}
use Rattle.nm_front.specs.declared.tables.PlainTable.{PlainTable}
use Rattle.nm_front.specs.declared.tables.FrontSymbols.{FrontSymbols}
use Rattle.nm_front.specs.declared.tables.FrontSymbols.TheVariants.{Missing, Plain, Other}

-- a section of type SHT_SYMTAB whose data is not compressed
abbrev pub is_symbols : Shdr → Bool
is_symbols h = h.stype == SHT_SYMTAB && not (is_compressed h.flags)

-- a table of extended indexes
abbrev pub is_indexes : Shdr → Bool
is_indexes h = h.stype == SHT_SYMTAB_SHNDX

-- the bytes of a section lie in an image of a length
abbrev pub LiesInImage : ℕ → Shdr → Type 0
LiesInImage len h = h.offset + h.size ≤ len

-- a section has whole symbols, no more than have indexes of 32 bits, and lies in such an image
pub record ArePlain (class : Class) (len : ℕ) (h : Shdr) : Type 0 where
  pub few : h.size ≤ 2 ^ 36
  pub whole : IsTrue (is_whole kinds.Sym class h.size)
  pub inside : LiesInImage len h

-- such a table, which has no extended indexes, and the section of strings to which it links
pub record IsPlain (f : Front) (len : ℕ) (t : PlainTable) : Type 0 where
  pub there : slice_get f.shdrs t.section ≡ Some t.symbols
  pub symbols : ArePlain f.ehdr.class len t.symbols
  pub unindexed : list_any is_indexes f.shdrs ≡ false
  pub linked : slice_get f.shdrs t.symbols.link ≡ Some t.names
  pub strings : t.names.stype ≡ SHT_STRTAB
  pub inside : LiesInImage len t.names

-- what a front tells of the first table of symbols
abbrev pub Tells : Front → ℕ → FrontSymbols → Type 0
Tells f len Missing = position is_symbols f.shdrs ≡ None
Tells f len (Plain t) = (position is_symbols f.shdrs ≡ Some t.section) × IsPlain f len t
Tells f len Other = Unit {0}

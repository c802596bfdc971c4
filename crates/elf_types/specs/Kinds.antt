-- What a section's data consists of, by its header (gABI chapter 4, "Sections"; the version
-- sections are GNU's).
use Rattle.std.specs.Prelude.{◌==◌, ◌||◌, ◌/◌, ◌%◌, ℕ, List, [], ◌∷◌, Bool, if◌then◌else◌}
use Rattle.elf_types.specs.declared.records.Kind.{Kind}
use Rattle.elf_types.specs.declared.records.Kind.TheVariants.{Empty, Bytes, Half, Word, Addr, Sym, Rel, Rela, Dyn}
use Rattle.elf_types.specs.declared.records.Shdr.{Shdr}
use Rattle.elf_types.specs.declared.constants.TheConstants.{SHT_NULL, SHT_SYMTAB, SHT_RELA, SHT_HASH, SHT_DYNAMIC, SHT_NOBITS, SHT_REL, SHT_DYNSYM, SHT_INIT_ARRAY, SHT_FINI_ARRAY, SHT_PREINIT_ARRAY, SHT_GROUP, SHT_SYMTAB_SHNDX, SHT_GNU_VERSYM, SHF_COMPRESSED}

-- whether a section header has a flag, which is a power of two
abbrev pub has_flag : ℕ → Shdr → Bool
has_flag flag h = h.flags / flag % 2 == 1

-- whether the flag SHF_COMPRESSED, bit 11, is set
unfoldable pub is_compressed : ℕ → Bool
is_compressed flags = flags / SHF_COMPRESSED % 2 == 1

-- SHT_HASH: a table of words, but on the machines whose entries have eight bytes
abbrev pub hash_kind : ℕ → Kind
hash_kind entsize = if entsize == 8 then Bytes else Word

-- the types whose items are no bytes, each with the kind of its items
abbrev pub kinds_of_types : ℕ → List (ℕ × Kind)
kinds_of_types entsize =
    (SHT_SYMTAB, Sym)
    ∷ (SHT_DYNSYM, Sym)
    ∷ (SHT_RELA, Rela)
    ∷ (SHT_REL, Rel)
    ∷ (SHT_DYNAMIC, Dyn)
    ∷ (SHT_HASH, hash_kind entsize)
    ∷ (SHT_GROUP, Word)
    ∷ (SHT_SYMTAB_SHNDX, Word)
    ∷ (SHT_GNU_VERSYM, Half)
    ∷ (SHT_INIT_ARRAY, Addr)
    ∷ (SHT_FINI_ARRAY, Addr)
    ∷ (SHT_PREINIT_ARRAY, Addr) ∷ []

-- the kind in the row of a type, and bytes where it has none
abbrev pub kind_in : List (ℕ × Kind) → ℕ → Kind
kind_in [] stype = Bytes
kind_in (row ∷ rows) stype = if stype == row.0 then row.1 else kind_in rows stype

-- the kind by the section's type, of a section that is neither empty nor compressed
unfoldable pub kind_of_type : ℕ → ℕ → Kind
kind_of_type stype entsize = kind_in (kinds_of_types entsize) stype

-- the kind of a section's items
unfoldable pub section_kind : Shdr → Kind
section_kind h =
    if h.stype == SHT_NULL || h.stype == SHT_NOBITS then Empty
    else (if is_compressed h.flags then Bytes
    else kind_of_type h.stype h.entsize)

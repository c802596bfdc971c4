-- The constants of the standard and the limits of elfkit, each name beside its number, as tables
-- that stand beside the standard's.
use Rattle.std.specs.Prelude.{ℕ, ◌^◌, ◌==◌, ◌&&◌, Bool, true, List, [], ◌∷◌}
use Rattle.elf_types.specs.declared.constants.TheConstants.{EI_CLASS, EI_DATA, EI_VERSION, EI_OSABI, EI_ABIVERSION, EI_PAD, EI_NIDENT, ELFCLASS32, ELFCLASS64, ELFDATA2LSB, ELFDATA2MSB, EV_CURRENT, SHN_UNDEF, SHN_LORESERVE, SHN_ABS, SHN_COMMON, SHN_XINDEX, PN_XNUM, SHT_NULL, SHT_PROGBITS, SHT_SYMTAB, SHT_STRTAB, SHT_RELA, SHT_HASH, SHT_DYNAMIC, SHT_NOTE, SHT_NOBITS, SHT_REL, SHT_DYNSYM, SHT_INIT_ARRAY, SHT_FINI_ARRAY, SHT_PREINIT_ARRAY, SHT_GROUP, SHT_SYMTAB_SHNDX, SHT_GNU_HASH, SHT_GNU_VERDEF, SHT_GNU_VERNEED, SHT_GNU_VERSYM, SHF_WRITE, SHF_ALLOC, SHF_EXECINSTR, SHF_INFO_LINK, SHF_TLS, SHF_COMPRESSED, PT_NULL, PT_LOAD, PF_X, PF_W, PF_R, STB_LOCAL, STB_GLOBAL, STB_WEAK, STT_OBJECT, STT_SECTION, STT_FILE, STB_GNU_UNIQUE, STT_GNU_IFUNC, MAX_IMAGE, MAX_SECTIONS, MAX_SEGMENTS, MAX_PIECES, MAX_PIECE_ALIGN}
use Rattle.elf_types.specs.declared.records.TheConstants.{DIRTY, LAYOUT}

-- in each row the constant is the number beside it
abbrev pub are_numbers : List (ℕ × ℕ) → Bool
are_numbers [] = true
are_numbers (row ∷ rows) = row.0 == row.1 && are_numbers rows

-- ELF identification (gABI chapter 4, "ELF Identification")
abbrev pub identification : List (ℕ × ℕ)
identification =
    (EI_CLASS, 4) ∷
    (EI_DATA, 5) ∷
    (EI_VERSION, 6) ∷
    (EI_OSABI, 7) ∷
    (EI_ABIVERSION, 8) ∷
    (EI_PAD, 9) ∷
    (EI_NIDENT, 16) ∷
    (ELFCLASS32, 1) ∷
    (ELFCLASS64, 2) ∷
    (ELFDATA2LSB, 1) ∷
    (ELFDATA2MSB, 2) ∷
    (EV_CURRENT, 1) ∷ []

-- Extended numbering (gABI chapter 4, "Sections", and chapter 5, "Program Header")
abbrev pub numbering : List (ℕ × ℕ)
numbering =
    (SHN_UNDEF, 0) ∷
    (SHN_LORESERVE, 0xff00) ∷
    (SHN_ABS, 0xfff1) ∷
    (SHN_COMMON, 0xfff2) ∷
    (SHN_XINDEX, 0xffff) ∷
    (PN_XNUM, 0xffff) ∷ []

-- Section types (gABI chapter 4, "Sections"; the types of version and hash sections are GNU's)
abbrev pub section_types : List (ℕ × ℕ)
section_types =
    (SHT_NULL, 0) ∷
    (SHT_PROGBITS, 1) ∷
    (SHT_SYMTAB, 2) ∷
    (SHT_STRTAB, 3) ∷
    (SHT_RELA, 4) ∷
    (SHT_HASH, 5) ∷
    (SHT_DYNAMIC, 6) ∷
    (SHT_NOTE, 7) ∷
    (SHT_NOBITS, 8) ∷
    (SHT_REL, 9) ∷
    (SHT_DYNSYM, 11) ∷
    (SHT_INIT_ARRAY, 14) ∷
    (SHT_FINI_ARRAY, 15) ∷
    (SHT_PREINIT_ARRAY, 16) ∷
    (SHT_GROUP, 17) ∷
    (SHT_SYMTAB_SHNDX, 18) ∷
    (SHT_GNU_HASH, 0x6ffffff6) ∷
    (SHT_GNU_VERDEF, 0x6ffffffd) ∷
    (SHT_GNU_VERNEED, 0x6ffffffe) ∷
    (SHT_GNU_VERSYM, 0x6fffffff) ∷ []

-- Section flags (gABI chapter 4, "Sections")
abbrev pub section_flags : List (ℕ × ℕ)
section_flags =
    (SHF_WRITE, 0x1) ∷
    (SHF_ALLOC, 0x2) ∷
    (SHF_EXECINSTR, 0x4) ∷
    (SHF_INFO_LINK, 0x40) ∷
    (SHF_TLS, 0x400) ∷
    (SHF_COMPRESSED, 0x800) ∷ []

-- Segments (gABI chapter 5, "Program Header")
abbrev pub segments : List (ℕ × ℕ)
segments =
    (PT_NULL, 0) ∷
    (PT_LOAD, 1) ∷
    (PF_X, 0x1) ∷
    (PF_W, 0x2) ∷
    (PF_R, 0x4) ∷ []

-- Symbols (gABI chapter 4, "Symbol Table"; the last two are GNU's)
abbrev pub symbols : List (ℕ × ℕ)
symbols =
    (STB_LOCAL, 0) ∷
    (STB_GLOBAL, 1) ∷
    (STB_WEAK, 2) ∷
    (STT_OBJECT, 1) ∷
    (STT_SECTION, 3) ∷
    (STT_FILE, 4) ∷
    (STB_GNU_UNIQUE, 10) ∷
    (STT_GNU_IFUNC, 10) ∷ []

-- Limits (those of elfkit)
abbrev pub limits : List (ℕ × ℕ)
limits =
    (MAX_IMAGE, 2 ^ 40) ∷
    (MAX_SECTIONS, 2 ^ 20) ∷
    (MAX_SEGMENTS, 2 ^ 20) ∷
    (MAX_PIECES, 2 ^ 20) ∷
    (MAX_PIECE_ALIGN, 2 ^ 20) ∷ []

-- Flags of a part (elf(3E): ELF_F_DIRTY, ELF_F_LAYOUT)
abbrev pub part_flags : List (ℕ × ℕ)
part_flags =
    (DIRTY, 1) ∷
    (LAYOUT, 4) ∷ []

-- the magic number of an ELF image: 0x7f and the letters ELF
abbrev pub elf_magic : List ℕ
elf_magic = 0x7f ∷ 0x45 ∷ 0x4c ∷ 0x46 ∷ []

-- the first line of an archive: !<arch> and a newline
abbrev pub archive_magic : List ℕ
archive_magic = 0x21 ∷ 0x3c ∷ 0x61 ∷ 0x72 ∷ 0x63 ∷ 0x68 ∷ 0x3e ∷ 0x0a ∷ []

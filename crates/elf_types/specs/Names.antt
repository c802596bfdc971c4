-- The names of numbers, as tables that stand beside the standard's.
use Rattle.std.specs.Prelude.{ℕ, List, [], ◌∷◌, Option, Some, None, ◌==◌, if◌then◌else◌, codes, ℤ, pos, negsuc}

-- the name that a table gives a number: that of its first row with the number
abbrev pub name_in : List (ℕ × List ℕ) → ℕ → Option (List ℕ)
name_in [] n = None
name_in (row ∷ rows) n = if row.0 == n then Some row.1 else name_in rows n

-- e_type (gABI chapter 4, "ELF Header")
unfoldable pub object_type_names : List (ℕ × List ℕ)
object_type_names =
    (0, codes "NONE") ∷
    (1, codes "REL") ∷
    (2, codes "EXEC") ∷
    (3, codes "DYN") ∷
    (4, codes "CORE") ∷ []

-- the name of e_type
unfoldable pub object_type_name_of : ℕ → Option (List ℕ)
object_type_name_of n = name_in object_type_names n

-- e_machine (gABI chapter 4, "ELF Header")
unfoldable pub machine_names : List (ℕ × List ℕ)
machine_names =
    (0, codes "NONE") ∷
    (2, codes "SPARC") ∷
    (3, codes "386") ∷
    (8, codes "MIPS") ∷
    (20, codes "PPC") ∷
    (21, codes "PPC64") ∷
    (22, codes "S390") ∷
    (40, codes "ARM") ∷
    (50, codes "IA_64") ∷
    (62, codes "X86_64") ∷
    (183, codes "AARCH64") ∷
    (243, codes "RISCV") ∷ []

-- the name of e_machine
unfoldable pub machine_name_of : ℕ → Option (List ℕ)
machine_name_of n = name_in machine_names n

-- sh_type (gABI chapter 4, "Sections"; the last four are GNU's)
unfoldable pub section_type_names : List (ℕ × List ℕ)
section_type_names =
    (0, codes "NULL") ∷
    (1, codes "PROGBITS") ∷
    (2, codes "SYMTAB") ∷
    (3, codes "STRTAB") ∷
    (4, codes "RELA") ∷
    (5, codes "HASH") ∷
    (6, codes "DYNAMIC") ∷
    (7, codes "NOTE") ∷
    (8, codes "NOBITS") ∷
    (9, codes "REL") ∷
    (10, codes "SHLIB") ∷
    (11, codes "DYNSYM") ∷
    (14, codes "INIT_ARRAY") ∷
    (15, codes "FINI_ARRAY") ∷
    (16, codes "PREINIT_ARRAY") ∷
    (17, codes "GROUP") ∷
    (18, codes "SYMTAB_SHNDX") ∷
    (0x6ffffff6, codes "GNU_HASH") ∷
    (0x6ffffffd, codes "GNU_verdef") ∷
    (0x6ffffffe, codes "GNU_verneed") ∷
    (0x6fffffff, codes "GNU_versym") ∷ []

-- the name of sh_type
unfoldable pub section_type_name_of : ℕ → Option (List ℕ)
section_type_name_of n = name_in section_type_names n

-- p_type (gABI chapter 5, "Program Header"; the last four are GNU's)
unfoldable pub segment_type_names : List (ℕ × List ℕ)
segment_type_names =
    (0, codes "NULL") ∷
    (1, codes "LOAD") ∷
    (2, codes "DYNAMIC") ∷
    (3, codes "INTERP") ∷
    (4, codes "NOTE") ∷
    (5, codes "SHLIB") ∷
    (6, codes "PHDR") ∷
    (7, codes "TLS") ∷
    (0x6474e550, codes "GNU_EH_FRAME") ∷
    (0x6474e551, codes "GNU_STACK") ∷
    (0x6474e552, codes "GNU_RELRO") ∷
    (0x6474e553, codes "GNU_PROPERTY") ∷ []

-- the name of p_type
unfoldable pub segment_type_name_of : ℕ → Option (List ℕ)
segment_type_name_of n = name_in segment_type_names n

-- a symbol's type (gABI chapter 4, "Symbol Table"; the last one is GNU's)
unfoldable pub symbol_type_names : List (ℕ × List ℕ)
symbol_type_names =
    (0, codes "NOTYPE") ∷
    (1, codes "OBJECT") ∷
    (2, codes "FUNC") ∷
    (3, codes "SECTION") ∷
    (4, codes "FILE") ∷
    (5, codes "COMMON") ∷
    (6, codes "TLS") ∷
    (10, codes "GNU_IFUNC") ∷ []

-- the name of a symbol's type
unfoldable pub symbol_type_name_of : ℕ → Option (List ℕ)
symbol_type_name_of n = name_in symbol_type_names n

-- a symbol's binding (gABI chapter 4, "Symbol Table"; the last one is GNU's)
unfoldable pub binding_names : List (ℕ × List ℕ)
binding_names =
    (0, codes "LOCAL") ∷
    (1, codes "GLOBAL") ∷
    (2, codes "WEAK") ∷
    (10, codes "GNU_UNIQUE") ∷ []

-- the name of a symbol's binding
unfoldable pub binding_name_of : ℕ → Option (List ℕ)
binding_name_of n = name_in binding_names n

-- a symbol's visibility (gABI chapter 4, "Symbol Table")
unfoldable pub visibility_names : List (ℕ × List ℕ)
visibility_names =
    (0, codes "DEFAULT") ∷
    (1, codes "INTERNAL") ∷
    (2, codes "HIDDEN") ∷
    (3, codes "PROTECTED") ∷ []

-- the name of a symbol's visibility
unfoldable pub visibility_name_of : ℕ → Option (List ℕ)
visibility_name_of n = name_in visibility_names n

-- d_tag (gABI chapter 5, "Dynamic Section")
unfoldable pub tag_names : List (ℕ × List ℕ)
tag_names =
    (0, codes "NULL") ∷
    (1, codes "NEEDED") ∷
    (2, codes "PLTRELSZ") ∷
    (3, codes "PLTGOT") ∷
    (4, codes "HASH") ∷
    (5, codes "STRTAB") ∷
    (6, codes "SYMTAB") ∷
    (7, codes "RELA") ∷
    (8, codes "RELASZ") ∷
    (9, codes "RELAENT") ∷
    (10, codes "STRSZ") ∷
    (11, codes "SYMENT") ∷
    (12, codes "INIT") ∷
    (13, codes "FINI") ∷
    (14, codes "SONAME") ∷
    (15, codes "RPATH") ∷
    (16, codes "SYMBOLIC") ∷
    (17, codes "REL") ∷
    (18, codes "RELSZ") ∷
    (19, codes "RELENT") ∷
    (20, codes "PLTREL") ∷
    (21, codes "DEBUG") ∷
    (22, codes "TEXTREL") ∷
    (23, codes "JMPREL") ∷
    (24, codes "BIND_NOW") ∷
    (25, codes "INIT_ARRAY") ∷
    (26, codes "FINI_ARRAY") ∷
    (27, codes "INIT_ARRAYSZ") ∷
    (28, codes "FINI_ARRAYSZ") ∷
    (29, codes "RUNPATH") ∷
    (30, codes "FLAGS") ∷ []

-- the name of d_tag
unfoldable pub tag_name_of : ℤ → Option (List ℕ)
tag_name_of (pos n) = name_in tag_names n
tag_name_of (negsuc n) = None

-- A whole executable in 3,696 bytes, built of its parts: 31 sections and 14 program headers (gABI
-- chapters 4 and 5), of which the section header table stands before what is not loaded. And what
-- strip makes of it, its debug half, and both combined, worked out by hand.
use Rattle.std.specs.Prelude.{ℕ, ◌+◌, ◌-◌, List, [], ◌∷◌, ◌++◌, map, codes, pos}
use Rattle.std.proofs.Math.ListN.{replicate}
use Rattle.elf_types.specs.declared.records.Class.TheVariants.{C64}
use Rattle.elf_types.specs.declared.records.Order.TheVariants.{Least}
use Rattle.elf_types.specs.declared.records.Ehdr.{Ehdr}
use Rattle.elf_types.specs.declared.records.Phdr.{Phdr}
use Rattle.elf_types.specs.declared.records.Shdr.{Shdr}
use Rattle.elf_types.specs.declared.records.Sym.{Sym}
use Rattle.elf_types.specs.declared.records.Rela.{Rela}
use Rattle.elf_types.specs.declared.records.Dyn.{Dyn}
use Rattle.elf_types.specs.declared.constants.TheConstants.{SHT_PROGBITS, SHT_SYMTAB, SHT_STRTAB, SHT_RELA, SHT_DYNAMIC, SHT_NOTE, SHT_NOBITS, SHT_DYNSYM, SHT_INIT_ARRAY, SHT_FINI_ARRAY, SHT_GNU_HASH, SHT_GNU_VERNEED, SHT_GNU_VERSYM, SHF_WRITE, SHF_ALLOC, SHF_EXECINSTR, SHF_INFO_LINK, SHF_TLS, PT_LOAD}
use Rattle.hash_model.specs.elf_xlate.declared.content.Items.{Items}
use Rattle.hash_model.specs.elf_xlate.declared.content.Items.TheVariants as items
use Rattle.hash_model.specs.elf_xlate.Headers.{ehdr_bytes}
use Rattle.hash_model.specs.elf_xlate.Translation.{encoded}
use Rattle.hash_model.specs.elf_ident.Front.{zero_shdr}
use Rattle.hash_model.specs.strtab_build.Table.{table, place_of}
use Rattle.hash_model.specs.elf_object.Blocks.{Block, block_end}
use Rattle.hash_model.specs.elf_object.Object.{Object, no_phdr}
use Rattle.hash_model.specs.elf_object.Open.{new_ehdr, phdrs_bytes, shdrs_bytes}
use Rattle.hash_model.specs.elf_object.Samples.{hex, object_in}
use Rattle.rebuild_model.specs.Generated.{zero_sym}

-- ---- Names

abbrev pub names_before_symbols : List (List ℕ)
names_before_symbols =
    codes ".interp"
    ∷ codes ".note.gnu.property"
    ∷ codes ".note.gnu.build-id"
    ∷ codes ".note.ABI-tag"
    ∷ codes ".gnu.hash"
    ∷ codes ".dynsym"
    ∷ codes ".dynstr"
    ∷ codes ".gnu.version"
    ∷ codes ".gnu.version_r"
    ∷ codes ".rela.dyn"
    ∷ codes ".rela.plt"
    ∷ codes ".init"
    ∷ codes ".plt"
    ∷ codes ".text"
    ∷ codes ".fini"
    ∷ codes ".rodata"
    ∷ codes ".eh_frame_hdr"
    ∷ codes ".eh_frame"
    ∷ codes ".tbss"
    ∷ codes ".init_array"
    ∷ codes ".fini_array"
    ∷ codes ".dynamic"
    ∷ codes ".got"
    ∷ codes ".got.plt"
    ∷ codes ".data"
    ∷ codes ".bss"
    ∷ codes ".comment"
    ∷ []

abbrev pub executable_names : List (List ℕ)
executable_names =
    names_before_symbols ++ codes ".symtab" ∷ codes ".strtab" ∷ codes ".shstrtab" ∷ []

abbrev pub stripped_names : List (List ℕ)
stripped_names = names_before_symbols ++ codes ".shstrtab" ∷ []

-- ---- Sections, each with its bytes

-- by name, type, flags, place, the address less the place, and size
abbrev pub loaded_header : List ℕ → ℕ → ℕ → ℕ → ℕ → ℕ → Shdr
loaded_header name stype flags offset distance size = record zero_shdr {
  name = place_of name executable_names;
  stype = stype;
  flags = SHF_ALLOC + flags;
  addr = offset + distance;
  offset = offset;
  size = size;
}

abbrev pub aligned : ℕ → Shdr → Shdr
aligned n h = record h { addralign = n }

-- with sh_link and sh_info
abbrev pub linked : ℕ → ℕ → Shdr → Shdr
linked link info h = record h { link = link; info = info }

abbrev pub of_items : ℕ → Shdr → Shdr
of_items size h = record h { entsize = size }

abbrev pub file_form : Items → List ℕ
file_form items = encoded C64 Least items

abbrev pub function_symbol : ℕ → Sym
function_symbol name =
    record { name = name; info = 0x12; other = 0; shndx = 14; value = 0x14a0; size = 4 }

abbrev pub linked_symbols : List Sym
linked_symbols = zero_sym ∷ record zero_sym { name = 1; info = 0x10 } ∷ function_symbol 3 ∷ []

abbrev pub relocation : ℕ → ℕ → Rela
relocation offset rtype = record { offset = offset; sym = 1; rtype = rtype; addend = pos 0 }

abbrev pub dynamic_entry : ℕ → ℕ → Dyn
dynamic_entry tag val = record { tag = pos tag; val = val }

-- DT_NEEDED, DT_STRTAB, DT_SYMTAB and DT_NULL
abbrev pub linked_entries : List Dyn
linked_entries =
    dynamic_entry 1 5 ∷ dynamic_entry 5 1048 ∷ dynamic_entry 6 976 ∷ dynamic_entry 0 0 ∷ []

-- what the linker needs, at its places
abbrev pub dynamic_rows : List (Shdr × List ℕ)
dynamic_rows =
    (aligned 1 (loaded_header (codes ".interp") SHT_PROGBITS 0 848 0 3), hex (codes "2f6c00"))
    ∷ (
      aligned 8 (loaded_header (codes ".note.gnu.property") SHT_NOTE 0 856 0 32),
      hex (codes "040000001000000005000000474e5500020000c0040000000300000000000000"),
    )
    ∷ (
      aligned 4 (loaded_header (codes ".note.gnu.build-id") SHT_NOTE 0 888 0 20),
      hex (codes "040000000400000003000000474e550001020304"),
    )
    ∷ (
      aligned 4 (loaded_header (codes ".note.ABI-tag") SHT_NOTE 0 908 0 32),
      hex (codes "040000001000000001000000474e550000000000030000000200000000000000"),
    )
    ∷ (
      linked 6 0 (aligned 8 (loaded_header (codes ".gnu.hash") SHT_GNU_HASH 0 944 0 32)),
      hex (codes "010000000200000001000000060000000008000100000000020000000bb60200"),
    )
    ∷ (
      of_items 24 (linked 7 1 (aligned 8
          (loaded_header (codes ".dynsym") SHT_DYNSYM 0 976 0 72))),
      file_form (items.Sym linked_symbols),
    )
    ∷ (
      aligned 1 (loaded_header (codes ".dynstr") SHT_STRTAB 0 1048 0 13),
      table (codes "x" ∷ codes "f" ∷ codes "l.so" ∷ codes "V1" ∷ []),
    )
    ∷ (
      of_items 2 (linked 6 0 (aligned 2
          (loaded_header (codes ".gnu.version") SHT_GNU_VERSYM 0 1062 0 6))),
      file_form (items.Half (0 ∷ 2 ∷ 1 ∷ [])),
    )
    ∷ (
      linked 7 1 (aligned 8
          (loaded_header (codes ".gnu.version_r") SHT_GNU_VERNEED 0 1072 0 32)),
      hex (codes "0100010005000000100000000000000091050000000002000a00000000000000"),
    )
    ∷ (
      of_items 24 (linked 6 0 (aligned 8
          (loaded_header (codes ".rela.dyn") SHT_RELA 0 1104 0 24))),
      file_form (items.Rela (relocation 0x3508 6 ∷ [])),
    )
    ∷ (
      of_items 24 (linked 6 24 (aligned 8
          (loaded_header (codes ".rela.plt") SHT_RELA SHF_INFO_LINK 1128 0 24))),
      file_form (items.Rela (relocation 0x3528 7 ∷ [])),
    )
    ∷ []

-- code, and what is only read
abbrev pub code_rows : List (Shdr × List ℕ)
code_rows =
    (aligned 4 (loaded_header (codes ".init") SHT_PROGBITS SHF_EXECINSTR 1152 0x1000 1), 0xc3 ∷ [])
    ∷ (
      of_items 16 (aligned 16
          (loaded_header (codes ".plt") SHT_PROGBITS SHF_EXECINSTR 1168 0x1000 16)),
      replicate 16 0x90,
    )
    ∷ (
      aligned 16 (loaded_header (codes ".text") SHT_PROGBITS SHF_EXECINSTR 1184 0x1000 4),
      hex (codes "31c0c390"),
    )
    ∷ (
      aligned 4 (loaded_header (codes ".fini") SHT_PROGBITS SHF_EXECINSTR 1188 0x1000 1),
      0xc3 ∷ [],
    )
    ∷ (
      aligned 4 (loaded_header (codes ".rodata") SHT_PROGBITS 0 1192 0x2000 4),
      hex (codes "01000200"),
    )
    ∷ (
      aligned 4 (loaded_header (codes ".eh_frame_hdr") SHT_PROGBITS 0 1196 0x2000 4),
      hex (codes "011b033b"),
    )
    ∷ (aligned 8 (loaded_header (codes ".eh_frame") SHT_PROGBITS 0 1200 0x2000 4), replicate 4 0)
    ∷ []

-- what is written when the program runs
abbrev pub data_rows : List (Shdr × List ℕ)
data_rows =
    (aligned 4 (loaded_header (codes ".tbss") SHT_NOBITS (SHF_WRITE + SHF_TLS) 1204 0x3000 4), [])
    ∷ (
      of_items 8 (aligned 8
          (loaded_header (codes ".init_array") SHT_INIT_ARRAY SHF_WRITE 1208 0x3000 8)),
      file_form (items.Addr (0x14a0 ∷ [])),
    )
    ∷ (
      of_items 8 (aligned 8
          (loaded_header (codes ".fini_array") SHT_FINI_ARRAY SHF_WRITE 1216 0x3000 8)),
      file_form (items.Addr (0x14a4 ∷ [])),
    )
    ∷ (
      of_items 16 (linked 7 0 (aligned 8
          (loaded_header (codes ".dynamic") SHT_DYNAMIC SHF_WRITE 1224 0x3000 64))),
      file_form (items.Dyn linked_entries),
    )
    ∷ (
      of_items 8 (aligned 8 (loaded_header (codes ".got") SHT_PROGBITS SHF_WRITE 1288 0x3000 8)),
      replicate 8 0,
    )
    ∷ (
      of_items 8 (aligned 8
          (loaded_header (codes ".got.plt") SHT_PROGBITS SHF_WRITE 1296 0x3000 32)),
      replicate 32 0,
    )
    ∷ (
      aligned 8 (loaded_header (codes ".data") SHT_PROGBITS SHF_WRITE 1328 0x3000 8),
      7 ∷ replicate 7 0,
    )
    ∷ (aligned 8 (loaded_header (codes ".bss") SHT_NOBITS SHF_WRITE 1336 0x3000 16), [])
    ∷ []

abbrev pub loaded_rows : List (Shdr × List ℕ)
loaded_rows = dynamic_rows ++ code_rows ++ data_rows

-- what is not loaded, at its places

abbrev pub loose_header : ℕ → ℕ → ℕ → ℕ → Shdr
loose_header name stype offset size = record zero_shdr {
  name = name;
  stype = stype;
  offset = offset;
  size = size;
  addralign = 1;
}

-- flags SHF_MERGE and SHF_STRINGS
abbrev pub comment_row : ℕ → Shdr × List ℕ
comment_row place = (
  record (loose_header (place_of (codes ".comment") executable_names) SHT_PROGBITS place 4) {
    flags = 0x30;
    entsize = 1;
  },
  codes "kit" ++ 0 ∷ [],
)

abbrev pub symbols_row : ℕ → Shdr × List ℕ
symbols_row place = (
  of_items 24 (linked 29 2 (aligned 8
      (loose_header (place_of (codes ".symtab") executable_names) SHT_SYMTAB place 72))),
  file_form (items.Sym
      (zero_sym
      ∷ record zero_sym { name = 1; info = 4; shndx = 0xfff1 }
      ∷ function_symbol 5
      ∷ [])),
)

abbrev pub strings_row : ℕ → Shdr × List ℕ
strings_row place = (
  loose_header (place_of (codes ".strtab") executable_names) SHT_STRTAB place 7,
  table (codes "u.c" ∷ codes "f" ∷ []),
)

abbrev pub names_row : List (List ℕ) → ℕ → ℕ → Shdr × List ℕ
names_row names place size =
    (loose_header (place_of (codes ".shstrtab") names) SHT_STRTAB place size, table names)

abbrev pub loose_rows : ℕ → ℕ → ℕ → ℕ → List (Shdr × List ℕ)
loose_rows comment symbols strings names =
    comment_row comment
    ∷ symbols_row symbols
    ∷ strings_row strings
    ∷ names_row executable_names names 289
    ∷ []

-- ---- Program headers

-- by type, flags, place, the address less the place, size in the file and in memory, alignment
abbrev pub segment : ℕ → ℕ → ℕ → ℕ → ℕ → ℕ → ℕ → Phdr
segment ptype flags offset distance filesz memsz align = record no_phdr {
  ptype = ptype;
  flags = flags;
  offset = offset;
  vaddr = offset + distance;
  paddr = offset + distance;
  filesz = filesz;
  memsz = memsz;
  align = align;
}

abbrev pub executable_phdrs : List Phdr
executable_phdrs =
    segment 6 4 64 0 784 784 8  -- PT_PHDR
    ∷ segment 3 4 848 0 3 3 1  -- PT_INTERP
    ∷ segment PT_LOAD 4 0 0 1152 1152 0x1000
    ∷ segment PT_LOAD 5 1152 0x1000 37 37 0x1000
    ∷ segment PT_LOAD 4 1192 0x2000 12 12 0x1000
    ∷ segment PT_LOAD 6 1208 0x3000 128 144 0x1000
    ∷ segment 2 6 1224 0x3000 64 64 8  -- PT_DYNAMIC
    ∷ segment 4 4 856 0 32 32 8  -- PT_NOTE
    ∷ segment 4 4 888 0 52 52 4  -- PT_NOTE
    ∷ segment 7 4 1204 0x3000 0 4 4  -- PT_TLS
    ∷ segment 0x6474e553 4 856 0 32 32 8  -- PT_GNU_PROPERTY
    ∷ segment 0x6474e550 4 1196 0x2000 4 4 4  -- PT_GNU_EH_FRAME
    ∷ segment 0x6474e551 6 0 0 0 0 16  -- PT_GNU_STACK
    ∷ segment 0x6474e552 4 1208 0x3000 88 88 1  -- PT_GNU_RELRO
    ∷ []

-- ---- Files

-- ET_DYN (3), EM_X86_64 (62), with the section header table at a place
abbrev pub executable_ehdr : ℕ → ℕ → ℕ → Ehdr
executable_ehdr shoff shnum shstrndx = record (new_ehdr C64 Least) {
  etype = 3;
  machine = 62;
  entry = 0x14a0;
  phoff = 64;
  shoff = shoff;
  ehsize = 64;
  phentsize = 56;
  phnum = 14;
  shentsize = 64;
  shnum = shnum;
  shstrndx = shstrndx;
}

abbrev pub row_block : Shdr × List ℕ → Block
row_block row = record { at = row.0.offset; bytes = row.1 }

abbrev pub table_block : ℕ → List (Shdr × List ℕ) → Block
table_block place rows =
    record { at = place; bytes = shdrs_bytes C64 Least (zero_shdr ∷ map (λ row. row.0) rows) }

-- blocks in the order of their places, with zeros between them
abbrev pub in_a_row : ℕ → List Block → List ℕ
in_a_row from [] = []
in_a_row from (b ∷ bs) = replicate (b.at - from) 0 ++ (b.bytes ++ in_a_row (block_end b) bs)

-- the header, the program headers and these blocks
abbrev pub file_with : Ehdr → List Block → List ℕ
file_with h blocks = in_a_row
    0
    (record { at = 0; bytes = ehdr_bytes h (replicate 7 0) }
    ∷ record { at = 64; bytes = phdrs_bytes C64 Least executable_phdrs }
    ∷ blocks)

-- the executable
unfoldable pub executable64 : List ℕ
executable64 =
    let loose = loose_rows 3320 3328 3400 3407 in
    file_with
    (executable_ehdr 1336 31 30)
    (map row_block loaded_rows
    ++ table_block 1336 (loaded_rows ++ loose)
    ∷ map row_block loose)

-- without symbols and their names: what is not loaded stands from the end of .data on
unfoldable pub stripped_executable64 : List ℕ
stripped_executable64 =
    let rows = loaded_rows ++ comment_row 1336 ∷ names_row stripped_names 1340 273 ∷ [] in
    file_with
    (executable_ehdr 1616 29 28)
    (map row_block rows ++ table_block 1616 rows ∷ [])

-- a section whose bytes are in the other half
abbrev pub emptied_row : Shdr × List ℕ → Shdr × List ℕ
emptied_row row = (record row.0 { stype = SHT_NOBITS; offset = 848 }, [])

-- the debug half: what is not loaded stands behind the program headers
unfoldable pub debug_executable64 : List ℕ
debug_executable64 =
    let rows = map emptied_row loaded_rows ++ loose_rows 848 856 928 935 in
    file_with
    (executable_ehdr 1224 31 30)
    (map row_block rows ++ table_block 1224 rows ∷ [])

-- both combined
unfoldable pub combined_executable64 : List ℕ
combined_executable64 =
    let rows = loaded_rows ++ loose_rows 1336 1344 1416 1423 in
    file_with
    (executable_ehdr 1712 31 30)
    (map row_block rows ++ table_block 1712 rows ∷ [])

-- ---- As they are opened

abbrev pub executable : Object
executable = object_in executable64

abbrev pub stripped_executable : Object
stripped_executable = object_in stripped_executable64

abbrev pub debug_executable : Object
debug_executable = object_in debug_executable64

abbrev pub combined_executable : Object
combined_executable = object_in combined_executable64

-- A small program and a small shared object, made of sections, on which the definitions are
-- computed.
use Rattle.std.specs.Prelude.{ℕ, Bool, List, [], ◌∷◌, ◌++◌, codes, map, true, false, Result, Ok, Err, pos}
use Rattle.elf_types.specs.declared.records.Class.TheVariants.{C32, C64}
use Rattle.elf_types.specs.declared.records.Order.TheVariants.{Least, Greatest}
use Rattle.elf_types.specs.declared.records.Phdr.{Phdr}
use Rattle.elf_types.specs.declared.records.Shdr.{Shdr}
use Rattle.elf_types.specs.declared.records.Sym.{Sym}
use Rattle.elf_types.specs.declared.records.Rela.{Rela}
use Rattle.elf_types.specs.declared.errors.ElfError.{ElfError}
use Rattle.elf_types.specs.declared.constants.TheConstants.{SHT_PROGBITS, SHT_SYMTAB, SHT_STRTAB, SHT_RELA, SHT_HASH, SHT_NOBITS, SHT_DYNSYM, SHT_GROUP, SHT_SYMTAB_SHNDX, SHT_GNU_HASH, SHT_GNU_VERSYM, SHF_ALLOC, PT_LOAD}
use Rattle.hash_model.specs.elf_xlate.declared.content.Items.{Items}
use Rattle.hash_model.specs.elf_xlate.declared.content.Items.TheVariants as items
use Rattle.hash_model.specs.elf_ident.Front.{zero_shdr}
use Rattle.hash_model.specs.strtab_build.Table.{table, place_of}
use Rattle.hash_model.specs.elf_object.Object.{Object, Section, new_section, no_phdr}
use Rattle.hash_model.specs.elf_object.Open.{created, new_ehdr}
use Rattle.hash_model.specs.elf_object.Samples.{object_in, hex, symbols32}
use Rattle.rebuild_model.specs.Arranged.{Rebuilt}
use Rattle.rebuild_model.specs.Rebuilt.{made_section, assembled, stripped}
use Rattle.rebuild_model.specs.Copied.{Changes, copied}
use Rattle.rebuild_model.specs.Split.{debug_half}
use Rattle.rebuild_model.specs.Followed.{Renumbering}
use Rattle.std.specs.List.{range_with_len}
use Rattle.rebuild_model.specs.Rehashed.{rehashed, smallest_shape}
use Rattle.hash_model.specs.Listed.{listed_names}
use Rattle.hash_model.specs.HashSections.{is_whole_sysv, is_whole_gnu}
use Rattle.hash_model.specs.BuiltHashes.{GnuShape, build_sysv_answer, build_gnu_answer}
use Rattle.hash_model.specs.elf_object.Answers.{items_at, words_of, bytes_of}
use Rattle.rebuild_model.specs.Files.{file_of, file_made}
use Rattle.rebuild_model.specs.Generated.{zero_sym}
use Rattle.rebuild_model.specs.Samples.{bytes_or_none, made_or_none, no_changes}

-- an object with these program headers and sections, written and opened again
abbrev pub opened_again : List Phdr → List Section → ℕ → List ℕ
opened_again phdrs sections index = bytes_or_none (file_of (assembled
    (created C64 Least)
    (record (created C64 Least) {
      header = record (new_ehdr C64 Least) { etype = 2 };
      phdrs = phdrs;
    })
    index
    (new_section ∷ sections)))

-- ---- A program: code that is loaded, and debug data that is not

abbrev pub program_names : List (List ℕ)
program_names =
    codes ".text"
    ∷ codes ".bss"
    ∷ codes ".debug"
    ∷ codes ".rela"
    ∷ codes ".note"
    ∷ codes ".tab"
    ∷ codes ".str"
    ∷ codes ".shstr"
    ∷ codes ".shndx"
    ∷ []

abbrev pub program_header : List ℕ → ℕ → ℕ → ℕ → ℕ → Shdr
program_header name stype flags link info = record zero_shdr {
  name = place_of name program_names;
  stype = stype;
  flags = flags;
  link = link;
  info = info;
}

abbrev pub code_bytes : Items
code_bytes = items.Bytes (1 ∷ 2 ∷ 3 ∷ 4 ∷ [])

abbrev pub note_bytes : Items
note_bytes = items.Bytes (8 ∷ 9 ∷ 10 ∷ [])

abbrev pub no_bytes : Items
no_bytes = items.Bytes []

abbrev pub sized : ℕ → Shdr → Shdr
sized n h = record h { size = n }

-- a symbol of a section
abbrev pub symbol_in : ℕ → Sym
symbol_in shndx = record { name = 1; info = 0x10; other = 0; shndx = shndx; value = 7; size = 0 }

-- 1 .text and 2 .bss are allocated; 3 .debug, its relocations 4, 5 .note, 6 the symbol table
-- with its names 7, 8 the names of the sections, 9 the extended indexes of the symbols
abbrev pub program_sections : List Section
program_sections =
    made_section (program_header (codes ".text") SHT_PROGBITS SHF_ALLOC 0 0) code_bytes
    ∷ made_section (sized 16 (program_header (codes ".bss") SHT_NOBITS SHF_ALLOC 0 0)) no_bytes
    ∷ made_section (program_header (codes ".debug") SHT_PROGBITS 0 0 0) (items.Bytes (5 ∷ 6 ∷ []))
    ∷ made_section (program_header (codes ".rela") SHT_RELA 0 6 3) (items.Rela [])
    ∷ made_section (program_header (codes ".note") SHT_PROGBITS 0 0 0) note_bytes
    ∷ made_section
    (program_header (codes ".tab") SHT_SYMTAB 0 7 1)
    (items.Sym (zero_sym ∷ map symbol_in (1 ∷ 3 ∷ 5 ∷ 0xffff ∷ 0xffff ∷ 0xfff1 ∷ [])))
    ∷ made_section
    (program_header (codes ".str") SHT_STRTAB 0 0 0)
    (items.Bytes (0 ∷ 0x61 ∷ 0 ∷ []))
    ∷ made_section
    (program_header (codes ".shstr") SHT_STRTAB 0 0 0)
    (items.Bytes (table program_names))
    ∷ made_section
    (program_header (codes ".shndx") SHT_SYMTAB_SHNDX 0 6 0)
    (items.Word (0 ∷ 0 ∷ 0 ∷ 0 ∷ 3 ∷ 5 ∷ 0 ∷ []))
    ∷ []

-- what is loaded: the headers, and .text at 120
abbrev pub loaded_segment : Phdr
loaded_segment = record no_phdr { ptype = PT_LOAD; offset = 0; filesz = 124; memsz = 140 }

unfoldable pub program_file : List ℕ
program_file = opened_again (loaded_segment ∷ []) program_sections 8

abbrev pub a_program : Object
a_program = object_in program_file

-- the same program with .text, .bss and .note alone, and their names
abbrev pub small_names : List (List ℕ)
small_names = codes ".text" ∷ codes ".bss" ∷ codes ".note" ∷ []

abbrev pub small_header : List ℕ → ℕ → ℕ → Shdr
small_header name stype flags =
    record zero_shdr { name = place_of name small_names; stype = stype; flags = flags }

unfoldable pub small_file : List ℕ
small_file = opened_again
    (loaded_segment ∷ [])
    (made_section (small_header (codes ".text") SHT_PROGBITS SHF_ALLOC) code_bytes
    ∷ made_section (sized 16 (small_header (codes ".bss") SHT_NOBITS SHF_ALLOC)) no_bytes
    ∷ made_section (small_header (codes ".note") SHT_PROGBITS 0) note_bytes
    ∷ made_section (small_header [] SHT_STRTAB 0) (items.Bytes (table small_names))
    ∷ [])
    4

abbrev pub a_small_program : Object
a_small_program = object_in small_file

-- a relocatable file: the same sections, with a group of .text and .debug behind them
abbrev pub group_section : Section
group_section = made_section
    (record zero_shdr { stype = SHT_GROUP; link = 6; info = 1 })
    (items.Word (1 ∷ 1 ∷ 3 ∷ 5 ∷ 99 ∷ []))

unfoldable pub grouped_file : List ℕ
grouped_file = opened_again [] (program_sections ++ group_section ∷ []) 8

abbrev pub a_grouped : Object
a_grouped = object_in grouped_file

-- ---- A shared object, whose hash sections are out of date

abbrev pub dynamic_section : ℕ → ℕ → Items → Section
dynamic_section stype link items =
    made_section (record zero_shdr { stype = stype; flags = SHF_ALLOC; link = link }) items

abbrev pub dynamic_symbol : ℕ → ℕ → Sym
dynamic_symbol name shndx =
    record { name = name; info = 0x12; other = 0; shndx = shndx; value = name; size = 0 }

abbrev pub relocation_by : ℕ → Rela
relocation_by sym = record { offset = 0; sym = sym; rtype = 6; addend = pos 0 }

-- 1 the dynamic symbols b, u (undefined) and a; 2 their names; 3 their versions; 4 relocations;
-- 5 and 6 hash sections of two buckets, with nothing in them
unfoldable pub dynamic_file : List ℕ
dynamic_file = opened_again
    []
    (dynamic_section
    SHT_DYNSYM
    2
    (items.Sym (zero_sym ∷ dynamic_symbol 1 1 ∷ dynamic_symbol 3 0 ∷ dynamic_symbol 5 1 ∷ []))
    ∷ dynamic_section SHT_STRTAB 0 (items.Bytes (table (codes "b" ∷ codes "u" ∷ codes "a" ∷ [])))
    ∷ dynamic_section SHT_GNU_VERSYM 1 (items.Half (0 ∷ 11 ∷ 12 ∷ 13 ∷ 14 ∷ []))
    ∷ dynamic_section SHT_RELA 1 (items.Rela (relocation_by 1 ∷ relocation_by 9 ∷ []))
    ∷ dynamic_section SHT_GNU_HASH 1 (items.Bytes (hex (codes "02000000010000000100000006000000")))
    ∷ dynamic_section SHT_HASH 1 (items.Word (2 ∷ []))
    ∷ [])
    0

abbrev pub a_shared_object : Object
a_shared_object = object_in dynamic_file

-- ---- What the commands make of them, opened again

abbrev pub again : Result Rebuilt ElfError → Object
again made = object_in (bytes_or_none (file_made made))

abbrev pub stripped_program : Object
stripped_program = again (stripped false [] a_program)

abbrev pub debug_only_program : Object
debug_only_program = again (stripped true [] a_program)

abbrev pub debug_program : Object
debug_program = object_in (bytes_or_none (file_of (debug_half a_program)))

-- the halves of the small program: .note is only in the debug half
abbrev pub small_stripped : Object
small_stripped = again (stripped false (codes ".note" ∷ []) a_small_program)

abbrev pub small_debug : Object
small_debug = object_in (bytes_or_none (file_of (debug_half a_small_program)))

-- changes of one kind
abbrev pub updating : List ℕ → List ℕ → Changes
updating name bytes = record no_changes { update = (name, bytes) ∷ [] }

abbrev pub flagging : List ℕ → ℕ → Changes
flagging name bits = record no_changes { flags = (name, bits) ∷ [] }

-- .note gets the name .n, and .n other flags
abbrev pub renaming : Changes
renaming =
    record no_changes { rename = (codes ".note", codes ".n") ∷ []; flags = (codes ".n", 0x30) ∷ [] }

abbrev pub or_no_object : {E : Type 0} → Result Object E → Object
or_no_object (Ok o) = o
or_no_object (Err e) = created C64 Least

abbrev pub copied_again : Changes → Object → Object
copied_again c o = object_in (made_or_none (copied c o))

abbrev pub rehashed_again : Object
rehashed_again = object_in (bytes_or_none (file_of (or_no_object (rehashed a_shared_object))))

-- ---- Words for the tests

abbrev pub text_name : List ℕ
text_name = codes ".text"

abbrev pub bss_name : List ℕ
bss_name = codes ".bss"

abbrev pub note_name : List ℕ
note_name = codes ".note"

-- the name of the code, and that of the table of the names
abbrev pub two_names : List (List ℕ)
two_names = codes ".text" ∷ codes ".shstr" ∷ []

abbrev pub grouped_again : Object
grouped_again = again (stripped false [] a_grouped)

-- a GNU hash section of one bucket for the one symbol of small64, and one of two buckets for the
-- shared object, with its first 16 bytes, its bloom word, its buckets and its chain words
abbrev pub small_shape : GnuShape
small_shape = record { nbuckets = 1; bloom = 1; shift = 6 }

abbrev pub small_hash : List ℕ
small_hash =
    codes "01000000010000000100000006000000"
    ++ codes "4000000100000000"
    ++ codes "01000000"
    ++ codes "07b60200"

abbrev pub two_buckets : GnuShape
two_buckets = record { nbuckets = 2; bloom = 1; shift = 6 }

abbrev pub two_buckets_hash : List ℕ
two_buckets_hash =
    codes "02000000020000000100000006000000"
    ++ codes "c000000100000000"
    ++ codes "0200000003000000"
    ++ codes "07b6020007b60200"

abbrev pub has_whole_sysv : Object → Bool
has_whole_sysv o = is_whole_sysv (words_of (items_at o 6 0)) (listed_names o 1)

abbrev pub has_whole_gnu : Object → Bool
has_whole_gnu o = is_whole_gnu C64 Least (bytes_of (items_at o 5 0)) (listed_names o 1)

-- 65,536 sections, of which section 2 is removed
abbrev pub many_but_2 : Renumbering
many_but_2 = record { count = 0x10000; kept = 0 ∷ 1 ∷ range_with_len 3 0xfffd }

-- hash sections of the symbols in class 32, greatest byte first
abbrev pub words_32 : List ℕ
words_32 = bytes_or_none (build_sysv_answer symbols32 2 3)

abbrev pub has_whole_gnu_32 : Bool
has_whole_gnu_32 =
    let bytes = bytes_or_none (build_gnu_answer symbols32 2 (smallest_shape C32)) in
    is_whole_gnu C32 Greatest bytes (listed_names symbols32 2)

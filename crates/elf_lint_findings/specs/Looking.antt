-- What rules look at: sections by their headers, and the items of their data. Most rules pass over
-- a section that is out of the file or ragged, which has a finding of its own for it.
use Rattle.std.specs.Prelude.{ℕ, ◌==◌, ◌&&◌, ◌||◌, nat_le, not, Bool, List, [], length, Option, Some, None, is_none}
use Rattle.elf_types.specs.declared.constants.TheConstants.{SHT_SYMTAB, SHT_DYNSYM, SHT_STRTAB}
use Rattle.elf_types.specs.declared.records.Kind.TheVariants as kinds
use Rattle.elf_types.specs.declared.records.Shdr.{Shdr}
use Rattle.elf_types.specs.declared.records.Sym.{Sym}
use Rattle.elf_types.specs.declared.records.Rel.{Rel}
use Rattle.elf_types.specs.declared.records.Rela.{Rela}
use Rattle.elf_types.specs.declared.records.Dyn.{Dyn}
use Rattle.elf_types.specs.declared.errors.ElfError.{ElfError}
use Rattle.elf_types.specs.Kinds.{is_compressed, section_kind}
use Rattle.tool_objects.specs.elf_xlate.Translation.{is_whole}
use Rattle.tool_objects.specs.elf_object.Object.{Object, section_at}
use Rattle.tool_objects.specs.elf_object.Open.{home_len}
use Rattle.tool_objects.specs.elf_object.Answers.{items_at, lend_refusal, bytes_of, words_of, syms_of, rels_of, relas_of, dyns_of}
use Rattle.tool_objects.specs.elf_object.Sections.{header_at, is_of}

-- ---- Sections

-- it is out of the file: it has bytes there, and they pass the file's end
abbrev pub is_outside_file : Object → ℕ → Bool
is_outside_file o s = (section_at o s).home.out

-- it is ragged: it is in the file, and its size is no multiple of its item's
unfoldable pub is_ragged_section : Object → ℕ → Bool
is_ragged_section o s =
    not (is_outside_file o s)
    && not (is_whole (section_kind (header_at o s)) o.header.class (home_len (header_at o s)))

-- neither
unfoldable pub is_intact : Object → ℕ → Bool
is_intact o s = not (is_outside_file o s) && not (is_ragged_section o s)

-- The rules that go by a section's type look at the sections from 1 on that are intact,
unfoldable pub is_looked_at : Object → ℕ → Bool
is_looked_at o s = not (s == 0) && is_intact o s

-- and those that look at its data, at those whose data is not compressed (SHF_COMPRESSED).
unfoldable pub is_plain : Object → ℕ → Bool
is_plain o s = is_looked_at o s && not (is_compressed (header_at o s).flags)

-- a symbol table: SHT_SYMTAB or SHT_DYNSYM, with symbols as its items
unfoldable pub is_symbol_table : Shdr → Bool
is_symbol_table h = is_of SHT_SYMTAB kinds.Sym h || is_of SHT_DYNSYM kinds.Sym h

-- SHT_STRTAB
abbrev pub is_string_table : Shdr → Bool
is_string_table h = h.stype == SHT_STRTAB

-- the header of the section to which a section links (sh_link); one of a section that is not there
-- is of no type
unfoldable pub linked_header : Object → ℕ → Shdr
linked_header o s = header_at o (header_at o s).link

-- no section has this number
abbrev pub is_no_section : Object → ℕ → Bool
is_no_section o n = nat_le (length o.sections) n

-- ---- Data

-- the items of a section that can be told, and none of one that is refused as a lend of them
abbrev pub if_lent : {A : Type 0} → Option ElfError → List A → List A
if_lent None items = items
if_lent (Some e) items = []

unfoldable pub data_bytes : Object → ℕ → List ℕ
data_bytes o s = if_lent (lend_refusal o kinds.Bytes s 0) (bytes_of (items_at o s 0))

unfoldable pub section_words : Object → ℕ → List ℕ
section_words o s = if_lent (lend_refusal o kinds.Word s 0) (words_of (items_at o s 0))

unfoldable pub section_symbols : Object → ℕ → List Sym
section_symbols o s = if_lent (lend_refusal o kinds.Sym s 0) (syms_of (items_at o s 0))

unfoldable pub rels : Object → ℕ → List Rel
rels o s = if_lent (lend_refusal o kinds.Rel s 0) (rels_of (items_at o s 0))

unfoldable pub relas : Object → ℕ → List Rela
relas o s = if_lent (lend_refusal o kinds.Rela s 0) (relas_of (items_at o s 0))

unfoldable pub dyns : Object → ℕ → List Dyn
dyns o s = if_lent (lend_refusal o kinds.Dyn s 0) (dyns_of (items_at o s 0))

-- a section links to a symbol table that is neither out of the file nor ragged: else a lend of its
-- symbols is refused
unfoldable pub links_to_symbols : Object → ℕ → Bool
links_to_symbols o s =
    is_symbol_table (linked_header o s)
    && is_none (lend_refusal o kinds.Sym (header_at o s).link 0)

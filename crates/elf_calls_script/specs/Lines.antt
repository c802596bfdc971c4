-- The lines of a script, by the word that begins each.
use Rattle.std.specs.Prelude.{ℕ, Bool, true, false, List, [], ◌∷◌, Option, Some, None, codes}
use Rattle.elf_types.specs.declared.records.Kind.{Kind}
use Rattle.elf_types.specs.declared.records.Kind.TheVariants as Kinds
use Rattle.elf_types.specs.declared.records.ScnId.{ScnId}
use Rattle.elf_types.specs.declared.records.DataId.{DataId}
use Rattle.elf_types.specs.declared.records.Part.{Part}
use Rattle.elf_types.specs.declared.records.Part.TheVariants.{Object, Header, Segments, Section, Piece}
use Rattle.elf_calls_script.specs.declared.calls.Call.{Call}
use Rattle.elf_calls_script.specs.declared.calls.Call.TheVariants.{Ehdr, Phdr, Shdr, Pieces, Data, Raw, Item, Str, Note, Find, SetEhdr, SetPhdr, SetShdr, SetItem, AddAll, NewScn, NewPhdr, NewData, NewDataAligned, Fill, Replace, Flag, Null}
use Rattle.elf_calls_script.specs.Parts.{Phrase, ◌&◌, ◌⇒◌, just, optional, one_of, u8, u32, u64, hex_phrase, name}
use Rattle.elf_calls_script.specs.Fields.{ehdr_field_phrases, phdr_field_phrases, shdr_field_phrases, item_fields}

-- S
abbrev pub section : Phrase ScnId
section words = (u32 ⇒ λ s. record { 0 = s }) words

-- S P
abbrev pub piece_phrase : Phrase DataId
piece_phrase words = (u32 & u32 ⇒ λ (s, p). record { section = s; piece = p }) words

-- PART
unfoldable pub object_parts : List (List ℕ × Phrase Part)
object_parts =
    (codes "object", just Object) ∷
    (codes "header", just Header) ∷
    (codes "segments", just Segments) ∷
    (codes "section", u32 ⇒ Section) ∷
    (codes "piece", piece_phrase ⇒ λ d. Piece d.section d.piece) ∷ []

unfoldable pub flag_words : List (List ℕ × Phrase Bool)
flag_words = (codes "set", just true) ∷ (codes "clear", just false) ∷ []

-- S P I FIELD N, for a kind of items
abbrev pub item_set : Kind → Phrase Call
item_set kind words =
    (piece_phrase & u64 & one_of (item_fields kind) ⇒ λ (at, set). SetItem at.0 at.1 set) words

-- what follows `set`
unfoldable pub sets : List (List ℕ × Phrase Call)
sets =
    (codes "ehdr", one_of ehdr_field_phrases ⇒ SetEhdr) ∷
    (codes "phdr", u32 & one_of phdr_field_phrases ⇒ λ (i, set). SetPhdr i set) ∷
    (codes "shdr", section & one_of shdr_field_phrases ⇒ λ (s, set). SetShdr s set) ∷
    (codes "half", item_set Kinds.Half) ∷
    (codes "word", item_set Kinds.Word) ∷
    (codes "addr", item_set Kinds.Addr) ∷
    (codes "sym", item_set Kinds.Sym) ∷
    (codes "rel", item_set Kinds.Rel) ∷
    (codes "rela", item_set Kinds.Rela) ∷
    (codes "dyn", item_set Kinds.Dyn) ∷ []

-- ---- The lines of calls, each behind its first word

-- phdr I
unfoldable pub phdr_call_line : Phrase Call
phdr_call_line words = (u32 ⇒ Phdr) words

-- shdr S
unfoldable pub shdr_line : Phrase Call
shdr_line words = (section ⇒ Shdr) words

-- pieces S
unfoldable pub pieces_line : Phrase Call
pieces_line words = (section ⇒ Pieces) words

-- data S P
unfoldable pub data_line : Phrase Call
data_line words = (piece_phrase ⇒ Data) words

-- raw S
unfoldable pub raw_line : Phrase Call
raw_line words = (section ⇒ Raw) words

-- item S P I
unfoldable pub item_line : Phrase Call
item_line words = (piece_phrase & u64 ⇒ λ (d, i). Item d i) words

-- str S OFF
unfoldable pub str_line : Phrase Call
str_line words = (section & u64 ⇒ λ (s, off). Str s off) words

-- note S P AT
unfoldable pub note_call_line : Phrase Call
note_call_line words = (piece_phrase & u64 ⇒ λ (d, at). Note d at) words

-- find S NAME
unfoldable pub find_line : Phrase Call
find_line words = (section & name ⇒ λ (s, text). Find s text) words

-- set ..
unfoldable pub set_line : Phrase Call
set_line words = one_of sets words

-- addall S P N
unfoldable pub addall_line : Phrase Call
addall_line words = (piece_phrase & u64 ⇒ λ (d, n). AddAll d n) words

-- newphdr N
unfoldable pub newphdr_line : Phrase Call
newphdr_line words = (u32 ⇒ NewPhdr) words

-- the new piece, with an alignment or without
abbrev pub new_data : ScnId → List ℕ → Option ℕ → Call
new_data s bytes None = NewData s bytes
new_data s bytes (Some n) = NewDataAligned s bytes n

-- newdata S HEX, newdata S HEX N
unfoldable pub newdata_line : Phrase Call
newdata_line words = (section & hex_phrase & optional u64 ⇒ λ (at, n). new_data at.0 at.1 n) words

-- fill N
unfoldable pub fill_line : Phrase Call
fill_line words = (u8 ⇒ Fill) words

-- replace S P HEX
unfoldable pub replace_line : Phrase Call
replace_line words = (piece_phrase & hex_phrase ⇒ λ (d, bytes). Replace d bytes) words

-- flag PART set BITS, flag PART clear BITS
unfoldable pub flag_line : Phrase Call
flag_line words =
    (one_of object_parts & one_of flag_words & u32 ⇒ λ (at, bits). Flag at.0 at.1 bits) words

-- each call by its first word, and what follows that word
unfoldable pub calls : List (List ℕ × Phrase Call)
calls =
    (codes "ehdr", just Ehdr) ∷
    (codes "phdr", phdr_call_line) ∷
    (codes "shdr", shdr_line) ∷
    (codes "pieces", pieces_line) ∷
    (codes "data", data_line) ∷
    (codes "raw", raw_line) ∷
    (codes "item", item_line) ∷
    (codes "str", str_line) ∷
    (codes "note", note_call_line) ∷
    (codes "find", find_line) ∷
    (codes "set", set_line) ∷
    (codes "addall", addall_line) ∷
    (codes "newscn", just NewScn) ∷
    (codes "newphdr", newphdr_line) ∷
    (codes "newdata", newdata_line) ∷
    (codes "fill", fill_line) ∷
    (codes "replace", replace_line) ∷
    (codes "flag", flag_line) ∷
    (codes "null", just Null) ∷ []

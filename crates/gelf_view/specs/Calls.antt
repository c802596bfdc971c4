-- The calls that read notes, version records and the section of a symbol, in the form of the calls
-- of the plain object (gelf_getnote, gelf_getverdef and its like, gelf_getsymshndx). Notes and
-- version records are refused as a lend of bytes, and then by what stands in the bytes.
use Rattle.std.specs.Prelude.{◌≡◌, ℕ, ◌==◌, ◌&&◌, not, Bool, List, [], ◌∷◌, length, Option, Some, None, is_none, if◌then◌else◌, Result, Ok}
use Rattle.std.specs.Option.{option_map}
use Rattle.elf_types.specs.declared.constants.TheConstants.{SHT_SYMTAB_SHNDX}
use Rattle.elf_types.specs.declared.records.ScnId.{ScnId}
use Rattle.elf_types.specs.declared.records.Sym.{Sym}
use Rattle.elf_types.specs.declared.records.Kind.{Kind}
use Rattle.elf_types.specs.declared.records.Kind.TheVariants as kinds
use Rattle.elf_types.specs.declared.errors.ElfError.{ElfError}
use Rattle.elf_types.specs.declared.errors.ElfError.TheVariants.{BadChain}
use Rattle.elf_types.specs.Answers.{answered, first_refusal, ◌>>=◌}
use Rattle.elf_types.specs.declared.records.Order.{Order}
use Rattle.elf_descriptor.specs.elf_object.Words.{Refusals, result_map}
use Rattle.elf_descriptor.specs.elf_object.Object.{Object, Section, section_at, piece_at}
use Rattle.elf_descriptor.specs.elf_object.Answers.{no_section, no_data, wrong_kind, bytes_of, items_at, count_at, lend_refusal}
use Rattle.elf_descriptor.specs.elf_object.Due.{is_loaded}
use Rattle.elf_descriptor.specs.elf_object.Calls.{Call, reader}
use Rattle.elf_descriptor.specs.elf_object.SymbolSections as sections
use Rattle.gelf_view.specs.declared.notes.NoteAt.{NoteAt}
use Rattle.gelf_view.specs.declared.versions.Verdef.{Verdef}
use Rattle.gelf_view.specs.declared.versions.Verdaux.{Verdaux}
use Rattle.gelf_view.specs.declared.versions.Verneed.{Verneed}
use Rattle.gelf_view.specs.declared.versions.Vernaux.{Vernaux}
use Rattle.gelf_view.specs.declared.symbols.SymPlace.{SymPlace}
use Rattle.gelf_view.specs.declared.symbols.SymPlace.TheVariants as special
use Rattle.gelf_view.specs.Notes.{note_align, note_at, note_header_refusal}
use Rattle.gelf_view.specs.Records.{record_at}
use Rattle.gelf_view.specs.Versions.{verdef_at, verdaux_at, verneed_at, vernaux_at}

-- ---- Calls that look at bytes

-- what refuses a lend of a kind before its content does
unfoldable pub kind_refusal : Object → Kind → ℕ → ℕ → Option ElfError
kind_refusal o kind s p =
    first_refusal (no_section o s ∷ no_data o s p ∷ wrong_kind o kind s p ∷ [])

-- it looks at the bytes of a piece where they stand, and so wants memory only for a home that is
-- not loaded
abbrev pub bytes_reader : {A : Type 0} → ℕ → ℕ → (Object → Result A ElfError) → Call A
bytes_reader s p answer = record (reader s p answer) {
  memory = λ o loaded held. is_none (piece_at o s p).own && not (is_loaded loaded s);
}

-- the bytes of a piece, refused as a lend of them
abbrev pub bytes_answer : Object → ℕ → ℕ → Result (List ℕ) ElfError
bytes_answer o s p = answered (lend_refusal o kinds.Bytes s p) (bytes_of (items_at o s p))

abbrev pub bytes : ℕ → ℕ → Call (List ℕ)
bytes s p = bytes_reader s p (λ o. bytes_answer o s p)

-- and then what is found in them
abbrev pub in_bytes : {A : Type 0} → ℕ → ℕ → (Object → List ℕ → Result A ElfError) → Call A
in_bytes s p found = bytes_reader s p (λ o. bytes_answer o s p >>= found o)

-- ---- Notes

-- in the bytes of a section
abbrev pub note_found : ℕ → ℕ → Object → List ℕ → Result (Option NoteAt) ElfError
note_found s at o bytes =
    note_at o.header.order (note_align (section_at o s).header.addralign) bytes at

unfoldable pub note_answer : Object → ℕ → ℕ → ℕ → Result (Option NoteAt) ElfError
note_answer o s p at = bytes_answer o s p >>= note_found s at o

-- gelf_getnote
abbrev pub note : ℕ → ℕ → ℕ → Call (Option NoteAt)
note s p at = bytes_reader s p (λ o. note_answer o s p at)

-- its refusals: that a header does not lie in the piece is seen by the number of its bytes; that a
-- name or a descriptor does not, in the bytes
abbrev pub note_refusals : Object → ℕ → ℕ → ℕ → Refusals
note_refusals o s p at = record {
  unread = lend_refusal o kinds.Bytes s p;
  early = first_refusal (lend_refusal o kinds.Bytes s p ∷ note_header_refusal
      (count_at o s p) at ∷ []);
  met = λ e. e ≡ BadChain at;
}

-- ---- Version records

-- a record of that size and form at a place of bytes
abbrev pub record_found : {A : Type 0} → ℕ → (Order → List ℕ → A) → ℕ → Object → List ℕ
    → Result A ElfError
record_found size of at o bytes = result_map (of o.header.order) (record_at size bytes at)

-- the call that reads one in a piece
abbrev pub record_call : {A : Type 0} → ℕ → (Order → List ℕ → A) → ℕ → ℕ → ℕ → Call A
record_call size of s p at = in_bytes s p (record_found size of at)

unfoldable pub verdef_answer : Object → ℕ → ℕ → ℕ → Result Verdef ElfError
verdef_answer o s p at = bytes_answer o s p >>= λ bytes. verdef_at o.header.order bytes at

unfoldable pub verdaux_answer : Object → ℕ → ℕ → ℕ → Result Verdaux ElfError
verdaux_answer o s p at = bytes_answer o s p >>= λ bytes. verdaux_at o.header.order bytes at

unfoldable pub verneed_answer : Object → ℕ → ℕ → ℕ → Result Verneed ElfError
verneed_answer o s p at = bytes_answer o s p >>= λ bytes. verneed_at o.header.order bytes at

unfoldable pub vernaux_answer : Object → ℕ → ℕ → ℕ → Result Vernaux ElfError
vernaux_answer o s p at = bytes_answer o s p >>= λ bytes. vernaux_at o.header.order bytes at

-- where the entries of a version section begin: an empty one has none
abbrev pub first_version_place : ℕ → Option ℕ
first_version_place size = if size == 0 then None else Some 0

unfoldable pub first_entry_answer : Object → ℕ → ℕ → Result (Option ℕ) ElfError
first_entry_answer o s p = bytes_answer o s p >>= λ bytes. Ok (first_version_place (length bytes))

abbrev pub first_entry : ℕ → ℕ → Call (Option ℕ)
first_entry s p = bytes_reader s p (λ o. first_entry_answer o s p)

-- gelf_getverdef
abbrev pub verdef : ℕ → ℕ → ℕ → Call Verdef
verdef s p at = bytes_reader s p (λ o. verdef_answer o s p at)

-- gelf_getverdaux
abbrev pub verdaux : ℕ → ℕ → ℕ → Call Verdaux
verdaux s p at = bytes_reader s p (λ o. verdaux_answer o s p at)

-- gelf_getverneed
abbrev pub verneed : ℕ → ℕ → ℕ → Call Verneed
verneed s p at = bytes_reader s p (λ o. verneed_answer o s p at)

-- gelf_getvernaux
abbrev pub vernaux : ℕ → ℕ → ℕ → Call Vernaux
vernaux s p at = bytes_reader s p (λ o. vernaux_answer o s p at)

-- ---- The section of a symbol

-- whether a section is a table of extended indexes of the symbols of another
abbrev pub is_index_table : ℕ → Section → Bool
is_index_table s c = c.header.stype == SHT_SYMTAB_SHNDX && c.header.link == s

-- the first such section, as a caller has it
abbrev pub IsShndxTable : Object → ℕ → Option ScnId → Type 0
IsShndxTable o s table = option_map (λ x. x.0) table ≡ sections.shndx_table o s

-- word i of that table
abbrev pub extended_index_word : ℕ → ℕ → Call ℕ
extended_index_word s i = record {
  answer = λ o. sections.extended_index o s i;
  after = λ o. o;
  reads = λ o. sections.word_reads o i (sections.shndx_table o s);
  memory = λ o loaded held. sections.word_memory o loaded held (sections.shndx_table o s);
}

-- the place of a symbol with that index
abbrev pub symbol_place : Bool → ℕ → ℕ → Sym → Call SymPlace
symbol_place told s i x = sections.place_by told special.Special special.Section s i x

-- gelf_getsymshndx, over a source that tells its bytes or does not
abbrev pub symbol_shndx_place : Bool → ℕ → ℕ → ℕ → Call SymPlace
symbol_shndx_place told s p i = sections.symshndx told special.Special special.Section s p i

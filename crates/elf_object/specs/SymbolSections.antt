-- The section of a symbol. An index from SHN_LORESERVE on is no section's; SHN_XINDEX says that the
-- section's number stands in a table of extended indexes (gABI chapter 4, "Symbol Table",
-- SHT_SYMTAB_SHNDX).
use Rattle.std.specs.Prelude.{◌≡◌, ℕ, ◌==◌, ◌&&◌, ◌||◌, Bool, false, not, nat_lt, List, [], Option, Some, None, if◌then◌else◌, Result, Ok, Err}
use Rattle.std.specs.List.{position}
use Rattle.elf_types.specs.declared.records.Sym.{Sym}
use Rattle.elf_types.specs.declared.errors.ElfError.{ElfError}
use Rattle.elf_types.specs.declared.errors.ElfError.TheVariants.{NoEntry}
use Rattle.elf_types.specs.declared.constants.TheConstants.{SHN_LORESERVE, SHN_XINDEX, SHT_SYMTAB_SHNDX}
use Rattle.elf_types.specs.declared.records.Kind.TheVariants as kinds
use Rattle.elf_types.specs.Answers.{err_of}
use Rattle.elf_object.specs.Words.{Refusals, result_map}
use Rattle.elf_object.specs.Object.{Object}
use Rattle.elf_object.specs.Answers.{lend_refusal, item_refusal}
use Rattle.elf_object.specs.Calls.{Call, unless_held, word, word_answer}
use Rattle.elf_object.specs.Calls as calls
use Rattle.elf_object.specs.Runs.{looked}

-- the table of extended indexes of the symbols of a section: the first section whose present type
-- is SHT_SYMTAB_SHNDX and whose present link is that section
unfoldable pub shndx_table : Object → ℕ → Option ℕ
shndx_table o s =
    position (λ c. c.header.stype == SHT_SYMTAB_SHNDX && c.header.link == s) o.sections

-- the extended index of symbol i: word i of the table's piece 0
unfoldable pub extended_index : Object → ℕ → ℕ → Result ℕ ElfError
extended_index o s i =
    elim (shndx_table o s) [ None ↦ Err (NoEntry i 0) | Some x ↦ word_answer o x 0 i ]

abbrev pub is_extended : Sym → Bool
is_extended x = x.shndx == SHN_XINDEX

-- the table that is read for the section of a symbol, where it is there. Over a source that does
-- not tell its bytes nobody knows the symbol, so it may be read for each.
abbrev pub table_read : Bool → Object → ℕ → Sym → Option ℕ
table_read told o s x = if is_extended x || not told then shndx_table o s else None

-- the section of symbol i of section s, in two forms of the caller's: one of a special index, and
-- one of a section's number
unfoldable pub place_of_symbol : {A : Type 0} → (ℕ → A) → (ℕ → A) → Object → ℕ → ℕ → Sym
    → Result A ElfError
place_of_symbol special numbered o s i x =
    if nat_lt x.shndx SHN_LORESERVE then Ok (numbered x.shndx)
    else (if is_extended x then result_map numbered (extended_index o s i)
    else Ok (special x.shndx))

-- what word i of that table reads, and whether it may want memory
abbrev pub word_reads : Object → ℕ → Option ℕ → List ℕ
word_reads o i None = []
word_reads o i (Some table) = (word table 0 i).reads o

abbrev pub word_memory : Object → List Bool → List Bool → Option ℕ → Bool
word_memory o loaded held None = false
word_memory o loaded held (Some table) = unless_held table 0 o loaded held

-- the section of a symbol that was looked at
abbrev pub place_by : {A : Type 0} → Bool → (ℕ → A) → (ℕ → A) → ℕ → ℕ → Sym → Call A
place_by told special numbered s i x = record {
  answer = λ o. place_of_symbol special numbered o s i x;
  after = λ o. o;
  reads = λ o. word_reads o i (table_read told o s x);
  memory = λ o loaded held. word_memory o loaded held (table_read told o s x);
}

-- the symbol's section by gelf_getsymshndx, of a source that tells its bytes or does not
abbrev pub symshndx : {A : Type 0} → Bool → (ℕ → A) → (ℕ → A) → ℕ → ℕ → ℕ → Call A
symshndx told special numbered s p i = looked (calls.sym s p i) (place_by told special numbered s i)

-- its refusals: as the lend of the symbols before it reads, as the symbol over every source, and as
-- the word of the table after it
abbrev pub symshndx_refusals : Object → ℕ → ℕ → ℕ → Refusals
symshndx_refusals o s p i = record {
  unread = lend_refusal o kinds.Sym s p;
  early = item_refusal o kinds.Sym s p i;
  met = λ e. err_of (extended_index o s i) ≡ Some e;
}

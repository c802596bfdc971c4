-- The map from old section numbers to new ones, and what follows it: links, symbols, extended
-- indexes and group members (gABI chapter 4, "Sections", sh_link and sh_info; "Symbol Table",
-- st_shndx; SHT_SYMTAB_SHNDX; SHT_GROUP). A number is a section's where it is neither 0 nor as
-- great as the number of sections; every other number stays.
use Rattle.std.specs.Prelude.{ℕ, Bool, false, not, ◌==◌, ◌&&◌, nat_lt, nat_eq, List, [], ◌∷◌, ◌++◌, length, take, drop, map, filter, slice_get, if◌then◌else◌, Option, Some, None}
use Rattle.std.specs.List.{position, enumerate_from, flat_map, range_with_len}
use Rattle.elf_types.specs.declared.records.Kind.TheVariants as kinds
use Rattle.elf_types.specs.declared.records.Shdr.{Shdr}
use Rattle.elf_types.specs.declared.records.Sym.{Sym}
use Rattle.elf_types.specs.declared.constants.TheConstants.{SHT_SYMTAB, SHT_GROUP, SHT_SYMTAB_SHNDX, SHN_LORESERVE}
use Rattle.hash_model.specs.elf_object.Object.{Object}
use Rattle.hash_model.specs.elf_object.Answers.{items_at, words_of, syms_of}
use Rattle.hash_model.specs.elf_object.Layout.{section_numbers}
use Rattle.hash_model.specs.elf_object.SymbolSections.{is_extended}
use Rattle.hash_model.specs.elf_object.Sections.{is_loose, info_is_section, header_at, is_among, first_of, number_or_0}

-- ---- The map

-- the old numbers of the sections that are kept, in their order: each stands at its new number
unfoldable pub kept_sections : Object → List ℕ → List ℕ
kept_sections o removed =
    filter (λ s. not (is_among removed s)) (range_with_len 0 (length o.sections))

-- the old numbers of the sections from 1 on that are kept
unfoldable pub kept_from_1 : Object → List ℕ → List ℕ
kept_from_1 o removed = filter (λ s. not (is_among removed s)) (section_numbers o)

-- the map: the new number of a kept section; a removed one has none
pub record Renumbering : Type 0 where
  pub count : ℕ  -- of the old sections
  pub kept : List ℕ

abbrev pub renumbering : Object → List ℕ → Renumbering
renumbering o removed = record { count = length o.sections; kept = kept_sections o removed }

unfoldable pub is_section_number : Renumbering → ℕ → Bool
is_section_number m n = not (n == 0) && nat_lt n m.count

unfoldable pub renumbered : Renumbering → ℕ → Option ℕ
renumbered m n = position (nat_eq n) m.kept

-- a number that follows: 0 where its section is removed
unfoldable pub followed : Renumbering → ℕ → ℕ
followed m n = if is_section_number m n then number_or_0 (renumbered m n) else n

-- ---- Links

-- sh_link, and sh_info where it is a section's number
unfoldable pub followed_header : Renumbering → Shdr → Shdr
followed_header m h =
    record h {
      link = followed m h.link;
      info = if info_is_section h then followed m h.info else h.info;
    }

-- ---- Group members

abbrev pub followed_member : Renumbering → ℕ → List ℕ
followed_member m n =
    if is_section_number m n
    then (elim (renumbered m n) [ None ↦ [] | Some new ↦ new ∷ [] ])
    else n ∷ []

-- the words of a group: its flags, and then its members
unfoldable pub followed_group : Renumbering → List ℕ → List ℕ
followed_group m words = take 1 words ++ flat_map (followed_member m) (drop 1 words)

-- ---- Symbols

-- a symbol of a removed section: it has none, and no value
abbrev pub without_section : Sym → Sym
without_section x = record x { shndx = 0; value = 0 }

-- a symbol whose section's number stands in itself
unfoldable pub followed_sym : Renumbering → Sym → Sym
followed_sym m x =
    if nat_lt x.shndx SHN_LORESERVE && is_section_number m x.shndx
    then (elim (renumbered m x.shndx) [
      | None ↦ without_section x
      | Some new ↦ record x { shndx = new }
    ])
    else x

-- a symbol whose section's number is a word of a table of extended indexes
unfoldable pub followed_extended : Renumbering → ℕ → Sym → Sym
followed_extended m word x = elim (renumbered m word) [
  | None ↦ without_section x
  | Some new ↦ if not (new == word) && nat_lt new SHN_LORESERVE then record x { shndx = new } else x
]

-- that word: a number that now stands in the symbol leaves 0 behind
unfoldable pub followed_word : Renumbering → ℕ → ℕ
followed_word m word = elim (renumbered m word) [
  | None ↦ 0
  | Some new ↦ if not (new == word) && nat_lt new SHN_LORESERVE then 0 else new
]

-- the word of a symbol counts: its index is extended, and the word is a section's number
abbrev pub word_counts : Renumbering → Sym → ℕ → Bool
word_counts m x word = is_extended x && is_section_number m word

abbrev pub followed_by_word : Renumbering → Option ℕ → Sym → Sym
followed_by_word m None x = followed_sym m x
followed_by_word m (Some word) x =
    if word_counts m x word then followed_extended m word x else followed_sym m x

-- symbols, with the words of their extended indexes, of which there may be fewer or none
unfoldable pub followed_syms : Renumbering → List ℕ → List Sym → List Sym
followed_syms m words syms =
    map (λ row. followed_by_word m (slice_get words row.0) row.1) (enumerate_from 0 syms)

abbrev pub word_of_sym : Renumbering → ℕ → Option Sym → ℕ
word_of_sym m word None = word
word_of_sym m word (Some x) = if word_counts m x word then followed_word m word else word

-- those words, with the symbols
unfoldable pub followed_words : Renumbering → List Sym → List ℕ → List ℕ
followed_words m syms words =
    map (λ row. word_of_sym m row.1 (slice_get syms row.0)) (enumerate_from 0 words)

-- ---- Which sections have items that follow

-- the symbol tables
unfoldable pub symbols_follow : Object → ℕ → Bool
symbols_follow o s = is_loose SHT_SYMTAB kinds.Sym (header_at o s)

-- the groups
unfoldable pub members_follow : Object → ℕ → Bool
members_follow o s = is_loose SHT_GROUP kinds.Word (header_at o s)

-- extended indexes of the symbols of a table
abbrev pub has_indexes_of : ℕ → Shdr → Bool
has_indexes_of table h = is_loose SHT_SYMTAB_SHNDX kinds.Word h && h.link == table

-- the extended indexes of such a symbol table: the first such section that is kept and links to it
unfoldable pub extended_table : Object → List ℕ → ℕ → Option ℕ
extended_table o removed table =
    first_of (λ s. has_indexes_of table (header_at o s)) (kept_from_1 o removed)

abbrev pub is_the : ℕ → Option ℕ → Bool
is_the n None = false
is_the n (Some m) = n == m

unfoldable pub indexes_follow : Object → List ℕ → ℕ → Bool
indexes_follow o removed s =
    let table = (header_at o s).link in
    is_among (kept_from_1 o removed) table
    && symbols_follow o table
    && is_the s (extended_table o removed table)

-- the words that a symbol table has for its extended indexes
unfoldable pub words_for : Object → List ℕ → ℕ → List ℕ
words_for o removed table =
    elim (extended_table o removed table) [ None ↦ [] | Some s ↦ words_of (items_at o s 0) ]

abbrev pub syms_in : Object → ℕ → List Sym
syms_in o s = syms_of (items_at o s 0)

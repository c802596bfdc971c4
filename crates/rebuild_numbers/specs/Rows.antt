-- Group members, symbols and extended indexes one by one, by the new number of their section, which
-- a removed one has not.
use Rattle.std.specs.Prelude.{ℕ, nat_lt, Bool, not, ◌==◌, ◌&&◌, List, [], ◌∷◌, Option, Some, None, if◌then◌else◌}
use Rattle.elf_types.specs.declared.records.Sym.{Sym}
use Rattle.elf_types.specs.declared.constants.TheConstants.{SHN_LORESERVE}
use Rattle.rebuild_select.specs.rebuild_model.Followed.{Renumbering, is_section_number, followed_member, followed_sym, followed_extended, followed_word, word_counts, without_section}

-- ---- Groups

-- the member that a section's number becomes, which goes out with its section
abbrev pub renumbered_members : Option ℕ → List ℕ
renumbered_members number = elim number [ None ↦ [] | Some new ↦ new ∷ [] ]

-- the first word of a group stays, and the others are members
abbrev pub added_word : Renumbering → ℕ → ℕ → List ℕ
added_word m i word = if i == 0 then word ∷ [] else followed_member m word

-- ---- Symbols

-- a symbol's section number stands in itself
abbrev pub has_number : Renumbering → Sym → Bool
has_number m x = nat_lt x.shndx SHN_LORESERVE && is_section_number m x.shndx

-- a symbol in the section that has that number now
abbrev pub sym_in_section : Option ℕ → Sym → Sym
sym_in_section number x =
    elim number [ None ↦ without_section x | Some new ↦ record x { shndx = new } ]

-- a new number comes to stand in the symbol, in place of its word
abbrev pub moves_in : ℕ → ℕ → Bool
moves_in word new = not (new == word) && nat_lt new SHN_LORESERVE

-- a symbol whose word becomes a new number
abbrev pub moved_sym : ℕ → ℕ → Sym → Sym
moved_sym word new x = if moves_in word new then record x { shndx = new } else x

-- a symbol with its word in a table of extended indexes
abbrev pub sym_with_word : Renumbering → ℕ → Sym → Sym
sym_with_word m word x =
    if word_counts m x word then followed_extended m word x else followed_sym m x

-- ---- Extended indexes

-- a word that becomes a new number
abbrev pub moved_word : ℕ → ℕ → ℕ
moved_word word new = if moves_in word new then 0 else new

-- the word of a symbol
abbrev pub word_with_sym : Renumbering → ℕ → Sym → ℕ
word_with_sym m word x = if word_counts m x word then followed_word m word else word

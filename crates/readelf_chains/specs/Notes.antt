-- The lines of the notes (the part `n`; gABI chapter 5, "Note Section").
use Rattle.std.specs.Prelude.{◌++◌, ◌==◌, ℕ, List, [], ◌∷◌, take, drop, take_while, flat_map, nat_lt, not, Bool, codes, if◌then◌else◌}
use Rattle.elf_types.specs.declared.constants.TheConstants.{SHT_NOTE}
use Rattle.elf_types.specs.Text.{hex}
use Rattle.elf_object.specs.Object.{Object}
use Rattle.tool_objects.specs.gelf_view.declared.notes.NoteAt.{NoteAt}
use Rattle.tool_objects.specs.gelf_view.Chains.{notes}
use Rattle.tool_output.specs.Names.{Name}
use Rattle.tool_output.specs.Reports.{Report, shown_report}
use Rattle.readelf_rows.specs.Fields.{decimal_column}
use Rattle.readelf_rows.specs.Data.{each_plain}
use Rattle.readelf_chains.specs.Chains.{chain_report, section_bytes, bytes_report}

-- the bytes of a section from a place on, so many
abbrev pub part_of : List ℕ → ℕ → ℕ → List ℕ
part_of bytes at size = take size (drop at bytes)

-- the owner: the bytes of the name before its first NUL, or all of them
unfoldable pub owner_of : List ℕ → List ℕ
owner_of name = take_while (λ b. not (b == 0)) name

-- ---- The line of a note

-- a byte as two hexadecimal digits
unfoldable pub hex_byte : ℕ → List ℕ
hex_byte b = if nat_lt b 16 then codes "0" ++ hex b else hex b

-- ` desc HEX`, where there are bytes
unfoldable pub desc_text : List ℕ → List ℕ
desc_text [] = []
desc_text (b ∷ bytes) = codes " desc " ++ flat_map hex_byte (b ∷ bytes)

-- `  owner [OWNER]`
unfoldable pub owner_text : List ℕ → List ℕ
owner_text owner = codes "  owner [" ++ owner ++ codes "]"

-- and then ` type T size N desc HEX`
unfoldable pub note_line : NoteAt → List ℕ → List ℕ → List ℕ
note_line note owner desc =
    owner_text owner
    ++ decimal_column (codes "type") note.ntype
    ++ decimal_column (codes "size") note.descsz
    ++ desc_text desc ++ codes "\n"

-- that of a note in the bytes of its section
unfoldable pub note_text : List ℕ → NoteAt → List ℕ
note_text bytes note =
    note_line note
    (owner_of (part_of bytes note.name_at note.namesz))
    (part_of bytes note.desc_at note.descsz)

-- ---- The notes of a section

-- those from a place on
unfoldable pub notes_from : Name → Object → ℕ → ℕ → Report
notes_from name o s at =
    chain_report name s (λ note. shown_report (note_text (section_bytes o s) note)) (notes o s 0 at)

unfoldable pub notes_title : List ℕ
notes_title = codes "Notes of section "

-- of a section that is in the file, and whose data is not compressed
unfoldable pub notes_of_section : Name → Object → ℕ → Report
notes_of_section name o s = bytes_report notes_title name o s (notes_from name o s 0)

abbrev pub holds_notes : ℕ → Bool
holds_notes stype = stype == SHT_NOTE

-- those of each such section, by number
unfoldable pub notes_report : Name → Object → Report
notes_report name o = each_plain holds_notes name o (notes_of_section name o)

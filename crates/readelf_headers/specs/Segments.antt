-- The lines of the program headers (the part `l`).
use Rattle.std.specs.Prelude.{◌++◌, ◌-◌, ◌%◌, ◌==◌, ℕ, List, [], ◌∷◌, length, bit_and, codes, decimal, if◌then◌else◌}
use Rattle.std.specs.Str.{byte}
use Rattle.elf_types.specs.declared.records.Phdr.{Phdr}
use Rattle.elf_types.specs.declared.constants.TheConstants.{PF_R, PF_W, PF_X}
use Rattle.elf_types.specs.Names.{segment_type_name_of}
use Rattle.elf_types.specs.Text.{hex}
use Rattle.tool_output.specs.Lines.{numbered_lines}
use Rattle.tool_output.specs.Reports.{Report, shown_report, joined_reports}
use Rattle.readelf_rows.specs.Fields.{name_or_hex, hex_column}

-- a letter where its bit is set, and `-` where it is not
unfoldable pub flag_letter : ℕ → ℕ → ℕ → ℕ
flag_letter flags bit letter = if bit_and flags bit == 0 then byte "-" else letter

-- the bits that have no letter, all but the three lowest
unfoldable pub other_flags : ℕ → List ℕ
other_flags flags = if flags - flags % 8 == 0 then [] else codes "+0x" ++ hex (flags - flags % 8)

-- the three letters, and the other bits (gABI chapter 5, "Segment Permissions")
unfoldable pub flags_text : ℕ → List ℕ
flags_text flags =
    (flag_letter flags PF_R (byte "R")
    ∷ flag_letter flags PF_W (byte "W")
    ∷ flag_letter flags PF_X (byte "X")
    ∷ [])
    ++ other_flags flags

-- `  I TYPE`
unfoldable pub segment_start : ℕ → Phdr → List ℕ
segment_start i p =
    codes "  " ++ decimal i ++ codes " " ++ name_or_hex (segment_type_name_of p.ptype) p.ptype

unfoldable pub segment_places : Phdr → List ℕ
segment_places p =
    hex_column (codes "offset") p.offset
    ++ hex_column (codes "vaddr") p.vaddr
    ++ hex_column (codes "paddr") p.paddr

unfoldable pub segment_sizes : Phdr → List ℕ
segment_sizes p = hex_column (codes "filesz") p.filesz ++ hex_column (codes "memsz") p.memsz

unfoldable pub flags_column : ℕ → List ℕ
flags_column flags = codes " flags " ++ flags_text flags

unfoldable pub segment_line_end : Phdr → List ℕ
segment_line_end p = flags_column p.flags ++ hex_column (codes "align") p.align ++ codes "\n"

-- the line of one program header, by its number
unfoldable pub phdr_line : ℕ → Phdr → List ℕ
phdr_line i p = segment_start i p ++ segment_places p ++ segment_sizes p ++ segment_line_end p

unfoldable pub count_line : ℕ → List ℕ
count_line count = codes "Program headers: " ++ decimal count ++ codes "\n"

-- their number, and a line for each
unfoldable pub segments_report : List Phdr → Report
segments_report phdrs =
    joined_reports (shown_report (count_line (length phdrs)))
    (shown_report (numbered_lines phdr_line 0 phdrs))

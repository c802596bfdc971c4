-- What the self test tells of the image that it opens again (`told_lines` of rebuild_model), and
-- of the file that holds it.
use Rattle.std.specs.Prelude.{◌++◌, ℕ, ◌+◌, List, map, codes, decimal, Option, None, Result, Ok, Err}
use Rattle.std.specs.List.{position, sum}
use Rattle.elf_types.specs.declared.records.Sym.{Sym}
use Rattle.elf_types.specs.declared.errors.ElfError.{ElfError}
use Rattle.elf_types.specs.Text.{error_text}
use Rattle.elf_object.specs.Object.{Object}
use Rattle.elf_object.specs.Answers.{items_at, syms_of}
use Rattle.elf_object.specs.Strings.{is_name}
use Rattle.hash_model.specs.Listed.{listed_names}
use Rattle.rebuild_model.specs.Generated.{line_of, found_text, told_lines}
use Rattle.tool_output.specs.Names.{Name, file_name}
use Rattle.tool_output.specs.Reports.{Report, shown_report, refusal_report}
use Rattle.tool_output.specs.Outcomes.{Outcome, report_outcome}
use Rattle.elfkit_outcomes.specs.tool_objects.Images.{image_report}

-- ---- The lines

-- a word and a number
unfoldable pub number_line : List ℕ → ℕ → List ℕ
number_line word n = line_of word (decimal n)

-- what a lookup found
unfoldable pub found_line : Option ℕ → List ℕ
found_line found = line_of (codes "found") (found_text found)

-- of so many sections, symbols and bytes, of a sum of values, and of what a lookup found
unfoldable pub lines_text : ℕ → ℕ → ℕ → ℕ → Option ℕ → List ℕ
lines_text sections symbols bytes sum found =
    number_line (codes "sections") sections
    ++ number_line (codes "symbols") symbols
    ++ number_line (codes "bytes") bytes
    ++ number_line (codes "value sum") sum
    ++ found_line found

-- ---- What they tell

unfoldable pub value_sum : List Sym → ℕ
value_sum symbols = sum (map (λ x. x.value) symbols)

-- the symbols of section n + 1
abbrev pub symbols_told : ℕ → Object → List Sym
symbols_told n o = syms_of (items_at o (n + 1) 0)

-- the first symbol of section n + 1 with a name, among those that a lookup can find
abbrev pub first_named : ℕ → List ℕ → Object → Option ℕ
first_named n name o = position (is_name name) (listed_names o (n + 1))

-- ---- The report

-- the lines, or the message of what is refused
abbrev pub selftest_lines_report : Name → Result (List ℕ) ElfError → Report
selftest_lines_report name (Ok lines) = shown_report lines
selftest_lines_report name (Err e) = refusal_report (codes "selftest") name (error_text e)

unfoldable pub told_report : ℕ → Name → Object → Report
told_report n name o = selftest_lines_report name (told_lines n o)

-- of what a file holds; no bound on what is asked for is promised
unfoldable pub told_outcome : ℕ → List ℕ → List ℕ → Outcome
told_outcome n file bytes =
    report_outcome (image_report (codes "selftest") (told_report n) (file_name file) bytes) None

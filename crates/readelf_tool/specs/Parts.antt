-- What readelf shows of an object: the parts that are asked for by their letters, in their order.
use Rattle.std.specs.Prelude.{ℕ, Bool, true, false, ◌&&◌, List, [], ◌∷◌, if◌then◌else◌}
use Rattle.std.specs.List.{list_any, count_by}
use Rattle.elf_object.specs.Object.{Object, header_of}
use Rattle.readelf_tool.specs.declared.options.ReadelfParts.{ReadelfParts}
use Rattle.tool_output.specs.Names.{Name}
use Rattle.tool_output.specs.Reports.{Report, no_report, reports_of}
use Rattle.tool_objects.specs.Looks.{SectionLooks}
use Rattle.readelf_tool.specs.declared.parts.Letter.{Letter}
use Rattle.readelf_tool.specs.declared.parts.Letter.TheVariants.{Header, Segments, Sections, Symbols, Relocations, Dynamic, Notes, Versions}
use Rattle.readelf_headers.specs.Header.{header_report}
use Rattle.readelf_headers.specs.Segments.{segments_report}
use Rattle.readelf_headers.specs.Sections.{sections_report}
use Rattle.readelf_tables.specs.Symbols.{symbols_report}
use Rattle.readelf_tables.specs.Relocations.{relocations_report}
use Rattle.readelf_tables.specs.Dynamic.{dynamic_report}
use Rattle.readelf_chains.specs.Notes.{notes_report}
use Rattle.readelf_tool.specs.Versions.{versions_report}

-- the letters in the order of their parts, whatever their order in the words of the command: h, l,
-- S, s, r, d, n, V
abbrev pub letters : List Letter
letters =
    Header ∷ Segments ∷ Sections ∷ Symbols ∷ Relocations ∷ Dynamic ∷ Notes ∷ Versions ∷ []

-- whether a letter is asked for
unfoldable pub is_asked : ReadelfParts → Letter → Bool
is_asked parts Header = parts.header
is_asked parts Segments = parts.segments
is_asked parts Sections = parts.sections
is_asked parts Symbols = parts.symbols
is_asked parts Relocations = parts.relocations
is_asked parts Dynamic = parts.dynamic
is_asked parts Notes = parts.notes
is_asked parts Versions = parts.versions

-- what each letter shows
unfoldable pub letter_report : Letter → Name → Object → Report
letter_report Header name o = header_report (header_of o)
letter_report Segments name o = segments_report o.phdrs
letter_report Sections name o = sections_report o
letter_report Symbols name o = symbols_report name o
letter_report Relocations name o = relocations_report name o
letter_report Dynamic name o = dynamic_report name o
letter_report Notes name o = notes_report name o
letter_report Versions name o = versions_report name o

-- that of a letter, where it is asked for
unfoldable pub letter_part : ReadelfParts → Name → Letter → Object → Report
letter_part parts name letter o =
    if is_asked parts letter then letter_report letter name o else no_report

-- all of them
unfoldable pub readelf_report : ReadelfParts → Name → Object → Report
readelf_report parts name o = reports_of (λ letter. letter_part parts name letter o) letters

-- ---- What is asked for

-- The letters h and l show what the front has, and ask for nothing more. The other letters read
-- sections.
unfoldable pub reads_sections : Letter → Bool
reads_sections Header = false
reads_sections Segments = false
reads_sections Sections = true
reads_sections Symbols = true
reads_sections Relocations = true
reads_sections Dynamic = true
reads_sections Notes = true
reads_sections Versions = true

-- whether the part of a letter is shown and goes over the sections, which it does once
abbrev pub goes_over : ReadelfParts → Letter → Bool
goes_over parts letter = is_asked parts letter && reads_sections letter

-- whether one does
unfoldable pub shows_sections : ReadelfParts → Bool
shows_sections parts = list_any (λ letter. goes_over parts letter) letters

-- how many do
unfoldable pub passes_of : ReadelfParts → ℕ
passes_of parts = count_by (goes_over parts) letters

abbrev pub readelf_looks : ReadelfParts → SectionLooks
readelf_looks parts = record { reads = shows_sections parts; passes = passes_of parts }

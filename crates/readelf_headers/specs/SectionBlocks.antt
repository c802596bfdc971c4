-- The lines of the sections of an object whose names are at hand, in one table of strings.
use Rattle.std.specs.Prelude.{◌≡◌, ◌-◌, ℕ, List, drop, flat_map, IsTrue}
use Rattle.std.specs.List.{range_with_len}
use Rattle.elf_object.specs.Object.{Object, section_at}
use Rattle.elf_object.specs.Strings.{section_name}
use Rattle.tool_objects.specs.elf_descriptor.State.{State}
use Rattle.tool_objects.specs.gelf_view.Records.{string_front}
use Rattle.readelf_headers.specs.Sections.{section_line}

-- the line of a section, with the name that the bytes of the strings hold
abbrev pub line_by : Object → List ℕ → ℕ → List ℕ
line_by o strings i =
    section_line i (string_front (drop (section_at o i).header.name strings))
    (section_at o i).header

-- the lines of the sections from one on and below another
abbrev pub lines_by : Object → List ℕ → ℕ → ℕ → List ℕ
lines_by o strings from to = flat_map (line_by o strings) (range_with_len from (to - from))

-- the names of the sections are those that the bytes hold, where the source tells its bytes
abbrev pub AreNames : {S : Type 0} → State S → List ℕ → Type 0
AreNames state strings = IsTrue state.told → (s : ℕ)
    → section_name state.o s ≡ string_front (drop (section_at state.o s).header.name strings)

-- Files by their names, and options, on which the outcomes are computed.
use Rattle.std.specs.Prelude.{ℕ, Bool, false, List, [], ◌∷◌, codes, map, length, if◌then◌else◌, Option, Some, None}
use Rattle.std.specs.Str.{bytes_eq}
use Rattle.tool_objects.specs.elf_outside.Names.{Map}
use Rattle.elfkit_outcomes.specs.declared.options.StripOptions.{StripOptions}
use Rattle.rebuild_changes.specs.declared.options.CopyChanges.{CopyChanges}
use Rattle.rebuild_model.specs.elf_object.Samples.{small64, header64, with_number}
use Rattle.tool_objects.specs.tool_output.Marks.{Mark, said}
use Rattle.tool_objects.specs.tool_output.Outcomes.{Outcome, FileWrite, write_of, held_after}
use Rattle.tool_objects.specs.tool_output.declared.outputs.Side.TheVariants.{Error}
use Rattle.rebuild_model.specs.Executable.{executable64, stripped_executable64, debug_executable64}
use Rattle.elfkit_outcomes.specs.Strip.{strip_outcome}

-- ---- Files

-- the bytes of the first row with the name
abbrev pub file_in : List (List ℕ × List ℕ) → Map
file_in [] name = None
file_in (row ∷ rows) name = if bytes_eq name row.0 then Some row.1 else file_in rows name

-- an image, the same with a symbol table that links to nothing and without a section of names,
-- another one, an archive, and a file of two bytes
abbrev pub some_files : Map
some_files = file_in
    ((codes "J", small64)
    ∷ (codes "K", with_number 288 4 0 small64)
    ∷ (codes "F", with_number 62 2 0 small64)
    ∷ (codes "H", header64)
    ∷ (codes "A", codes "!<arch>\n")
    ∷ (codes "G", codes "hi")
    ∷ [])

-- a whole executable, and its two halves
abbrev pub executable_files : Map
executable_files = file_in ((codes "U", executable64) ∷ [])

abbrev pub half_files : Map
half_files =
    file_in ((codes "O", stripped_executable64) ∷ (codes "D", debug_executable64) ∷ [])

-- the files afterwards
abbrev pub files_after : Outcome → Map → Map
files_after outcome named name = held_after (write_of outcome.writes name) (named name)

-- ---- Options

abbrev pub stripping : Bool → Option (List ℕ) → StripOptions
stripping debug_only debug =
    record { debug_only = debug_only; names = []; debug = debug; out = codes "O" }

abbrev pub no_copy_changes : CopyChanges
no_copy_changes = record { remove = []; update = []; rename = []; flags = []; add = [] }

-- bytes of a file for a section that is not there, a section of a file that is not there, and a
-- new section
abbrev pub updating_missing : CopyChanges
updating_missing =
    record no_copy_changes { update = record { name = codes ".q"; file = codes "G" } ∷ [] }

abbrev pub adding_missing : CopyChanges
adding_missing =
    record no_copy_changes { add = record { name = codes ".q"; file = codes "N" } ∷ [] }

abbrev pub adding_section : CopyChanges
adding_section =
    record no_copy_changes { add = record { name = codes ".x"; file = codes "G" } ∷ [] }

-- ---- Outcomes

abbrev pub ends_with : List Mark → ℕ → List FileWrite → Outcome
ends_with marks status writes =
    record { marks = marks; status = status; writes = writes; asks = None; gives = None }

-- a message alone, with status 1
abbrev pub refused_with : List ℕ → Outcome
refused_with line = ends_with (said Error line) 1 []

-- files alone, with status 0
abbrev pub succeeds_with_files : List FileWrite → Outcome
succeeds_with_files files = ends_with [] 0 files

-- the names of the files that are made, with their lengths
abbrev pub written_lengths : Outcome → List (List ℕ × ℕ)
written_lengths outcome = map (λ w. (w.name, length w.bytes)) outcome.writes

-- what strip gives of a file
abbrev pub strip_of : Bool → Option (List ℕ) → List ℕ → Outcome
strip_of debug_only debug file = strip_outcome (stripping debug_only debug) some_files file

-- the files after the image was split into O and D
abbrev pub split_files : Map
split_files = files_after (strip_of false (Some (codes "D")) (codes "J")) some_files

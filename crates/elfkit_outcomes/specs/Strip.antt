-- strip, and unstrip, which combines what strip -f split.
use Rattle.std.specs.Prelude.{ℕ, List, [], ◌∷◌, Option, Some, None, Result, Ok, Err, codes}
use Rattle.elf_types.specs.Answers.{answered, ◌>>=◌}
use Rattle.elf_types.specs.Text.{error_text, numbered}
use Rattle.std.specs.Option.{option_map}
use Rattle.tool_objects.specs.elf_outside.Names.{Map}
use Rattle.elfkit_outcomes.specs.declared.options.StripOptions.{StripOptions}
use Rattle.rebuild_model.specs.elf_object.Object.{Object}
use Rattle.rebuild_model.specs.Removed.{removed_sections}
use Rattle.rebuild_model.specs.Rebuilt.{rebuilt}
use Rattle.rebuild_model.specs.Split.{debug_of, removed_allocated, unstripped, UnstripFault}
use Rattle.rebuild_model.specs.Split.UnstripFault.{Elf, Debug, Mismatch}
use Rattle.rebuild_model.specs.Files.{file_of}
use Rattle.tool_objects.specs.tool_output.Outcomes.{Outcome}
use Rattle.tool_objects.specs.tool_output.Made.{Done, Complaint, written_outcome, made_file_alone, made_file, complaint, of_file}
use Rattle.elfkit_outcomes.specs.Files.{object_named}

-- ---- strip

-- without -f: the image of what is kept
unfoldable pub strip_alone : Object → List ℕ → List ℕ → List ℕ → Result Done Complaint
strip_alone o removed out file =
    of_file file (rebuilt o removed >>= λ r. file_of r.object) >>= λ bytes.
    Ok (made_file_alone out bytes)

abbrev pub allocated_text : ℕ → List ℕ
allocated_text s = numbered (codes "section ") s (codes " is allocated")

-- a removed section that is allocated
abbrev pub allocated_complaint : Object → List ℕ → List ℕ → Option Complaint
allocated_complaint o removed file =
    option_map (λ s. complaint file (allocated_text s)) (removed_allocated o removed)

-- with -f: that image first, and then the debug half
unfoldable pub strip_split : Object → List ℕ → List ℕ → List ℕ → List ℕ → Result Done Complaint
strip_split o removed out debug file =
    answered (allocated_complaint o removed file) o >>= λ o.
    of_file file (rebuilt o removed) >>= λ r.
    of_file file (debug_of o) >>= λ half.
    of_file file (file_of r.object) >>= λ stripped_bytes.
    of_file file (file_of half) >>= λ debug_bytes.
    Ok (record {
      shown = [];
      writes = made_file out stripped_bytes ∷ made_file debug debug_bytes ∷ [];
    })

unfoldable pub strip_done : StripOptions → Map → List ℕ → Result Done Complaint
strip_done options named file =
    object_named named file >>= λ o.
    let removed = removed_sections options.debug_only options.names o in
    elim (options.debug) [
      | None ↦ strip_alone o removed options.out file
      | Some debug ↦ strip_split o removed options.out debug file
    ]

unfoldable pub strip_outcome : StripOptions → Map → List ℕ → Outcome
strip_outcome options named file = written_outcome (codes "strip") (strip_done options named file)

-- ---- unstrip

-- the file that a fault is one of, and its text
unfoldable pub unstrip_complaint : List ℕ → List ℕ → UnstripFault → Complaint
unstrip_complaint stripped debug (Elf e) = complaint stripped (error_text e)
unstrip_complaint stripped debug (Debug e) = complaint debug (error_text e)
unstrip_complaint stripped debug Mismatch = complaint stripped (codes "files do not match")

abbrev pub or_complaint : {A F : Type 0} → (F → Complaint) → Result A F → Result A Complaint
or_complaint complain (Ok x) = Ok x
or_complaint complain (Err fault) = Err (complain fault)

unfoldable pub unstrip_done : Map → List ℕ → List ℕ → List ℕ → Result Done Complaint
unstrip_done named out stripped debug =
    object_named named stripped >>= λ s.
    object_named named debug >>= λ d.
    or_complaint (unstrip_complaint stripped debug) (unstripped s d) >>= λ r.
    of_file stripped (file_of r.object) >>= λ bytes.
    Ok (made_file_alone out bytes)

unfoldable pub unstrip_outcome : Map → List ℕ → List ℕ → List ℕ → Outcome
unstrip_outcome named out stripped debug =
    written_outcome (codes "unstrip") (unstrip_done named out stripped debug)

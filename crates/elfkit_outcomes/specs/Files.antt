-- The files that a command reads whole: each is there, or ends the command.
use Rattle.std.specs.Prelude.{ℕ, List, [], ◌∷◌, Result, Ok, codes}
use Rattle.elf_types.specs.Answers.{or_refused, ◌>>=◌}
use Rattle.rebuild_model.specs.elf_object.Object.{Object}
use Rattle.tool_objects.specs.elf_outside.Names.{Map}
use Rattle.rebuild_changes.specs.declared.options.NamedFile.{NamedFile}
use Rattle.tool_objects.specs.tool_output.Made.{Complaint, complaint, of_file}
use Rattle.tool_objects.specs.Images.{file_object}

unfoldable pub bytes_named : Map → List ℕ → Result (List ℕ) Complaint
bytes_named named file = or_refused (named file) (complaint file (codes "not found"))

unfoldable pub object_named : Map → List ℕ → Result Object Complaint
object_named named file =
    bytes_named named file >>= λ image. of_file file (file_object image)

-- the bytes of files, each with the name of a section, in their order
unfoldable pub bytes_of_each : Map → List NamedFile → Result (List (List ℕ × List ℕ)) Complaint
bytes_of_each named [] = Ok []
bytes_of_each named (f ∷ files) =
    bytes_named named f.file >>= λ bytes.
    bytes_of_each named files >>= λ others.
    Ok ((f.name, bytes) ∷ others)

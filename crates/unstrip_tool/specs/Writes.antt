-- The two files that strip with -f makes of the halves of an image.
use Rattle.std.specs.Prelude.{ℕ, Bool, List, [], ◌∷◌, Result, Ok}
use Rattle.elf_types.specs.declared.errors.ElfError.{ElfError}
use Rattle.elf_types.specs.Answers.{◌>>=◌}
use Rattle.elf_object.specs.Object.{Object}
use Rattle.rebuild_model.specs.Removed.{removed_sections}
use Rattle.rebuild_files.specs.elfkit_outcomes.Strip.{strip_split}
use Rattle.tool_output.specs.Made.{Done, Complaint, made_file, of_file}
use Rattle.unstrip_tool.specs.declared.names.HalfNames.{HalfNames}

-- both files, and nothing shown
abbrev pub both_made : HalfNames → List ℕ → List ℕ → Done
both_made names bytes others = record {
  shown = [];
  writes = made_file names.stripped.now bytes ∷ made_file names.debug.now others ∷ [];
}

-- of what are to be their bytes
abbrev pub split_done : List ℕ → HalfNames → Result (List ℕ × List ℕ) ElfError
    → Result Done Complaint
split_done file names r = of_file file r >>= λ both. Ok (both_made names both.0 both.1)

-- of the object of the file
abbrev pub object_split : Bool → List (List ℕ) → HalfNames → List ℕ → Object
    → Result Done Complaint
object_split debug_only names halves file o =
    strip_split o (removed_sections debug_only names o) halves.stripped.now halves.debug.now file

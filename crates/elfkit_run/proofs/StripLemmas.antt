-- The command strip, by the image of the file that it names.
use Rattle.std.proofs.Common.{◌≡◌, ◌≢◌, ℕ, Bool, List, codes, Option, Some, None, Result, ap}
use Rattle.elf_types.specs.declared.errors.ElfError.{ElfError}
use Rattle.elf_types.specs.Answers.{◌>>=◌}
use Rattle.elf_outside.specs.Names.{Map}
use Rattle.elf_object.specs.Object.{Object}
use Rattle.rebuild_model.specs.Removed.{removed_sections}
use Rattle.rebuild_model.specs.Rebuilt.{rebuilt}
use Rattle.rebuild_model.specs.Files.{file_of}
use Rattle.selftest_tool.specs.elfkit_outcomes.declared.options.StripOptions.{StripOptions}
use Rattle.tool_output.specs.Outcomes.{write_of}
use Rattle.tool_output.specs.Made.{of_file, written_outcome}
use Rattle.selftest_tool.specs.elfkit_outcomes.Files.{object_named}
use Rattle.selftest_tool.specs.elfkit_outcomes.Strip.{strip_alone, strip_split, strip_done, strip_outcome}
use Rattle.strip_tool.specs.tool_files.ElfImages.Writes.{image_done, named_done}
use Rattle.strip_tool.proofs.tool_files.elf_images.NamedLemmas.{unwritten, unwritten_image}

pub strip_unwritten : (debug_only : Bool) (names : List (List ℕ)) (out file : List ℕ)
    → out ≢ file → (r : Result Object ElfError)
    → write_of (written_outcome (codes "strip") (image_done
    (λ name o. strip_alone o (removed_sections debug_only names o) out name) file r)).writes file
    ≡ None
unfolding strip_alone
strip_unwritten debug_only names out file differ r =
    unwritten_image (codes "strip") out file differ
    (λ name o. strip_alone o (removed_sections debug_only names o) out name)
    (λ o. unwritten (codes "strip") out file differ
    (of_file file (rebuilt o (removed_sections debug_only names o) >>= λ x. file_of x.object))) r

pub strip_is : (options : StripOptions) (named : Map) (file : List ℕ) → options.debug ≡ None
    → strip_outcome options named file
    ≡ written_outcome (codes "strip") (named_done (λ name o. strip_alone o
    (removed_sections options.debug_only options.names o) options.out name) named file)
unfolding strip_outcome strip_done
strip_is options named file alone =
    ap (λ (debug : Option (List ℕ)). written_outcome (codes "strip") (object_named named file
    >>= λ o. elim debug [
      | None ↦ strip_alone o (removed_sections options.debug_only options.names o) options.out file
      | Some d ↦ strip_split o (removed_sections options.debug_only options.names o) options.out d
          file
    ])) alone

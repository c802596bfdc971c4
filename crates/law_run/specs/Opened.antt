-- Whatever file a run changes holds an image that opens.
use Rattle.std.specs.Prelude.{◌≡◌, ◌≢◌, ℕ, ◌<◌, List, Option, Some, Ok}
use Rattle.elf_outside.specs.Names.{Map}
use Rattle.elf_object.specs.Object.{Object}
use Rattle.elf_object.specs.Open.{opened}
use Rattle.tool_output.specs.declared.statuses.Status.{Status}
use Rattle.tool_output.specs.Statuses.{status_code}
use Rattle.law_run.specs.Copied.{AreAllBytes}
use Rattle.law_run.specs.Runs.{Around, Ran}

-- a name holds an image
pub record HoldsImage (held : Option (List ℕ)) : Type 0 where
  pub bytes : List ℕ
  pub is_held : held ≡ Some bytes
  pub object : Object
  pub opens : opened bytes ≡ Ok object

-- so does each that a run changes which comes to its end: its status is Done, Refused or BadWords
abbrev pub ChangesToImages : List (List ℕ) → Status → Map → Map → Type 0
ChangesToImages words status old new =
    AreAllBytes words old → status_code status < 3
    → (name : List ℕ) → new name ≢ old name → HoldsImage (new name)

abbrev pub RunChangesToImages : Type 0
RunChangesToImages =
    (words : List (List ℕ)) (status : Status) (run : Around) → Ran words status run
    → ChangesToImages words status run.named_old run.named_new

-- What a run of rehash keeps of the dynamic symbols of FILE, and what the hash sections of OUT are
-- good for (gABI chapter 5, "Hash Table"; GNU's hash section).
use Rattle.std.specs.Prelude.{◌≡◌, ℕ, List, Option, Some, Ok}
use Rattle.elf_types.specs.Lists.{AreBytes}
use Rattle.elf_outside.specs.Names.{Map}
use Rattle.tool_output.specs.declared.statuses.Status.{Status}
use Rattle.tool_output.specs.declared.statuses.Status.TheVariants.{Done}
use Rattle.tool_output.specs.Outcomes.{FileWrite}
use Rattle.elfkit_run.specs.elfkit_words.declared.commands.Command.TheVariants.{Rehash}
use Rattle.elfkit_run.specs.elfkit_words.declared.commands.Request.TheVariants.{Run}
use Rattle.elfkit_run.specs.elfkit_words.Reading.{request_of_words}
use Rattle.law_reopen.specs.Rehash.RehashedFiles.{RehashMakes}
use Rattle.law_run.specs.Runs.{Around, Ran}

-- the words ask for rehash, FILE holds bytes, as every file, and the run ends with Done
pub record RehashesFile (words : List (List ℕ)) (status : Status) (old : Map) : Type 0 where
  pub out : List ℕ
  pub file : List ℕ
  pub asked : request_of_words words ≡ Ok (Run (Rehash out file))
  pub done : status ≡ Done
  pub bytes : (image : List ℕ) → old file ≡ Some image → AreBytes image

-- a name holds what rehash writes of FILE, of which the law of its files holds
pub record HoldsRehashed (old : Map) (file : List ℕ) (held : Option (List ℕ)) : Type 0 where
  pub write : FileWrite
  pub is_held : held ≡ Some write.bytes
  pub makes : RehashMakes old file write

-- so it is of OUT after the run
abbrev pub KeepsRehashed : List (List ℕ) → Status → Map → Map → Type 0
KeepsRehashed words status old new =
    (is : RehashesFile words status old) → HoldsRehashed old is.file (new is.out)

abbrev pub RunKeepsRehashed : Type 0
RunKeepsRehashed =
    (words : List (List ℕ)) (status : Status) (run : Around) → Ran words status run
    → KeepsRehashed words status run.named_old run.named_new

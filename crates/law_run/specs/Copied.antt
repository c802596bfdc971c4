-- What a run of copy keeps of FILE, and of the files of -u and -a (objcopy(1) has the like of it).
use Rattle.std.specs.Prelude.{◌≡◌, ℕ, List, All, Option, Some, Ok}
use Rattle.elf_types.specs.Lists.{AreBytes}
use Rattle.elf_outside.specs.Names.{Map}
use Rattle.tool_output.specs.declared.statuses.Status.{Status}
use Rattle.tool_output.specs.declared.statuses.Status.TheVariants.{Done}
use Rattle.tool_output.specs.Outcomes.{FileWrite}
use Rattle.elfkit_run.specs.elfkit_words.declared.commands.Command.TheVariants.{Copy}
use Rattle.elfkit_outcomes.specs.rebuild_changes.declared.options.CopyChanges.{CopyChanges}
use Rattle.elfkit_run.specs.elfkit_words.declared.commands.Request.TheVariants.{Run}
use Rattle.elfkit_run.specs.elfkit_words.Reading.{request_of_words}
use Rattle.law_files.specs.Copy.CopiedFiles.{CopyWrites}
use Rattle.law_run.specs.Runs.{Around, Ran}

-- the words and the files of a set are bytes, as those of every run
pub record AreAllBytes (words : List (List ℕ)) (named : Map) : Type 0 where
  pub words_are : All AreBytes words
  pub files_are : (name bytes : List ℕ) → named name ≡ Some bytes → AreBytes bytes

-- the words ask for copy, and the run ends with Done
pub record CopiesFile (words : List (List ℕ)) (status : Status) (old : Map) : Type 0 where
  pub changes : CopyChanges
  pub out : List ℕ
  pub file : List ℕ
  pub asked : request_of_words words ≡ Ok (Run (Copy changes out file))
  pub done : status ≡ Done
  pub bytes : AreAllBytes words old

-- a name holds what copy writes of FILE, of which the law of copy holds
pub record HoldsCopied (changes : CopyChanges) (old : Map) (file : List ℕ)
    (held : Option (List ℕ)) : Type 0 where
  pub write : FileWrite
  pub is_held : held ≡ Some write.bytes
  pub copies : CopyWrites changes old file write

-- so it is of OUT after the run
abbrev pub KeepsCopied : List (List ℕ) → Status → Map → Map → Type 0
KeepsCopied words status old new =
    (is : CopiesFile words status old) → HoldsCopied is.changes old is.file (new is.out)

abbrev pub RunKeepsCopied : Type 0
RunKeepsCopied =
    (words : List (List ℕ)) (status : Status) (run : Around) → Ran words status run
    → KeepsCopied words status run.named_old run.named_new

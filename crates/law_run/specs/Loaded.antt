-- What a run of strip keeps of what is loaded (strip(1) of the development tools; gABI chapter 5,
-- "Program Header", PT_LOAD).
use Rattle.std.specs.Prelude.{◌≡◌, ℕ, ◌<◌, false, List, length, slice_index, Option, Some, Ok}
use Rattle.elf_types.specs.Lists.{AreBytes}
use Rattle.elf_outside.specs.Names.{Map}
use Rattle.elf_ident.specs.declared.fronts.Front.{Front}
use Rattle.elf_ident.specs.Front.{front}
use Rattle.rebuild_model.specs.Laws.{IsUsual, IsLoaded, may_change}
use Rattle.tool_output.specs.declared.statuses.Status.{Status}
use Rattle.tool_output.specs.declared.statuses.Status.TheVariants.{Done}
use Rattle.elfkit_run.specs.elfkit_words.declared.commands.Command.TheVariants.{Strip}
use Rattle.elfkit_run.specs.elfkit_words.declared.commands.Request.TheVariants.{Run}
use Rattle.elfkit_outcomes.specs.declared.options.StripOptions.{StripOptions}
use Rattle.elfkit_run.specs.elfkit_words.Reading.{request_of_words}
use Rattle.law_run.specs.Runs.{Around, Ran}

-- the words ask for strip, with -f or without, FILE holds an image with a usual header, and the run
-- ends with Done
pub record StripsFile (words : List (List ℕ)) (status : Status) (old : Map) : Type 0 where
  pub options : StripOptions
  pub file : List ℕ
  pub asked : request_of_words words ≡ Ok (Run (Strip options file))
  pub done : status ≡ Done
  pub image : List ℕ
  pub held : old file ≡ Some image
  pub bytes : AreBytes image
  pub headers : Front
  pub is_front : front image ≡ Ok headers
  pub usual : IsUsual headers

-- a name holds bytes of which each that is loaded is the image's, but for e_shoff, e_shnum and
-- e_shstrndx
pub record HoldsLoaded (image : List ℕ) (headers : Front) (held : Option (List ℕ)) : Type 0 where
  pub out : List ℕ
  pub is_out : held ≡ Some out
  pub same :
      (k : ℕ) → IsLoaded headers.phdrs k → k < length image
      → may_change headers.ehdr.class k ≡ false
      → (k < length out) × (slice_index out k ≡ slice_index image k)

-- then OUT holds them after the run
abbrev pub KeepsLoaded : List (List ℕ) → Status → Map → Map → Type 0
KeepsLoaded words status old new =
    (is : StripsFile words status old) → HoldsLoaded is.image is.headers (new is.options.out)

abbrev pub RunKeepsLoaded : Type 0
RunKeepsLoaded =
    (words : List (List ℕ)) (status : Status) (run : Around) → Ran words status run
    → KeepsLoaded words status run.named_old run.named_new

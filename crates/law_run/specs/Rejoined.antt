-- What a run of strip -f splits, a run of unstrip joins again (eu-strip(1) with -f, eu-unstrip(1)).
use Rattle.std.specs.Prelude.{◌≡◌, ℕ, List, Option, Some, Ok}
use Rattle.elf_types.specs.Lists.{AreBytes}
use Rattle.elf_outside.specs.Names.{Map}
use Rattle.elf_ident.specs.Front.{zero_shdr}
use Rattle.elf_object.specs.Object.{Object}
use Rattle.elf_object.specs.Open.{opened}
use Rattle.elf_object.specs.Sections.{header_at}
use Rattle.rebuild_model.specs.KeepingLaws.{SameButPlaces}
use Rattle.law_split.specs.Getters.{SameAnswers}
use Rattle.tool_output.specs.declared.statuses.Status.{Status}
use Rattle.tool_output.specs.declared.statuses.Status.TheVariants.{Done, Refused}
use Rattle.tool_output.specs.Marks.{Gained}
use Rattle.elfkit_run.specs.elfkit_words.declared.commands.Command.TheVariants.{Strip, Unstrip}
use Rattle.elfkit_run.specs.elfkit_words.declared.commands.Request.TheVariants.{Run}
use Rattle.elfkit_outcomes.specs.declared.options.StripOptions.{StripOptions}
use Rattle.elfkit_run.specs.elfkit_words.Reading.{request_of_words}
use Rattle.law_split.specs.Files.SplitFiles.{too_large_outcome}
use Rattle.law_run.specs.Runs.{Around, Ran}

-- The words of the first run ask for strip -f, and those of the second one for unstrip of the two
-- files that it makes. FILE holds an image whose section 0 is all zero but for size, link and info,
-- and the first run ends with Done.
pub record SplitsAndJoins (split join : List (List ℕ)) (first : Status) (old : Map) : Type 0 where
  pub options : StripOptions
  pub file : List ℕ
  pub asked : request_of_words split ≡ Ok (Run (Strip options file))
  pub debug : List ℕ
  pub has_debug : options.debug ≡ Some debug
  pub out : List ℕ
  pub asked_back : request_of_words join ≡ Ok (Run (Unstrip out options.out debug))
  pub done : first ≡ Done
  pub image : List ℕ
  pub held : old file ≡ Some image
  pub bytes : AreBytes image
  pub whole : Object
  pub is_whole : opened image ≡ Ok whole
  pub zeroth : record (header_at whole 0) { size = 0; link = 0; info = 0 } ≡ zero_shdr

-- a name holds an image that is the same as the first one but for places and derived values, and
-- answers each getter as that did
pub record HoldsRejoined (whole : Object) (held : Option (List ℕ)) : Type 0 where
  pub bytes : List ℕ
  pub is_held : held ≡ Some bytes
  pub object : Object
  pub opens : opened bytes ≡ Ok object
  pub same : SameButPlaces whole object
  pub answers : SameAnswers whole object

-- between the runs the two files stay; others may change
pub record BothStay (stripped debug : List ℕ) (after before : Map) : Type 0 where
  pub stripped_stays : before stripped ≡ after stripped
  pub debug_stays : before debug ≡ after debug

-- Where the second run ends with Done, OUT holds it. Where that ends with Refused, it wrote the
-- message that a place is too large, and nothing else.
pub record EndsRejoined (whole : Object) (out stripped : List ℕ) (second : Status) (run : Around)
    : Type 0 where
  pub joined : second ≡ Done → HoldsRejoined whole (run.named_new out)
  pub refused : second ≡ Refused
      → Gained run.out_old run.out_new run.err_old run.err_new (too_large_outcome stripped).marks

abbrev pub RunsRejoin : Type 0
RunsRejoin =
    (split join : List (List ℕ)) (first second : Status) (one other : Around)
    → Ran split first one → Ran join second other
    → (is : SplitsAndJoins split join first one.named_old)
    → BothStay is.options.out is.debug one.named_new other.named_old
    → EndsRejoined is.whole is.out is.options.out second other

-- over the files before the first run and after the second one
abbrev pub SplitRejoins : List (List ℕ) → List (List ℕ) → Status × Status → Map → Map → Type 0
SplitRejoins split join statuses old new =
    (is : SplitsAndJoins split join statuses.0 old) → statuses.1 ≡ Done
    → HoldsRejoined is.whole (new is.out)

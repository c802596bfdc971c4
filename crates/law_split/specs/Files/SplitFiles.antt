-- What unstrip makes of the two files that strip -f writes (eu-strip(1) with -f, eu-unstrip(1)).
use Rattle.std.specs.Prelude.{◌≡◌, ◌≢◌, ◌⊎◌, ℕ, List, Option, Some, Ok, Err, codes}
use Rattle.elf_types.specs.Lists.{AreBytes}
use Rattle.elf_types.specs.Text.{error_text}
use Rattle.elf_types.specs.declared.errors.ElfError.TheVariants.{TooLarge}
use Rattle.elf_outside.specs.Names.{Map}
use Rattle.elf_ident.specs.Front.{zero_shdr}
use Rattle.elf_object.specs.Object.{Object}
use Rattle.elf_object.specs.Open.{opened}
use Rattle.elf_object.specs.Sections.{header_at}
use Rattle.rebuild_model.specs.KeepingLaws.{SameButPlaces}
use Rattle.law_split.specs.Getters.{SameAnswers}
use Rattle.elfkit_outcomes.specs.declared.options.StripOptions.{StripOptions}
use Rattle.tool_output.specs.Outcomes.{Outcome, write_of, held_after}
use Rattle.tool_output.specs.Made.{made_file_alone, complaint, written_outcome}
use Rattle.elfkit_outcomes.specs.Strip.{strip_outcome, unstrip_outcome}

-- what a name holds after strip, in a set of files that held something before it
abbrev pub held_after_strip : StripOptions → Map → List ℕ → List ℕ → Option (List ℕ)
held_after_strip options named file name =
    held_after (write_of (strip_outcome options named file).writes name) (named name)

-- FILE holds an image whose section 0 is all zero but for size, link and info, and strip -f of it
-- ends with 0. Later two names, which may be others, hold what it wrote: the stripped file, and the
-- debug file.
pub record WasSplit (options : StripOptions) (named : Map) (file image : List ℕ) (whole : Object)
    (later : Map) (stripped debug : List ℕ) : Type 0 where
  pub held : named file ≡ Some image
  pub bytes : AreBytes image
  pub is_whole : opened image ≡ Ok whole
  pub first : record (header_at whole 0) { size = 0; link = 0; info = 0 } ≡ zero_shdr
  pub debug_out : List ℕ
  pub asked : options.debug ≡ Some debug_out
  pub apart : options.out ≢ debug_out
  pub ended : (strip_outcome options named file).status ≡ 0
  pub stripped_held : later stripped ≡ held_after_strip options named file options.out
  pub debug_held : later debug ≡ held_after_strip options named file debug_out

-- unstrip says that a place is too large, and makes nothing
abbrev pub too_large_outcome : List ℕ → Outcome
too_large_outcome stripped =
    written_outcome (codes "unstrip") (Err (complaint stripped (error_text TooLarge)))

-- it makes OUT, which is an image that is the same as the first one but for places and derived
-- values, and answers each getter as that did
pub record Rejoins (whole : Object) (out : List ℕ) (outcome : Outcome) : Type 0 where
  pub bytes : List ℕ
  pub is : outcome ≡ written_outcome (codes "unstrip") (Ok (made_file_alone out bytes))
  pub object : Object
  pub opens : opened bytes ≡ Ok object
  pub same : SameButPlaces whole object
  pub answers : SameAnswers whole object

abbrev pub SplitFilesRejoin : Type 0
SplitFilesRejoin =
    (options : StripOptions) (named : Map) (file image : List ℕ) (whole : Object)
    (later : Map) (out stripped debug : List ℕ)
    → WasSplit options named file image whole later stripped debug
    → (unstrip_outcome later out stripped debug ≡ too_large_outcome stripped)
    ⊎ Rejoins whole out (unstrip_outcome later out stripped debug)

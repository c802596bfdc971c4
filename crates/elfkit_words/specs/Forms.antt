-- What holds of every request that is read.
use Rattle.std.specs.Prelude.{◌≡◌, ◌≢◌, ◌≤◌, List, ℕ, false, IfSome}
use Rattle.elfkit_words.specs.declared.commands.Command.{Command}
use Rattle.elfkit_words.specs.declared.commands.Command.TheVariants.{Readelf, Nm, Size, Strings, Strip, Elflint, Calls, Selftest, Rehash, Copy, Unstrip, Lines}
use Rattle.calls_tool.specs.Update.Outputs.{IsOutputApart}
use Rattle.rebuild_changes.specs.declared.options.CopyChanges.{CopyChanges}
use Rattle.rebuild_changes.specs.Names.{HasNames}
use Rattle.elfkit_words.specs.declared.commands.Request.{Request}
use Rattle.elfkit_words.specs.declared.commands.Request.TheVariants.{Run, Tell}
use Rattle.elfkit_words.specs.Reading.{is_file_of}

-- no two of three words are the same
pub record ThreeDiffer (first second third : List ℕ) : Type 0 where
  pub second_differs : first ≢ second
  pub third_differs : first ≢ third
  pub last_two_differ : second ≢ third

-- the output of copy is neither its file nor a file of its changes
pub record IsCopyApart (changes : CopyChanges) (out file : List ℕ) : Type 0 where
  pub file_differs : out ≢ file
  pub update_differs : is_file_of out changes.update ≡ false
  pub add_differs : is_file_of out changes.add ≡ false

abbrev pub IsWellFormed : Command → Type 0
IsWellFormed (Strings options files) = (1 ≤ options.least) × (options.least ≤ 4096)
IsWellFormed (Strip options file) =
    (options.out ≢ file) × IfSome options.debug (λ debug. ThreeDiffer options.out file debug)
IsWellFormed (Calls output file script) = IsOutputApart output file script
IsWellFormed (Selftest out count) = (1 ≤ count) × (count ≤ 60000)
IsWellFormed (Rehash out file) = out ≢ file
IsWellFormed (Copy changes out file) = HasNames changes × IsCopyApart changes out file
IsWellFormed (Unstrip out stripped debug) = ThreeDiffer out stripped debug
IsWellFormed (Readelf parts files) = Unit {0}
IsWellFormed (Nm options files) = Unit {0}
IsWellFormed (Size files) = Unit {0}
IsWellFormed (Elflint files) = Unit {0}
IsWellFormed (Lines files) = Unit {0}

-- the command of a request is well formed
abbrev pub IsGoodRequest : Request → Type 0
IsGoodRequest (Run command) = IsWellFormed command
IsGoodRequest (Tell notice) = Unit {0}

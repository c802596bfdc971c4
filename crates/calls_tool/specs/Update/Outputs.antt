-- Where the image of `calls` may go.
use Rattle.std.specs.Prelude.{◌≢◌, List, ℕ, Option, Some, None}
use Rattle.calls_tool.specs.declared.update.outputs.CallsOutput.{CallsOutput}
use Rattle.calls_tool.specs.declared.update.outputs.CallsOutput.TheVariants.{To, InPlace}

-- the output of calls is neither its file nor its script
abbrev pub IsOutputApart : Option CallsOutput → List ℕ → List ℕ → Type 0
IsOutputApart (Some (To out)) file script = (out ≢ file) × (out ≢ script)
IsOutputApart (Some InPlace) file script = Unit {0}
IsOutputApart None file script = Unit {0}

-- What a step of elflint over a descriptor and the two outputs does.
use Rattle.std.specs.Prelude.{ℕ, Bool, Result}
use Rattle.tool_objects.specs.elf_outside.declared.sources.Source.{Ghosts as SourceGhosts}
use Rattle.tool_objects.specs.elf_outside.declared.sinks.Sink.{Ghosts as SinkGhosts}
use Rattle.tool_objects.specs.elf_descriptor.State.{State}
use Rattle.tool_objects.specs.tool_output.declared.stops.Stop.{Stop}
use Rattle.tool_objects.specs.tool_output.declared.outputs.Outputs.{Outputs}
use Rattle.tool_objects.specs.tool_output.Names.{Name}
use Rattle.tool_objects.specs.Steps.{ReportsOver}
use Rattle.elf_lint_findings.specs.Findings.{Rule, findings_shown}

-- it says what a rule finds in the object, and leaves the object, by so many passes over its
-- sections; the answer tells whether the rule finds something
abbrev pub FindsOver : {S O E : Type 0} → SourceGhosts S → SinkGhosts O → SinkGhosts E → ℕ → Rule
    → Name → Result Bool Stop → State S → State S → Outputs O E → Outputs O E → Type 0
FindsOver s o e passes finds name result old new outputs_old outputs_new =
    ReportsOver s o e passes (λ m. findings_shown name (finds m)) result old new outputs_old
    outputs_new

-- the same by a rule that does not go over the sections
abbrev pub FindsElf : {S O E : Type 0} → SourceGhosts S → SinkGhosts O → SinkGhosts E → Rule → Name
    → Result Bool Stop → State S → State S → Outputs O E → Outputs O E → Type 0
FindsElf s o e finds name result old new outputs_old outputs_new =
    FindsOver s o e 0 finds name result old new outputs_old outputs_new

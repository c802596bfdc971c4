-- Steps over a source and the outputs, by what a call on the source answered.
use Rattle.std.proofs.Common.{◌≡◌, ℕ, Bool, List, Option, Some, None, Result, Ok, Err, IfSome, IfNone, refl, sym, subst}
use Rattle.elf_types.specs.declared.errors.ElfError.{ElfError}
use Rattle.elf_types.specs.declared.errors.ElfError.TheVariants as error
use Rattle.elf_types.specs.Answers.{Follows}
use Rattle.elf_outside.specs.Asks.{Asks, ReadRose}
use Rattle.elf_outside.specs.Counts.{Rose}
use Rattle.elf_outside.specs.declared.sources.Source.{Ghosts as SourceGhosts}
use Rattle.elf_outside.specs.declared.sinks.Sink.{Ghosts as SinkGhosts}
use Rattle.tool_output.specs.declared.stops.Stop.{Stop}
use Rattle.tool_output.specs.declared.stops.Stop.TheVariants.{Read, Write, Memory}
use Rattle.tool_output.specs.declared.outputs.Outputs.{Outputs}
use Rattle.tool_output.specs.Stops.{stop_of}
use Rattle.tool_output.specs.Reports.{Report, Reports}
use Rattle.tool_output.specs.Steps.{LeavesOutputs}
use Rattle.tool_output.specs.Sources.{ReportsOn}
use Rattle.tool_output.proofs.StepLemmas.{keeps_none}
use Rattle.tool_output.proofs.ReportLemmas.{reports_nothing}

-- an error that stops nothing is the stated one
pub stated_error : {T : Type 0} (d : ElfError) (stated : Result T ElfError) → Follows (Err d) stated → stop_of d ≡ None → stated ≡ Err d
stated_error error.Memory stated h none = cc
stated_error error.Read stated h none = cc
stated_error error.Write stated h none = cc
stated_error d stated h none = h

module _ {O E : Type 0} (o : SinkGhosts O) (e : SinkGhosts E) where
  -- a step that reads nothing leaves as much where something is read
  pub reads_weaker : (P : Type 0) (r : Result Bool Stop) (s t : Outputs O E) → LeavesOutputs o e ⊥ r s t → LeavesOutputs o e P r s t
  reads_weaker P (Ok x) s t h = record { keeps = h.keeps; read = tt; write = tt }
  reads_weaker P (Err Read) s t h = absurd h.read
  reads_weaker P (Err Write) s t h = record { keeps = h.keeps; read = tt; write = h.write }
  reads_weaker P (Err Memory) s t h = record { keeps = h.keeps; read = tt; write = tt }

  abbrev pub Stops : Result Bool Stop → Outputs O E → Outputs O E → ElfError → Type 0
  Stops r s t d = IfSome (stop_of d) (λ stop. (r ≡ Err stop) × (t ≡ s))

  pub refused_reports : (T : Type 0) (d : ElfError) (r : Result Bool Stop) (s t : Outputs O E) (before now : ℕ) (a b : Report) → ReadRose {T = T} (Err d) before now
      → (stop_of d ≡ None → a ≡ b) → IfNone (stop_of d) (Reports o e r s t b) → Stops r s t d → Reports o e r s t a
  refused_reports T error.Memory r s t before now a b rose same k stops = rw (stops.0, stops.1) (reports_nothing o e s Memory a)
  refused_reports T error.Read r s t before now a b rose same k stops = rw (stops.0, stops.1) (reports_nothing o e s Read a)
  refused_reports T error.Write r s t before now a b never same k stops = absurd never
  refused_reports T d r s t before now a b rose same k stops = subst (λ (x : Report). Reports o e r s t x) (sym (same refl)) k

  pub refused_leaves : (T : Type 0) (d : ElfError) (r : Result Bool Stop) (s t : Outputs O E) (before now : ℕ) → ReadRose {T = T} (Err d) before now
      → IfNone (stop_of d) (LeavesOutputs o e ⊥ r s t) → Stops r s t d → LeavesOutputs o e (Rose before now) r s t
  refused_leaves T error.Memory r s t before now rose k stops = rw (stops.0, stops.1) (record { keeps = keeps_none o e s; read = tt; write = tt })
  refused_leaves T error.Read r s t before now rose k stops = rw (stops.0, stops.1) (record { keeps = keeps_none o e s; read = rose; write = tt })
  refused_leaves T error.Write r s t before now never k stops = absurd never
  refused_leaves T d r s t before now rose k stops = reads_weaker (Rose before now) r s t k

  module _ {S T : Type 0} (g : SourceGhosts S) (report : List ℕ → Report) (r : Result Bool Stop) (n : ℕ) (a b : S) (s t : Outputs O E) where
    -- the call was done, and what it answered is reported
    pub reports_after : (x : T) → Asks {T = T} g (Ok x) a b n → IfSome (g.holds a) (λ image. Reports o e r s t (report image))
        → LeavesOutputs o e ⊥ r s t → ReportsOn g o e report r a b s t
    reports_after x asks h k = record {
      reports = h;
      source = asks.leaves;
      later = asks.later;
      leaves = reads_weaker (Rose (g.faults a) (g.faults b)) r s t k;
    }

    -- the call answered an error, which refuses the file or stops the step
    pub refuses_after : (d : ElfError) (refused : Report) → Asks {T = T} g (Err d) a b n
        → IfSome (g.holds a) (λ image. stop_of d ≡ None → report image ≡ refused)
        → IfNone (stop_of d) (Reports o e r s t refused) → Stops r s t d → IfNone (stop_of d) (LeavesOutputs o e ⊥ r s t)
        → ReportsOn g o e report r a b s t
    refuses_after d refused asks same h stops k = record {
      reports = on_image (g.holds a) same;
      source = asks.leaves;
      later = asks.later;
      leaves = refused_leaves T d r s t (g.faults a) (g.faults b) asks.read k stops;
    }
      where
        on_image : (holds : Option (List ℕ)) → IfSome holds (λ image. stop_of d ≡ None → report image ≡ refused)
            → IfSome holds (λ image. Reports o e r s t (report image))
        on_image None same = tt
        on_image (Some image) same = refused_reports T d r s t (g.faults a) (g.faults b) (report image) refused asks.read same h stops

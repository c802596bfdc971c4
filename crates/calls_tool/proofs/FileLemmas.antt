-- The calls of a script on what a file holds.
use Rattle.std.proofs.Common.{◌≡◌, ℕ, ◌+◌, ◌≤◌, Bool, false, List, [], Option, Some, None, Result, Ok, Err, IfSome, codes, refl, arith}
use Rattle.std.specs.Prelude.{is_some}
use Rattle.elf_types.specs.declared.errors.ElfError.{ElfError}
use Rattle.elf_types.specs.Answers.{Follows}
use Rattle.elf_types.specs.Text.{error_text}
use Rattle.elf_outside.specs.Asks.{Asks}
use Rattle.elf_outside.specs.declared.sources.Source.{Ghosts as SourceGhosts}
use Rattle.elf_outside.specs.declared.sinks.Sink.{Ghosts as SinkGhosts}
use Rattle.symbol_lookup.specs.elf_ident.Front.{front_bytes}
use Rattle.symbol_lookup.specs.elf_object.Object.{Object}
use Rattle.symbol_lookup.specs.elf_object.Due.{is_loaded, homes_due}
use Rattle.symbol_lookup.specs.elf_descriptor.State.{State}
use Rattle.symbol_lookup.proofs.elf_descriptor.ReadsLaws.{dues_stay}
use Rattle.tool_output.specs.declared.stops.Stop.{Stop}
use Rattle.tool_output.specs.declared.outputs.Outputs.{Outputs}
use Rattle.tool_output.specs.Stops.{stop_of}
use Rattle.tool_output.specs.Names.{Name}
use Rattle.tool_output.specs.Reports.{Reports, refusal_report}
use Rattle.tool_output.specs.Sources.{ReportsOn}
use Rattle.tool_output.proofs.SourceLemmas.{stated_error, refuses_after}
use Rattle.tool_objects.specs.Images.{file_object}
use Rattle.tool_objects.specs.Refusals.{ReportsRefusal}
use Rattle.tool_objects.proofs.SourceSteps.{leaves_then, rose_from_first}
use Rattle.elf_calls_script.specs.declared.calls.Call.{Call}
use Rattle.calls_tool.specs.Reads.{read_by, homes_read}
use Rattle.calls_tool.specs.Runs.{stated_calls, RunsCalls}
use Rattle.calls_tool.specs.Files.{calls_file_report, calls_asks}

none_loaded : (i : ℕ) → is_loaded [] i ≡ false
unfolding is_loaded
none_loaded i = refl

-- no more is due than where nothing is loaded
due_at_first : (o : Object) (loaded : List Bool) (l : List ℕ) → homes_due o loaded l ≤ homes_due o [] l
due_at_first o loaded l = dues_stay o [] loaded l (λ i is. let none = none_loaded i in cc)

module _ {S O E : Type 0} (s : SourceGhosts S) (o : SinkGhosts O) (e : SinkGhosts E) (cs : List Call) (name : Name) where
  module _ (r : Result Bool Stop) (src : S) (a b : State S) (t u : Outputs O E) (n : ℕ) (asks : Asks {T = Object} s (Ok a.o) src a.source n)
      (stated : IfSome (s.holds src) (λ image. Follows (Ok a.o) (file_object image))) (told : a.told ≡ is_some (s.holds src)) (h : RunsCalls s o e cs r a b t u) where
    -- the calls were run on the image
    pub calls_shown : ReportsOn s o e (calls_file_report cs name) r src b.source t u
    unfolding calls_file_report
    calls_shown = record {
      reports = on_image (s.holds src) stated told;
      source = leaves_then s src a.source b.source asks.leaves h.state.source;
      later = omega (arith, asks.later, h.state.later);
      leaves = rose_from_first o e r (s.faults src) (s.faults a.source) (s.faults b.source) t u asks.later h.leaves;
    }
      where
        on_image : (held : Option (List ℕ)) → IfSome held (λ image. Follows (Ok a.o) (file_object image)) → a.told ≡ is_some held
            → IfSome held (λ image. Reports o e r t u (calls_file_report cs name image))
        on_image None is tells = tt
        on_image (Some image) is tells = rw is (h.lines tells)

    pub calls_asked : IfSome (s.holds src) (λ image. s.taken a.source ≤ s.taken src + (8 + front_bytes image))
        → IfSome (s.holds src) (λ image. s.taken b.source ≤ s.taken src + calls_asks cs image)
    unfolding calls_asks homes_read
    calls_asked bound = on_image (s.holds src) stated told bound
      where
        on_image : (held : Option (List ℕ)) → IfSome held (λ image. Follows (Ok a.o) (file_object image)) → a.told ≡ is_some held
            → IfSome held (λ image. s.taken a.source ≤ s.taken src + (8 + front_bytes image)) → IfSome held (λ image. s.taken b.source ≤ s.taken src + calls_asks cs image)
        on_image None is tells begun = tt
        on_image (Some image) is tells begun =
            let reads = (h.reads tells).bound in
            let first = due_at_first a.o a.loaded (read_by (stated_calls cs) a.o) in
            rw is (omega (arith, begun, reads, first))

  -- what is no image is refused
  pub calls_refused : (r : Result Bool Stop) (src after : S) (t u : Outputs O E) (n : ℕ) (d : ElfError) → Asks {T = Object} s (Err d) src after n
      → IfSome (s.holds src) (λ image. Follows {T = Object} (Err d) (file_object image)) → ReportsRefusal o e (codes "calls") name d r t u
      → ReportsOn s o e (calls_file_report cs name) r src after t u
  unfolding calls_file_report
  calls_refused r src after t u n d asks stated refused =
      refuses_after o e s (calls_file_report cs name) r n src after t u d (refusal_report (codes "calls") name (error_text d)) asks (on_image (s.holds src) stated)
      refused.reports refused.stops refused.leaves
    where
      on_image : (held : Option (List ℕ)) → IfSome held (λ image. Follows {T = Object} (Err d) (file_object image))
          → IfSome held (λ image. stop_of d ≡ None → calls_file_report cs name image ≡ refusal_report (codes "calls") name (error_text d))
      on_image None is = tt
      on_image (Some image) is = λ none. rw (stated_error d (file_object image) is none) refl

  pub front_asked : (held : Option (List ℕ)) (before after : ℕ) → IfSome held (λ image. after ≤ before + (8 + front_bytes image))
      → IfSome held (λ image. after ≤ before + calls_asks cs image)
  unfolding calls_asks
  front_asked None before after bound = tt
  front_asked (Some image) before after bound = omega (arith, bound)

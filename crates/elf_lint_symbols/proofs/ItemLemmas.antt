-- What is found at the items of a section, one after another.
use Rattle.std.proofs.Common.{◌≡◌, ◌||◌, ◌+◌, ℕ, Bool, List, drop, Some, Ok, Err, IsTrue, refl, sym, subst}
use Rattle.std.specs.Prelude.{slice_get}
use Rattle.std.specs.List.{flat_map, enumerate_from}
use Rattle.std.proofs.lemmas.Option.{get_or_from_slice_get, slice_get_within}
use Rattle.elf_outside.specs.declared.sources.Source.{Ghosts as SourceGhosts}
use Rattle.elf_outside.specs.declared.sinks.Sink.{Ghosts as SinkGhosts}
use Rattle.tool_objects.specs.elf_object.Object.{Object}
use Rattle.tool_objects.specs.elf_descriptor.State.{State}
use Rattle.tool_output.specs.declared.stops.Stop.{Stop}
use Rattle.tool_output.specs.declared.outputs.Outputs.{Outputs}
use Rattle.tool_output.specs.Names.{Name}
use Rattle.tool_output.specs.Reports.{Report, no_report, joined_reports}
use Rattle.tool_output.proofs.ReportLemmas.{joined_no_report}
use Rattle.tool_objects.specs.Steps.{LeavesElf, ReadsElf, ReportsElf, ElfUnderWay}
use Rattle.tool_objects.proofs.ElfSteps.{elf_after, elf_unread, elf_goes_on, elf_stops_at, still_told}
use Rattle.elf_lint_findings.specs.Findings.{Finding, findings_shown}
use Rattle.elf_lint_findings.proofs.FindingLemmas.{rows_left}

module _ {S O E X : Type 0} {s : SourceGhosts S} {o : SinkGhosts O} {e : SinkGhosts E} {y : Bool} {a b : State S} {t u : Outputs O E} {whole : Object → Report}
    (name : Name) (f : Object → (ℕ × X) → List Finding) (items : Object → List X) (i : ℕ)
    (h : ElfUnderWay s o e y a b t u whole (λ m. findings_shown name (flat_map (f m) (drop i (enumerate_from 0 (items m)))))) where
  abbrev left : ℕ → Object → Report
  left n m = findings_shown name (flat_map (f m) (drop n (enumerate_from 0 (items m))))

  -- the next item is not told
  pub item_unread : (T : Type 0) (c : State S) (stop : Stop) → ReadsElf {T = T} s (Err stop) b c → ReportsElf s o e whole (Err stop) a c t u
  item_unread T c stop k =
      elf_stops_at h (left i) (λ m. no_report) (λ told. sym (joined_no_report (left i a.o))) (elf_unread s o e T stop (left i) b c u k)

  module _ (x : X) (c : State S) (read : LeavesElf s b c) (there : IsTrue b.told → slice_get (items b.o) i ≡ Some x) where
    next_is : IsTrue a.told → left i a.o ≡ joined_reports (findings_shown name (f a.o (i, x))) (left (i + 1) a.o)
    next_is told =
        let there_is : slice_get (items a.o) i ≡ Some x = subst (λ (m : Object). slice_get (items m) i ≡ Some x) h.elf.object (there (still_told s a b h.elf told)) in
        rows_left name (f a.o) (items a.o) i x (slice_get_within (items a.o) i x there_is) (sym (get_or_from_slice_get (items a.o) i x x there_is))

    abbrev here : Object → Report
    here m = findings_shown name (f m (i, x))

    -- what is found at it is said
    pub item_found : {d : State S} {v : Outputs O E} {z w : Bool} → ReportsElf s o e (λ m. findings_shown name (f m (i, x))) (Ok z) c d u v → w ≡ (y || z)
        → ElfUnderWay s o e w a d t v whole (left (i + 1))
    item_found {d} {v} {z} {w} k or =
        elf_goes_on h here (left (i + 1)) next_is (elf_after s o e here here (Ok z) b c d u v read k (λ told. refl)) or

    -- or the step stops there
    pub item_stopped : {d : State S} {v : Outputs O E} {stop : Stop} → ReportsElf s o e (λ m. findings_shown name (f m (i, x))) (Err stop) c d u v
        → ReportsElf s o e whole (Err stop) a d t v
    item_stopped {d} {v} {stop} k =
        elf_stops_at h here (left (i + 1)) next_is (elf_after s o e here here (Err stop) b c d u v read k (λ told. refl))

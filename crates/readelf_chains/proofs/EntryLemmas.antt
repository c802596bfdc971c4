-- What is left of the entries of a version section.
use Rattle.std.proofs.Common.{◌≡◌, ℕ, Bool, true, false, Option, Some, None, Result, Ok, Err, refl, sym, ap, ◌∙◌, subst}
use Rattle.std.specs.Prelude.{if◌then◌else◌, IsTrue}
use Rattle.elf_outside.specs.declared.sources.Source.{Ghosts as SourceGhosts}
use Rattle.elf_outside.specs.declared.sinks.Sink.{Ghosts as SinkGhosts}
use Rattle.elf_object.specs.Object.{Object}
use Rattle.tool_objects.specs.elf_descriptor.State.{State}
use Rattle.tool_output.specs.declared.stops.Stop.{Stop}
use Rattle.tool_output.specs.declared.outputs.Outputs.{Outputs}
use Rattle.tool_objects.specs.Steps.{LeavesElf, ReportsElf, ElfUnderWay}
use Rattle.tool_objects.proofs.ElfSteps.{elf_goes_on, elf_stops_at, elf_after}
use Rattle.readelf_chains.proofs.ChainLemmas.{at_start, elf_ends_with}
use Rattle.elf_types.specs.declared.errors.ElfError.{ElfError}
use Rattle.elf_types.specs.Text.{error_text}
use Rattle.tool_objects.specs.gelf_view.Chains.{Chain, ended, broken, leading, entry_then, next_place}
use Rattle.tool_output.specs.Names.{Name}
use Rattle.tool_output.specs.Messages.{section_message}
use Rattle.tool_output.specs.Reports.{Report, no_report, joined_reports}
use Rattle.tool_output.proofs.ReportLemmas.{joined_no_report}
use Rattle.readelf_rows.specs.Data.{readelf_refusal}
use Rattle.readelf_chains.specs.Entries.{up_to_refusal, entries_report}

module _ {A : Type 0} (name : Name) (s : ℕ) (of : (ℕ × A) → Report) where
  abbrev pub after : Bool → Report → Report
  after stops rest = if stops then no_report else rest

  pub entry_first : (x : ℕ × A) (rest chain : Chain (ℕ × A)) → chain ≡ leading x rest
      → entries_report name s of chain ≡ joined_reports (of x) (after (of x).refused (entries_report name s of rest))
  unfolding entries_report up_to_refusal
  entry_first x rest chain is = ap (entries_report name s of) is

  -- an entry whose names go bad is the last
  pub entry_stops : (x : ℕ × A) (rest chain : Chain (ℕ × A)) → chain ≡ leading x rest → true ≡ (of x).refused → entries_report name s of chain ≡ of x
  entry_stops x rest chain is stops =
      entry_first x rest chain is ∙ ap (λ (t : Bool). joined_reports (of x) (after t (entries_report name s of rest))) (sym stops) ∙ joined_no_report (of x)

  -- and behind any other the next one comes
  pub entry_passes : (x : ℕ × A) (rest chain : Chain (ℕ × A)) → chain ≡ leading x rest → false ≡ (of x).refused
      → entries_report name s of chain ≡ joined_reports (of x) (entries_report name s of rest)
  entry_passes x rest chain is passes =
      entry_first x rest chain is ∙ ap (λ (t : Bool). joined_reports (of x) (after t (entries_report name s of rest))) (sym passes)

  pub entries_ended : (chain : Chain (ℕ × A)) → chain ≡ ended → entries_report name s of chain ≡ no_report
  unfolding entries_report up_to_refusal
  entries_ended chain is = ap (entries_report name s of) is

  pub entries_broken : (e : ElfError) (chain : Chain (ℕ × A)) → chain ≡ broken e → entries_report name s of chain ≡ readelf_refusal name (section_message s (error_text e))
  unfolding entries_report up_to_refusal
  entries_broken e chain is = ap (entries_report name s of) is

  -- the chain behind an entry
  abbrev pub behind : (ℕ → Chain (ℕ × A)) → Option ℕ → Chain (ℕ × A)
  behind from next = elim next [ None ↦ ended | Some place ↦ from place ]

  module _ (at n : ℕ) (x : A) (from : ℕ → Chain (ℕ × A)) (chain : Chain (ℕ × A)) (is : chain ≡ entry_then at x n from) where
    pub then_stops : true ≡ (of (at, x)).refused → entries_report name s of chain ≡ of (at, x)
    then_stops stops = entry_stops (at, x) (behind from (next_place at n)) chain is stops

    pub then_last : false ≡ (of (at, x)).refused → None ≡ next_place at n → entries_report name s of chain ≡ of (at, x)
    then_last passes last =
        entry_passes (at, x) (behind from (next_place at n)) chain is passes
        ∙ ap (joined_reports (of (at, x))) (entries_ended (behind from (next_place at n)) (ap (behind from) (sym last)))
        ∙ joined_no_report (of (at, x))

    pub then_next : (place : ℕ) → false ≡ (of (at, x)).refused → Some place ≡ next_place at n
        → entries_report name s of chain ≡ joined_reports (of (at, x)) (entries_report name s of (from place))
    then_next place passes next =
        entry_passes (at, x) (behind from (next_place at n)) chain is passes
        ∙ ap (λ (p : Option ℕ). joined_reports (of (at, x)) (entries_report name s of (behind from p))) (sym next)

-- ---- Steps over the entries

module _ {S O E A : Type 0} {s : SourceGhosts S} {o : SinkGhosts O} {e : SinkGhosts E} {a b : State S} {t u : Outputs O E} {whole : Object → Report}
    (name : Name) (sec : ℕ) (of : Object → (ℕ × A) → Report) (from : Object → ℕ → Chain (ℕ × A)) (at n : ℕ) (x : A)
    (h : ElfUnderWay s o e false a b t u whole (λ m. entries_report name sec (of m) (from m at))) (c : State S) (read : LeavesElf s b c)
    (chain : IsTrue b.told → from b.o at ≡ entry_then at x n (from b.o)) where
  begun : {d : State S} {v : Outputs O E} (r q : Result Bool Stop) → r ≡ q → ReportsElf s o e (λ m. of m (at, x)) r c d u v → ReportsElf s o e (λ m. of m (at, x)) q b d u v
  begun {d} {v} r q is k =
      subst (λ (r : Result Bool Stop). ReportsElf s o e (λ m. of m (at, x)) r b d u v) is
      (elf_after s o e (λ m. of m (at, x)) (λ m. of m (at, x)) r b c d u v read k (λ told. refl))

  -- an entry stops the step
  pub entry_stopped : {d : State S} {v : Outputs O E} {stop : Stop} → ReportsElf s o e (λ m. of m (at, x)) (Err stop) c d u v → ReportsElf s o e whole (Err stop) a d t v
  entry_stopped {d} {v} {stop} k =
      elf_stops_at h (λ m. of m (at, x)) (λ m. after name sec (of m) (of m (at, x)).refused (entries_report name sec (of m) (behind name sec (of m) (from m) (next_place at n))))
      (at_start h (λ (m : Object). entries_report name sec (of m) (from m at) ≡ joined_reports (of m (at, x)) (after name sec (of m) (of m (at, x)).refused (entries_report name sec (of m) (behind name sec (of m) (from m) (next_place at n)))))
      (λ told. entry_first name sec (of b.o) (at, x) (behind name sec (of b.o) (from b.o) (next_place at n)) (from b.o at) (chain told)))
      (begun (Err stop) (Err stop) refl k)

  module _ {d : State S} {v : Outputs O E} (r : Result Bool Stop) (k : ReportsElf s o e (λ m. of m (at, x)) r c d u v) where
    -- its names go bad
    pub entry_ends : r ≡ Ok true → ReportsElf s o e whole (Ok true) a d t v
    entry_ends is =
        let made = begun r (Ok true) is k in
        elf_ends_with h (Ok true) (λ m. of m (at, x)) (λ told. then_stops name sec (of b.o) at n x (from b.o) (from b.o at) (chain told) (made.reports told).value_is) made

    -- it is the last
    pub entry_last : r ≡ Ok false → None ≡ next_place at n → ReportsElf s o e whole (Ok false) a d t v
    entry_last is last =
        let made = begun r (Ok false) is k in
        elf_ends_with h (Ok false) (λ m. of m (at, x)) (λ told. then_last name sec (of b.o) at n x (from b.o) (from b.o at) (chain told) (made.reports told).value_is last) made

    -- another stands behind it
    pub entry_goes : (place : ℕ) → r ≡ Ok false → Some place ≡ next_place at n
        → ElfUnderWay s o e false a d t v whole (λ m. entries_report name sec (of m) (from m place))
    entry_goes place is next =
        let made = begun r (Ok false) is k in
        elf_goes_on h (λ m. of m (at, x)) (λ m. entries_report name sec (of m) (from m place))
        (at_start h (λ (m : Object). entries_report name sec (of m) (from m at) ≡ joined_reports (of m (at, x)) (entries_report name sec (of m) (from m place)))
        (λ told. then_next name sec (of b.o) at n x (from b.o) (from b.o at) (chain told) place (made.reports told).value_is next))
        made refl

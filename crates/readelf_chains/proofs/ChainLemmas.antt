-- What is left of a chain, and steps over the records of a section.
use Rattle.std.proofs.Common.{◌≡◌, ℕ, Bool, false, List, length, Option, Some, None, Result, Ok, Err, IsTrue, IsSome, refl, sym, ap, ◌∙◌, subst}
use Rattle.elf_types.specs.declared.records.Kind.TheVariants as kinds
use Rattle.elf_types.specs.declared.errors.ElfError.{ElfError}
use Rattle.elf_types.specs.declared.errors.ElfError.TheVariants as error
use Rattle.elf_types.specs.Answers.{answered, ◌>>=◌}
use Rattle.elf_types.specs.Text.{error_text}
use Rattle.elf_outside.specs.declared.sources.Source.{Ghosts as SourceGhosts}
use Rattle.elf_outside.specs.declared.sinks.Sink.{Ghosts as SinkGhosts}
use Rattle.elf_object.specs.Words.{Wants, Answers, IsLike, AlikeBytes}
use Rattle.elf_object.specs.Object.{Object}
use Rattle.elf_object.specs.Answers.{count_at, lend_refusal}
use Rattle.tool_objects.proofs.gelf_view.PieceBytes.{bytes_count}
use Rattle.tool_objects.specs.elf_descriptor.State.{State}
use Rattle.tool_objects.specs.gelf_view.Calls.{first_version_place, first_entry_answer, bytes_answer}
use Rattle.tool_objects.specs.gelf_view.Chains.{Chain, ended, broken, leading}
use Rattle.tool_output.specs.declared.stops.Stop.{Stop}
use Rattle.tool_output.specs.declared.outputs.Outputs.{Outputs}
use Rattle.tool_output.specs.Names.{Name}
use Rattle.tool_output.specs.Messages.{section_message}
use Rattle.tool_output.specs.Reports.{Report, Reports, no_report, shown_report, joined_reports, all_reports_joined, reports_of}
use Rattle.tool_output.specs.Stops.{stop_of}
use Rattle.tool_output.proofs.StepLemmas.{keeps_then}
use Rattle.tool_output.proofs.ReportLemmas.{joined_assoc, no_report_joined}
use Rattle.tool_output.proofs.UnderWayLemmas.{line_shown, ends_with}
use Rattle.tool_objects.specs.Steps.{ReportsElf, ElfUnderWay}
use Rattle.tool_objects.proofs.ElfSteps.{elf_left_then, still_told}
use Rattle.tool_objects.proofs.SourceSteps.{left_after}
use Rattle.readelf_rows.specs.Data.{readelf_refusal}
use Rattle.readelf_chains.specs.Chains.{bad_report, chain_report, section_bytes}

-- ---- What is left of a chain

module _ {A : Type 0} (name : Name) (s : ℕ) (of : A → Report) where
  pub chain_leading : (x : A) (rest chain : Chain A) → chain ≡ leading x rest → chain_report name s of chain ≡ joined_reports (of x) (chain_report name s of rest)
  unfolding chain_report reports_of all_reports_joined
  chain_leading x rest chain is = ap (chain_report name s of) is ∙ joined_assoc (of x) (reports_of of rest.found) (bad_report name s rest.bad)

  pub chain_ended : (chain : Chain A) → chain ≡ ended → chain_report name s of chain ≡ no_report
  unfolding chain_report reports_of all_reports_joined
  chain_ended chain is = ap (chain_report name s of) is ∙ no_report_joined no_report

  pub chain_broken : (e : ElfError) (chain : Chain A) → chain ≡ broken e → chain_report name s of chain ≡ readelf_refusal name (section_message s (error_text e))
  unfolding chain_report reports_of all_reports_joined
  chain_broken e chain is = ap (chain_report name s of) is ∙ no_report_joined (bad_report name s (Some e))

-- ---- The bytes of a section

module _ (o : Object) (s : ℕ) where
  pub count_of_bytes : lend_refusal o kinds.Bytes s 0 ≡ None → length (section_bytes o s) ≡ count_at o s 0
  count_of_bytes passed = bytes_count o s 0 passed

  pub first_there : (first : Option ℕ) → first_entry_answer o s 0 ≡ Ok first → (lend_refusal o kinds.Bytes s 0 ≡ None) × (first ≡ first_version_place (length (section_bytes o s)))
  unfolding first_entry_answer
  first_there first is = by_refusal (lend_refusal o kinds.Bytes s 0) (section_bytes o s) is
    where
      by_refusal : (r : Option ElfError) (l : List ℕ) → (answered r l >>= λ bytes. Ok (first_version_place (length bytes))) ≡ Ok first → (r ≡ None) × (first ≡ first_version_place (length l))
      by_refusal None l is = (refl, cc)
      by_refusal (Some e) l is = cc

  pub first_refused : (e : ElfError) → first_entry_answer o s 0 ≡ Err e → lend_refusal o kinds.Bytes s 0 ≡ Some e
  unfolding first_entry_answer
  first_refused e is = by_refusal (lend_refusal o kinds.Bytes s 0) (section_bytes o s) is
    where
      by_refusal : (r : Option ElfError) (l : List ℕ) → (answered r l >>= λ bytes. Ok (first_version_place (length bytes))) ≡ Err e → r ≡ Some e
      by_refusal None l is = cc
      by_refusal (Some d) l is = let same : d ≡ e = cc in ap Some same

  -- bytes that can be told are refused by no error but one that stops
  pub bytes_stop : (told : Bool) (wants : Wants) (e : ElfError) → lend_refusal o kinds.Bytes s 0 ≡ None → Answers told wants (Err e) (bytes_answer o s 0) → IsSome (stop_of e)
  bytes_stop told wants error.Memory passed came = refl
  bytes_stop told wants error.Read passed came = refl
  bytes_stop told wants error.Write passed came = refl
  bytes_stop told wants e passed came = absurd (no_err (sym (ap (λ (r : Option ElfError). answered r (section_bytes o s)) passed) ∙ came))
    where
      no_err : Ok (section_bytes o s) ≡ Err e → ⊥
      no_err is = cc

  pub bytes_are : (told : Bool) (wants : Wants) (l : List ℕ) → lend_refusal o kinds.Bytes s 0 ≡ None → Answers told wants (Ok l) (bytes_answer o s 0) → IsTrue told → l ≡ section_bytes o s
  bytes_are told wants l passed came is =
      let stated : Ok (section_bytes o s) ≡ Ok l = sym (ap (λ (r : Option ElfError). answered r (section_bytes o s)) passed) ∙ came.1 is in
      cc

  -- over every source they are as many
  pub bytes_long : (l : List ℕ) → lend_refusal o kinds.Bytes s 0 ≡ None → IsLike AlikeBytes (Ok l) (bytes_answer o s 0) → length l ≡ count_at o s 0
  bytes_long l passed like = by_refusal (lend_refusal o kinds.Bytes s 0) passed like ∙ count_of_bytes passed
    where
      by_refusal : (r : Option ElfError) → r ≡ None → IsLike AlikeBytes (Ok l) (answered r (section_bytes o s)) → length l ≡ length (section_bytes o s)
      by_refusal None is like = like
      by_refusal (Some e) is like = cc

-- ---- Steps over a report that is under way, of which nothing refused yet

module _ {S O E : Type 0} {s : SourceGhosts S} {o : SinkGhosts O} {e : SinkGhosts E} {a b : State S} {t u : Outputs O E}
    {whole rest : Object → Report} (h : ElfUnderWay s o e false a b t u whole rest) where
  -- a statement on the object at hand is one on the object at the start
  pub at_start : (P : Object → Type 0) → (IsTrue b.told → P b.o) → IsTrue a.told → P a.o
  at_start P is told = subst P h.elf.object (is (still_told s a b h.elf told))

  of_next : {c : State S} {v : Outputs O E} (r : Result Bool Stop) (next : Object → Report) → ReportsElf s o e next r b c u v → IsTrue a.told → Reports o e r u v (next a.o)
  of_next {c} {v} r next k = at_start (λ (m : Object). Reports o e r u v (next m)) k.reports

  -- the next of what is left is a line, which refuses nothing
  pub elf_line_shown : {c : State S} {v : Outputs O E} {y : Bool} (text : Object → List ℕ) (left : Object → Report)
      → (IsTrue b.told → rest b.o ≡ joined_reports (shown_report (text b.o)) (left b.o)) → ReportsElf s o e (λ m. shown_report (text m)) (Ok y) b c u v
      → ElfUnderWay s o e false a c t v whole left
  elf_line_shown {c} {v} {y} text left is k = record {
    report = λ told. line_shown (h.report told) (text a.o) (left a.o) (at_start (λ (m : Object). rest m ≡ joined_reports (shown_report (text m)) (left m)) is told)
        (of_next (Ok y) (λ m. shown_report (text m)) k told);
    elf = elf_left_then s a b c h.elf k.elf;
    keeps = keeps_then o e t u v h.keeps k.leaves.keeps;
  }

  -- all that is left is given by the step that answers
  pub elf_ends_with : {c : State S} {v : Outputs O E} (r : Result Bool Stop) (next : Object → Report) → (IsTrue b.told → rest b.o ≡ next b.o)
      → ReportsElf s o e next r b c u v → ReportsElf s o e whole r a c t v
  elf_ends_with {c} {v} r next is k = record {
    reports = λ told. ends_with (h.report told) r (next a.o) refl (at_start (λ (m : Object). rest m ≡ next m) is told) (of_next r next k told);
    elf = elf_left_then s a b c h.elf k.elf;
    leaves = left_after o e r (s.faults a.source) (s.faults b.source) (s.faults c.source) t u v h.elf.later h.keeps k.leaves;
  }

-- What is left of the report on a section's units.
use Rattle.std.proofs.Common.{◌≡◌, ◌+◌, ◌<◌, ◌≤◌, ℕ, suc, zero, Bool, false, List, [], ◌∷◌, length, Option, Some, None, Result, Ok, Err, refl, sym, ap, ◌∙◌, arith}
use Rattle.elf_types.specs.declared.records.Class.{Class}
use Rattle.elf_types.specs.declared.records.Order.{Order}
use Rattle.line_table.specs.declared.faults.LineWhy.{LineWhy}
use Rattle.line_table.specs.declared.faults.LineFault.{LineFault}
use Rattle.line_table.specs.declared.faults.LineFault.TheVariants.{Bad}
use Rattle.line_table.specs.declared.units.Unit.{Unit as LineUnit}
use Rattle.line_table.specs.Units.{unit_at}
use Rattle.elf_outside.specs.declared.sinks.Sink.{Ghosts}
use Rattle.tool_output.specs.declared.stops.Stop.{Stop}
use Rattle.tool_output.specs.declared.outputs.Outputs.{Outputs}
use Rattle.tool_output.specs.Names.{Name}
use Rattle.tool_output.specs.Reports.{Report, Reports, no_report, shown_report, joined_reports, all_reports_joined, reports_of, UnderWay}
use Rattle.tool_output.specs.Steps.{KeepsSinks}
use Rattle.tool_output.proofs.StepLemmas.{keeps_none, keeps_then}
use Rattle.tool_output.proofs.ReportLemmas.{joined_assoc, joined_no_report, no_report_joined, reports_nothing}
use Rattle.tool_output.proofs.UnderWayLemmas.{begins, goes_on, stops_at, ends_with, is_given}
use Rattle.lines_tool.specs.Rows.{row_line, fault_text}
use Rattle.lines_tool.specs.Units.{UnitList, unit_then, units_at_most, units_of}
use Rattle.lines_tool.specs.Tables.{section_message_report, fault_report, unit_report, units_report}

-- ---- A unit

-- lines refuse nothing
lines_pass : {X : Type 0} (line : X → List ℕ) (xs : List X) → (reports_of (λ x. shown_report (line x)) xs).refused ≡ false
unfolding reports_of all_reports_joined joined_reports shown_report no_report
lines_pass line [] = refl
lines_pass line (x ∷ xs) = lines_pass line xs

unit_passes : (u : LineUnit) → (unit_report u).refused ≡ false
unfolding unit_report joined_reports shown_report
unit_passes u = lines_pass row_line u.rows

-- ---- The units of a section

module _ (name : Name) (s : ℕ) where
  -- a unit, and then others
  report_cons : (u : LineUnit) (l : UnitList)
      → units_report name s (record { units = u ∷ l.units; fault = l.fault }) ≡ joined_reports (unit_report u) (units_report name s l)
  unfolding units_report reports_of all_reports_joined
  report_cons u l = joined_assoc (unit_report u) (reports_of unit_report l.units) (fault_report name s l.fault)

  -- no more units
  report_end : (fault : Option LineFault) → units_report name s (record { units = []; fault = fault }) ≡ fault_report name s fault
  unfolding units_report reports_of all_reports_joined
  report_end fault = no_report_joined (fault_report name s fault)

  module _ (class : Class) (order : Order) (section : List ℕ) where
    -- what is left at a place, of at most so many units
    abbrev pub left : ℕ → ℕ → Report
    left n at = units_report name s (units_at_most n class order section at)

    unit_left : (n at : ℕ) (u : LineUnit) → unit_at class order section at ≡ Ok (Some u) → left (suc n) at ≡ joined_reports (unit_report u) (left n u.next)
    unit_left n at u is =
        ap (λ (r : Result (Option LineUnit) LineFault). units_report name s (unit_then r (λ v. units_at_most n class order section v.next))) is
        ∙ report_cons u (units_at_most n class order section u.next)

    none_left : (n at : ℕ) → unit_at class order section at ≡ Ok None → left (suc n) at ≡ no_report
    unfolding fault_report
    none_left n at is =
        ap (λ (r : Result (Option LineUnit) LineFault). units_report name s (unit_then r (λ v. units_at_most n class order section v.next))) is
        ∙ report_end None

    fault_left : (n at place : ℕ) (why : LineWhy) → unit_at class order section at ≡ Err (Bad place why) → left (suc n) at ≡ section_message_report name s (fault_text place why)
    unfolding fault_report
    fault_left n at place why is =
        ap (λ (r : Result (Option LineUnit) LineFault). units_report name s (unit_then r (λ v. units_at_most n class order section v.next))) is
        ∙ report_end (Some (Bad place why))

    abbrev whole : Report
    whole = units_report name s (units_of class order section)

    -- The units up to a place are shown. Those that are left take fewer turns than may be left.
    pub record AreShown {O E : Type 0} (o : Ghosts O) (e : Ghosts E) (old new : Outputs O E) (at : ℕ) : Type 0 where
      pub turns : ℕ
      pub enough : length section < at + turns
      pub within : at ≤ length section
      pub report : UnderWay o e false old new (units_report name s (units_of class order section)) (left turns at)
      pub keeps : KeepsSinks o e old new

    pub none_shown : {O E : Type 0} (o : Ghosts O) (e : Ghosts E) (t : Outputs O E) → AreShown o e t t 0
    unfolding units_of
    none_shown o e t = record {
      turns = suc (length section);
      enough = omega arith;
      within = omega arith;
      report = begins o e t (left (suc (length section)) 0);
      keeps = keeps_none o e t;
    }

    module _ {O E : Type 0} (o : Ghosts O) (e : Ghosts E) (t u : Outputs O E) (at : ℕ) (h : AreShown o e t u at) where
      -- one turn is left at least
      one_turn : (n : ℕ) → length section < at + n → UnderWay o e false t u whole (left n at) → (k : ℕ) × (n ≡ suc k) × UnderWay o e false t u whole (left (suc k) at)
      one_turn zero enough r = absurd (let w = h.within in omega arith)
      one_turn (suc k) enough r = (k, refl, r)

      pub unit_shown : (v : Outputs O E) (y : Bool) (unit : LineUnit) → unit_at class order section at ≡ Ok (Some unit) → at < unit.next → unit.next ≤ length section
          → Reports o e (Ok y) u v (unit_report unit) → KeepsSinks o e u v → AreShown o e t v unit.next
      unit_shown v y unit is later within k keeps =
          let turn = one_turn h.turns h.enough h.report in
          record {
            turns = turn.0;
            enough = omega (arith, later, turn.1, h.enough);
            within = within;
            report = goes_on turn.2 (unit_report unit) (left turn.0 unit.next) (unit_left turn.0 at unit is) k (sym (k.value_is ∙ unit_passes unit));
            keeps = keeps_then o e t u v h.keeps keeps;
          }

      pub unit_stops : (v : Outputs O E) (stop : Stop) (unit : LineUnit) → unit_at class order section at ≡ Ok (Some unit) → Reports o e (Err stop) u v (unit_report unit)
          → Reports o e (Err stop) t v whole
      unit_stops v stop unit is k =
          let turn = one_turn h.turns h.enough h.report in
          stops_at turn.2 (unit_report unit) (left turn.0 unit.next) (unit_left turn.0 at unit is) k

      -- there was no memory for a unit
      pub unit_wants : (stop : Stop) → Reports o e (Err stop) t u whole
      unit_wants stop = stops_at h.report (left h.turns at) no_report (sym (joined_no_report (left h.turns at))) (reports_nothing o e u stop (left h.turns at))

      pub units_end : unit_at class order section at ≡ Ok None → Reports o e (Ok false) t u whole
      units_end is =
          let turn = one_turn h.turns h.enough h.report in
          is_given turn.2 (none_left turn.0 at is)

      pub units_fail : (v : Outputs O E) (r : Result Bool Stop) (place : ℕ) (why : LineWhy) → unit_at class order section at ≡ Err (Bad place why)
          → Reports o e r u v (section_message_report name s (fault_text place why)) → Reports o e r t v whole
      units_fail v r place why is k =
          let turn = one_turn h.turns h.enough h.report in
          ends_with turn.2 r (section_message_report name s (fault_text place why)) refl (fault_left turn.0 at place why is) k

use Rattle.std.proofs.Common.{◌-◌, map}
use Rattle.std.specs.Prelude.{◌^◌}
use Rattle.tool_output.specs.Reports.{UnderWay}
use Rattle.tool_output.specs.Steps.{KeepsSinks}
use Rattle.tool_objects.specs.AtHand.Items.{held_items, passing_from}
use Rattle.elf_lint_findings.specs.Findings.{at_items, findings_shown}
use Rattle.elf_lint_symbols.proofs.ScanLemmas.{found_at}
use Rattle.elf_lint_symbols.proofs.scans.show_found.Given as goal

-- what is found at the items that pass from here on is left
abbrev pub invariant-loop-i : goal.invariant-loop-i
invariant-loop-i g l =
    let by = l.by in
    let s = by.section.0 in
    let holds = g.C.ItemTest.holds l.test in
    let items = held_items g.T.Listed.kind g.T.Listed.list_of l.items in
    record {
      report : UnderWay g.O.Sink g.E.Sink l.found l.initial.outputs l.outputs
          (findings_shown by.name.now (at_items by.number by.text.now s holds items))
          (findings_shown by.name.now
          (map (found_at by.number by.text.now s) (passing_from holds items l.from)));
      keeps : KeepsSinks g.O.Sink g.E.Sink l.initial.outputs l.outputs;
    }

abbrev pub decreases-loop-i : goal.decreases-loop-i
decreases-loop-i g l = 2 ^ 63 - l.from

use Rattle.std.proofs.Common.{ℕ, drop}
use Rattle.elf_object.specs.Object.{Object}
use Rattle.tool_output.specs.Reports.{reports_of, UnderWay}
use Rattle.tool_output.specs.Steps.{KeepsSinks}
use Rattle.nm_tool.specs.Kept.{held_report, TellsRows}
use Rattle.nm_tool.proofs.at_hand.show_each.Given as goal

abbrev pub invariant-loop-k : goal.invariant-loop-k
invariant-loop-k g l =
    let h = g.H.ObjectHeaders in
    let row = λ (o : Object) (s : ℕ).
    held_report l.form.options.now l.form.file.now o s l.bytes.strings.now in
    record {
      rows : (o : Object) (s : ℕ)
          → TellsRows o s (h.class l.headers) (h.headers l.headers) l.bytes
          → UnderWay g.O.Sink g.E.Sink l.refused l.initial.outputs l.outputs
          (reports_of (row o s) l.order) (reports_of (row o s) (drop l.k-index l.order));
      keeps : KeepsSinks g.O.Sink g.E.Sink l.initial.outputs l.outputs;
    }

use Rattle.std.proofs.Common.{◌-◌, ◌≤◌, Ok}
use Rattle.tool_objects.specs.Steps.{Learns}
use Rattle.nm_tool.specs.Kept.{kept_of}
use Rattle.nm_tool.proofs.kept.kept_by_calls.Given as goal

abbrev pub invariant-loop-i : goal.invariant-loop-i
invariant-loop-i g l = record {
  begun : 1 ≤ l.i;
  within : l.i - 1 ≤ l.count - 1;
  learned : Learns g.S.Source (λ o. kept_of l.options o l.t.symbols.0 (l.i - 1)) (Ok l.list)
      l.initial.elf l.elf;
}

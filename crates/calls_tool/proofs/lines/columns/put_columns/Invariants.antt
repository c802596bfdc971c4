use Rattle.std.proofs.Common.{◌≡◌, ◌++◌, take}
use Rattle.std.specs.Prelude.{flat_map}
use Rattle.calls_tool.specs.Lines.{column_text}
use Rattle.calls_tool.proofs.lines.columns.put_columns.Given as goal

abbrev pub invariant-loop-column : goal.invariant-loop-column
invariant-loop-column l = l.page ≡ l.initial.page ++ flat_map (λ c. column_text c.0.now c.1) (take l.column-index l.columns)

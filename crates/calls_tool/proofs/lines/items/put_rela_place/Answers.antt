use Rattle.calls_tool.specs.Lines.{rela_place}
use Rattle.calls_tool.proofs.lines.items.put_rela_place.Goals as goal

pub returns-clause-ok : goal.returns-clause-ok
unfolding rela_place
returns-clause-ok c = rw (← c.from.ensures, ← c.from-2.ensures) c.put_columns.ensures.ok

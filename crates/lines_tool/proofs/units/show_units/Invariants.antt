use Rattle.std.proofs.Common.{◌-◌, length}
use Rattle.lines_tool.proofs.UnitLemmas.{AreShown}
use Rattle.lines_tool.proofs.units.show_units.Given as goal

abbrev pub invariant-units : goal.invariant-units
invariant-units g l =
    AreShown l.name l.table.section l.table.class l.table.order l.table.bytes.now g.O.Sink g.E.Sink l.initial.outputs l.outputs l.at

abbrev pub decreases-units : goal.decreases-units
decreases-units g l = length l.table.bytes.now - l.at

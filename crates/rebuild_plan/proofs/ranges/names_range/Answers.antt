use Rattle.rebuild_plan.proofs.RangeLaws.{table_found}
use Rattle.rebuild_plan.proofs.ranges.names_range.Goals as goal

pub returns : goal.returns
returns g c =
    table_found g.S.Source c.args.keeper.now c.args.s.0 c.args.elf.now c.args.table.now
    c.args.held.now c.hold_shared.new.held c.requires.table c.are_ranged.ensures
    c.hold_shared.result c.hold_shared.ensures.ok c.hold_shared.ensures.err

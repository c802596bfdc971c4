use Rattle.rebuild_plan.proofs.RowLaws.{rows_found}
use Rattle.rebuild_plan.proofs.ranges.made_range.Goals as goal

pub rows_range-requires : goal.rows_range-requires
rows_range-requires g c = record { inside = c.in-Some.ensures.inside }

pub returns-in-Some : goal.returns-in-Some
returns-in-Some g c =
    rows_found g.S.Source c.args.keeper.now c.args.s.0 c.in-Some.x c.args.elf.now
    c.rows_range.new.elf c.requires.makes c.in-Some.ensures c.rows_range.result
    c.args.held.now c.rows_range.new.held c.rows_range.ensures.ok c.rows_range.ensures.held
    c.rows_range.ensures.asks
    c.rows_range.ensures.err

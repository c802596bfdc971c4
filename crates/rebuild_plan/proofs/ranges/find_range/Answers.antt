use Rattle.std.proofs.Common.{sym, ◌∙◌}
use Rattle.rebuild_plan.proofs.RangeLaws.{home_found}
use Rattle.rebuild_plan.proofs.ranges.find_range.Goals as goal

pub made_range-requires-clause-makes : goal.made_range-requires-clause-makes
made_range-requires-clause-makes g c = sym c.makes.ensures ∙ c.if-makes.true

pub returns : goal.returns
returns g c =
    home_found g.S.Source c.args.keeper.now c.args.s.0 c.args.elf.now c.args.held.now
    c.requires.there c.requires.object c.requires.clean c.requires.tied
    (sym c.makes.ensures ∙ c.if-makes.false) c.home_range.result c.home_range.ensures

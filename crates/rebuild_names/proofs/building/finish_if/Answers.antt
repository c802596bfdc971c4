use Rattle.std.proofs.Common.{refl, inr}
use Rattle.rebuild_names.proofs.BuildLaws.{finishes_when, ends_when}
use Rattle.rebuild_names.proofs.building.finish_if.Goals as goal

pub returns-then-fits-clause-ok : goal.returns-then-fits-clause-ok
returns-then-fits-clause-ok c =
    finishes_when c.args.making c.args.fits c.finish.result c.if-fits.true c.finish.ensures.ok

pub returns-then-fits-clause-err : goal.returns-then-fits-clause-err
returns-then-fits-clause-err c =
    ends_when c.args.fits c.finish.result c.finish.ensures.err

pub returns-clause-err : goal.returns-clause-err
returns-clause-err c = inr (c.if-fits.false, refl)

use Rattle.test_kit_sources.proofs.Untold.{lengthens_untold, front_untold}
use Rattle.test_kit_sources.proofs.hidden.HiddenDevice.append.Goals as goal

pub returns-clause-ok : goal.returns-clause-ok
returns-clause-ok g c =
    lengthens_untold c.append.result _ _ _ _ c.args.buf.now c.append.ensures.ok

pub returns-clause-err : goal.returns-clause-err
returns-clause-err g c = front_untold c.append.result _ _ _ _ c.args.buf.now c.append.ensures.err

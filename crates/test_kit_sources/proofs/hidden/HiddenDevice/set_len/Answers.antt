use Rattle.test_kit_sources.proofs.Untold.{resizes_untold, stays_untold}
use Rattle.test_kit_sources.proofs.hidden.HiddenDevice.set_len.Goals as goal

pub returns-clause-ok : goal.returns-clause-ok
returns-clause-ok g c = resizes_untold c.set_len.result _ _ _ _ c.args.n c.set_len.ensures.ok

pub returns-clause-err : goal.returns-clause-err
returns-clause-err g c = stays_untold c.set_len.result _ _ _ _ c.args.n c.set_len.ensures.err

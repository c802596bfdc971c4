use Rattle.test_kit_sources.proofs.Untold.{lengthens_untold, front_untold}
use Rattle.test_kit_sources.proofs.hidden.HiddenDevice.append_zeros.Goals as goal

pub returns-clause-ok : goal.returns-clause-ok
returns-clause-ok g c =
    lengthens_untold c.append_zeros.result _ _ _ _ _ c.append_zeros.ensures.ok

pub returns-clause-err : goal.returns-clause-err
returns-clause-err g c = front_untold c.append_zeros.result _ _ _ _ _ c.append_zeros.ensures.err

use Rattle.test_kit_sources.proofs.Untold.{writes_untold, tears_untold}
use Rattle.test_kit_sources.proofs.hidden.HiddenDevice.write_at.Goals as goal

pub returns-clause-ok : goal.returns-clause-ok
returns-clause-ok g c = writes_untold c.write_at.result c.args.at c.args.buf.now

pub returns-clause-err : goal.returns-clause-err
returns-clause-err g c = tears_untold c.write_at.result c.args.at c.args.buf.now

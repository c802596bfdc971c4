use Rattle.std.proofs.Common.{refl}
use Rattle.test_descriptor.proofs.callers.Settles.{covered}
use Rattle.test_descriptor.proofs.callers.settling.cover.Goals as goal

pub returns-clause-long : goal.returns-clause-long
returns-clause-long g c =
    (covered g.D.Source g.D.Device c.write_base.result c.size_base.new.self.source
    c.write_base.new.self.source c.args.bytes.now _ _
    c.in_default-size_base.ensures.ok.len refl
    (g.met.D.Source.sized c.size_base.new.self.source) c.write_base.ensures.patches).0

pub returns-clause-holds : goal.returns-clause-holds
returns-clause-holds g c =
    (covered g.D.Source g.D.Device c.write_base.result c.size_base.new.self.source
    c.write_base.new.self.source c.args.bytes.now _ _
    c.in_default-size_base.ensures.ok.len refl
    (g.met.D.Source.sized c.size_base.new.self.source) c.write_base.ensures.patches).1

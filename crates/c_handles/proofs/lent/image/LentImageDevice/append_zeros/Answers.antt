use Rattle.std.proofs.Common.{arith}
use Rattle.c_handles.proofs.lent.KeepLaws.{lengthens_by_zeros}
use Rattle.c_handles.proofs.lent.image.LentImageDevice.append_zeros.Goals as goal

pub returns-in-Some-clause-ok : goal.returns-in-Some-clause-ok
returns-in-Some-clause-ok c =
    lengthens_by_zeros c.keep_or_count.result c.args.self.now.writes c.keep_or_count.new.self.writes
    c.args.self.now.loan c.keep_or_count.new.self.loan c.keep_or_count.ensures.leaves.0
    c.in-Some.longer c.args.self.now.size c.keep_or_count.new.self.size c.args.n
    c.args.self.now.sized (omega (arith, c.in-Some.ensures)) c.keep_or_count.ensures.kept
    c.keep_or_count.ensures.size

use Rattle.c_handles.proofs.lent.KeepLaws.{resizes}
use Rattle.c_handles.proofs.lent.image.LentImageDevice.set_len.Goals as goal

pub returns-clause-ok : goal.returns-clause-ok
returns-clause-ok c =
    resizes c.keep_or_count.result c.args.self.now.writes c.keep_or_count.new.self.writes
    c.args.self.now.loan c.keep_or_count.new.self.loan c.keep_or_count.ensures.leaves.0
    c.args.n c.args.self.now.size c.keep_or_count.new.self.size c.keep_or_count.ensures.kept
    c.keep_or_count.ensures.size

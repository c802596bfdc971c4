use Rattle.c_handles.proofs.lent.KeepLaws.{wrote_over}
use Rattle.c_handles.proofs.lent.image.LentImageDevice.write_at.Goals as goal

pub returns-clause-ok : goal.returns-clause-ok
returns-clause-ok c =
    wrote_over c.keep_or_count.result c.args.self.now.writes c.keep_or_count.new.self.writes
    c.args.self.now.loan c.keep_or_count.new.self.loan c.keep_or_count.ensures.leaves.0
    c.args.self.now.size c.args.at c.args.buf.now c.args.self.now.sized
    c.keep_or_count.ensures.kept

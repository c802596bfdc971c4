use Rattle.c_handles.proofs.lent.KeepLaws.{raised_by_put}
use Rattle.c_handles.proofs.lent.image.LentImage.keep_or_count.Goals as goal

pub returns-in-Ok-clause-given : goal.returns-in-Ok-clause-given
returns-in-Ok-clause-given c =
    raised_by_put c.args.self.now.lost c.keep.new.self.lost c.args.self.now.writes
    c.keep.new.self.writes
    (record { size = c.args.size; at = c.args.at; bytes = c.args.bytes.now })
    c.keep.ensures.leaves.2 c.in-Ok.ensures.kept

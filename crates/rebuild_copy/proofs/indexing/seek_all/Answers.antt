use Rattle.rebuild_copy.proofs.IndexLaws.{sought_kept, sought_flags}
use Rattle.rebuild_copy.proofs.indexing.seek_all.Goals as goal

pub returns-in-Ok-clause-renamed : goal.returns-in-Ok-clause-renamed
returns-in-Ok-clause-renamed c =
    sought_kept c.args.changes.now.rename c.seek_changed.new.sought c.seek_flagged.new.sought
    c.seek_flagged.result (rw c.as_slice.ensures at c.in-Ok.ensures.sought)
    c.seek_flagged.ensures.kept

pub returns-in-Ok-clause-flagged : goal.returns-in-Ok-clause-flagged
returns-in-Ok-clause-flagged c =
    sought_flags c.args.changes.now.flags c.as_slice-in-Ok.result.now c.seek_flagged.new.sought
    c.seek_flagged.result c.as_slice-in-Ok.ensures c.seek_flagged.ensures.sought

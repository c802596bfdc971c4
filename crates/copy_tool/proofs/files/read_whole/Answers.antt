use Rattle.copy_tool.proofs.FileLemmas.{whole_read}
use Rattle.copy_tool.proofs.files.read_whole.Goals as goal

pub returns : goal.returns
returns g c =
    whole_read g.S.Source c.args.src.now _ (g.met.S.Source.sized c.args.src.now)
    c.read_range.result _ c.len-len.ensures.size c.read_range.ensures.bytes
    c.read_range.ensures.len c.read_range.ensures.asks c.read_range.ensures.err

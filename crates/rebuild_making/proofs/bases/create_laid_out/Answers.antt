use Rattle.rebuild_making.proofs.BaseLaws.{laid_out_made}
use Rattle.rebuild_making.proofs.bases.create_laid_out.Goals as goal

pub returns : goal.returns
returns c =
    laid_out_made c.args.class c.args.order c.args.base c.create_over-made.result
    c.set_layout.new.elf c.create_over-made.ensures c.set_layout.ensures

use Rattle.std.proofs.Common.{refl}
use Rattle.section_data.proofs.Rounding.{divided}
use Rattle.section_data.proofs.Runs.{run_none}
use Rattle.section_data.proofs.blocks.first_run.Goals as goal

pub run_of_blocks-first-requires-clause-whole : goal.run_of_blocks-first-requires-clause-whole
run_of_blocks-first-requires-clause-whole c = refl

pub run_of_blocks-second-requires-clause-whole : goal.run_of_blocks-second-requires-clause-whole
run_of_blocks-second-requires-clause-whole c =
    divided c.run_of_blocks-first.result.count 16384 512 c.run_of_blocks-first.ensures.whole refl

pub run_of_blocks-third-requires-clause-whole : goal.run_of_blocks-third-requires-clause-whole
run_of_blocks-third-requires-clause-whole c =
    divided c.run_of_blocks-second.result.count 512 16 c.run_of_blocks-second.ensures.whole refl

pub run_of_pieces-requires-clause-there : goal.run_of_pieces-requires-clause-there
run_of_pieces-requires-clause-there c =
    (c.run_of_blocks-third.ensures.longer c.args.before
    (c.run_of_blocks-second.ensures.longer c.args.before
    (c.run_of_blocks-first.ensures.longer c.args.before
    (run_none c.args.before c.args.pieces.now)))).few

pub returns-clause-run : goal.returns-clause-run
returns-clause-run c =
    c.run_of_pieces.ensures.longer c.args.before
    (c.run_of_blocks-third.ensures.longer c.args.before
    (c.run_of_blocks-second.ensures.longer c.args.before
    (c.run_of_blocks-first.ensures.longer c.args.before
    (run_none c.args.before c.args.pieces.now))))

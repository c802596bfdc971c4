use Rattle.std.proofs.Common.{arith}
use Rattle.strings_tool.proofs.runs.find_early_run.Goals as goal

pub returns-clause-none : goal.returns-clause-none
returns-clause-none c =
    c.run_in.ensures.none 64 c.args.bytes.now (record { few = omega arith; there = c.requires.room; is = c.printable_mask.ensures })

pub returns-clause-some : goal.returns-clause-some
returns-clause-some c =
    c.run_in.ensures.some 64 c.args.bytes.now (record { few = omega arith; there = c.requires.room; is = c.printable_mask.ensures })

use Rattle.std.proofs.Common.{◌/◌, ◌^◌, bit_and, arith}
use Rattle.strings_tool.proofs.LaneLemmas.{begin_one, begin_more}
use Rattle.strings_tool.proofs.runs.four_starts.Goals as goal

pub returns : goal.returns
returns c =
    let mask = c.args.mask in
    let two = begin_more mask 1 1 mask (begin_one mask) (omega arith) in
    begin_more mask 2 2 (bit_and mask (mask / 2 ^ 1)) two (omega arith)

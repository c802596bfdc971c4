use Rattle.std.proofs.Common.{◌≡◌}
use Rattle.std.specs.Slice.Iter.{chunks_rest, chunks_size}
use Rattle.tool_output.proofs.columns.HexBlocks.{PutUpTo}
use Rattle.tool_output.proofs.columns.hex_pairs.put_hex_pairs.Given as goal

abbrev pub invariant-loop-block : goal.invariant-loop-block
invariant-loop-block l =
    goal.iterator-loop-block.can_next l.block-iterator
    × goal.iterator-loop-block.is_finite l.block-iterator
    × (chunks_size l.block-iterator ≡ 32)
    × PutUpTo l.initial.page l.page (chunks_rest l.block-iterator) l.fn.bytes

use Rattle.std.proofs.Common.{◌+◌, ◌≤◌, arith}
use Rattle.elf_outside.proofs.Streams.{zeros_more, part_within}
use Rattle.elf_outside.proofs.real.transfers.write_pages_to.Goals as goal

pub returns-then-put-size-clause-bytes : goal.returns-then-put-size-clause-bytes
returns-then-put-size-clause-bytes g c =
    let put = c.write_to-put.result in
    let size = c.min-size.result in
    let part : put ≤ size = omega (arith, c.if-put-size.true) in
    let within : c.loop.done + put ≤ c.args.n =
    omega (arith, c.min-size.ensures, c.loop.invariant.in_range, c.if-put-size.true) in
    zeros_more _ _ _ c.args.n c.loop.done put size g.row.N within part
    (omega (arith, c.min-size.ensures)) c.loop.invariant.written c.write_to-put.ensures.bytes

pub loop-preserved : goal.loop-preserved
loop-preserved g c =
    let put = c.write_to-put.result in
    let size = c.min-size.result in
    let part : put ≤ size = part_within put size g.row.N c.write_to-put.ensures.bound in
    let within : c.loop.done + put ≤ c.args.n =
    omega (arith, c.min-size.ensures, c.loop.invariant.in_range, part) in
    record {
      in_range = within;
      written = zeros_more _ _ _ c.args.n c.loop.done put size g.row.N within part
          (omega (arith, c.min-size.ensures)) c.loop.invariant.written c.write_to-put.ensures.bytes;
    }

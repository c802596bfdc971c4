use Rattle.std.proofs.Common.{arith}
use Rattle.strtab_shared.proofs.bytes.CopyLaws.{all_same}
use Rattle.strtab_shared.proofs.bytes.bytes.SharedBytes.has_at.Goals as goal

pub returns : goal.returns
returns c =
    all_same c.args.self.now c.args.bytes.now c.args.at c.loop-done.done
    (omega (arith, c.loop-done-test.false)) c.loop-done.invariant.within
    c.loop-done.invariant.same

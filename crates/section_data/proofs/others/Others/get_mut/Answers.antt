use Rattle.std.proofs.Common.{arith}
use Rattle.section_data.proofs.Runs.{noted_lent}
use Rattle.section_data.proofs.others.Others.get_mut.Goals as goal

pub invariant_of-self-lent : goal.invariant_of-self-lent
invariant_of-self-lent c = λ w. record {
  shorts =
      noted_lent 16 c.self.inside.short.items c.forget.new.spans.items c.self.inside.pieces.items
      c.args.i w (omega arith) c.self.invariant.shorts c.forget.ensures;
  middles =
      noted_lent 512 c.self.inside.middle.items c.forget-2.new.spans.items
      c.self.inside.pieces.items c.args.i w (omega arith) c.self.invariant.middles
      c.forget-2.ensures;
  longs =
      noted_lent 16384 c.self.inside.long.items c.forget-3.new.spans.items
      c.self.inside.pieces.items c.args.i w (omega arith) c.self.invariant.longs
      c.forget-3.ensures;
}

use Rattle.std.proofs.Common.{length, arith}
use Rattle.rebuild_join.proofs.pair.PairLaws.{both_read}
use Rattle.rebuild_join.proofs.pair.reading.read_across.Goals as goal

pub returns : goal.returns
returns g c =
    let split = c.split_at_mut-here.ensures in
    let front = split.front_len in
    let back = split.back_len in
    let end = c.len-end.ensures.size in
    both_read g.S.Source g.T.Source c.args.at c.args.first.now c.args.second.now c.args.buf.now
    (g.met.S.Source.sized c.args.first.now) c.read_at-one.result c.read_at-other.result
    c.answer_of_both.result c.read_at-one.new.self c.read_at-other.new.self
    (length c.split_at_mut-here.result.0.now) (length c.split_at_mut-here.result.1.now)
    c.read_at-one.new.buf c.read_at-other.new.buf c.answer_of_both.ensures
    (omega (arith, front, end, c.requires.begins))
    (omega (arith, front, back))
    c.read_at-one.ensures.leaves c.read_at-other.ensures.leaves
    c.read_at-one.ensures.bytes c.read_at-other.ensures.bytes
    c.read_at-one.ensures.cause c.read_at-other.ensures.cause
    c.read_at-one.ensures.taken c.read_at-other.ensures.taken

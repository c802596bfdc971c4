use Rattle.rebuild_join.proofs.pair.PairLaws.{first_read, second_read}
use Rattle.rebuild_join.proofs.pair.reading.read_pair.Goals as goal

pub returns-then-end-at : goal.returns-then-end-at
returns-then-end-at g c =
    second_read g.S.Source g.T.Source c.args.at c.args.first.now c.args.second.now
    c.args.buf.now (g.met.S.Source.sized c.args.first.now) c.read_at.result c.read_at.new.self
    c.len-end.result c.read_at.new.buf c.len-end.ensures.size c.if-end-at.true
    c.read_at.ensures.leaves c.read_at.ensures.bytes c.read_at.ensures.cause
    c.read_at.ensures.taken

pub returns-then-buf-end : goal.returns-then-buf-end
returns-then-buf-end g c =
    first_read g.S.Source g.T.Source c.args.at c.args.first.now c.args.second.now
    c.args.buf.now (g.met.S.Source.sized c.args.first.now) c.read_at-then-buf-end.result
    c.read_at-then-buf-end.new.self c.len-end.result c.read_at-then-buf-end.new.buf
    c.len-end.ensures.size c.if-buf-end.true c.if-end-at.false
    c.read_at-then-buf-end.ensures.leaves c.read_at-then-buf-end.ensures.bytes
    c.read_at-then-buf-end.ensures.cause c.read_at-then-buf-end.ensures.taken

pub returns : goal.returns
returns g c = c.read_across.ensures

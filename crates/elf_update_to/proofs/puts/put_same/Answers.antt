use Rattle.std.proofs.Common.{arith}
use Rattle.elf_update_to.proofs.PageLaws.{fill_starts, fill_stops, fill_goes_on, fill_ends}
use Rattle.elf_update_to.proofs.puts.put_same.Goals as goal

pub loop-left-init : goal.loop-left-init
loop-left-init g c = record {
  done = fill_starts g.K.Sink c.args.byte c.args.count c.args.sink.now c.args.page.now;
  within = omega arith;
}

pub returns-in-Err-clause-flows : goal.returns-in-Err-clause-flows
returns-in-Err-clause-flows g c =
    let l = c.loop-left in
    fill_stops g.K.Sink c.args.byte c.args.count c.in-Err.e c.args.sink.now l.sink c.turn.new.sink
    c.args.page.now l.page c.turn.new.self l.left
    l.invariant.within l.invariant.done c.in-Err.ensures.flows

pub loop-left-preserved : goal.loop-left-preserved
loop-left-preserved g c =
    let l = c.loop-left in
    let some = c.min-some.result in record {
      done =
          fill_goes_on g.K.Sink c.args.byte c.args.count c.args.sink.now l.sink c.turn.new.sink
          c.args.page.now l.page c.turn.new.self
          c.push_same.new.self l.left some l.invariant.within (omega (arith, c.min-some.ensures))
          c.push_same.ensures l.invariant.done c.in_default.ensures.flows;
      within = omega (arith, l.invariant.within);
    }

pub returns-clause-flows : goal.returns-clause-flows
returns-clause-flows g c =
    let l = c.loop-left in
    fill_ends g.K.Sink c.args.byte c.args.count c.args.sink.now l.sink c.args.page.now l.page l.left
    (omega arith) l.invariant.done

use Rattle.std.proofs.Common.{◌+◌, length, arith}
use Rattle.elf_update_to.specs.Origins.{origin_due}
use Rattle.elf_update_to.specs.Emits.{origin_text}
use Rattle.elf_update_to.proofs.RangeLaws.{range_starts, range_stops, range_unread, range_goes_on, range_ends, same_due, same_waits, range_ready}
use Rattle.elf_update_to.proofs.puts.put_range.Goals as goal

pub loop-at-init : goal.loop-at-init
loop-at-init g c =
    let p = g.P.ImageParts in
    let o = c.args.parts.now in record {
      done =
          range_starts p g.K.Sink (origin_text p o c.args.of)
          (origin_due (p.due (p.kept o)) (length (p.base (p.kept o))) c.args.of)
          c.args.from c.args.to o c.args.sink.now c.args.page.now;
      low = omega arith;
      high = c.requires.order;
    }

pub returns-in-Err : goal.returns-in-Err
returns-in-Err g c =
    let p = g.P.ImageParts in
    let o = c.args.parts.now in
    let l = c.loop-at in
    range_stops p g.K.Sink (origin_text p o c.args.of)
    (origin_due (p.due (p.kept o)) (length (p.base (p.kept o))) c.args.of) c.args.from c.args.to
    c.in-Err.e o l.parts c.args.sink.now l.sink c.turn.new.sink c.args.page.now l.page
    c.turn.new.self l.at l.invariant.low l.invariant.high
    c.in-Err.ensures.err l.invariant.done c.in-Err.ensures.flows

pub returns-in-Err-fill_by : goal.returns-in-Err-fill_by
returns-in-Err-fill_by g c =
    let p = g.P.ImageParts in
    let o = c.args.parts.now in
    let l = c.loop-at in
    let some = c.min-some.result in
    range_unread p g.K.Sink (origin_text p o c.args.of)
    (origin_due (p.due (p.kept o)) (length (p.base (p.kept o))) c.args.of) c.args.from c.args.to
    c.in-Err-fill_by.e o l.parts c.fill_by.new.parts c.args.sink.now l.sink c.turn.new.sink
    c.args.page.now l.page c.turn.new.self c.fill_by.new.self
    l.at some l.invariant.low (omega (arith, c.min-some.ensures, l.invariant.high))
    c.in-Err-fill_by.ensures.err l.invariant.done
    c.in_default.ensures.flows
    (same_due p _ o l.parts c.fill_by.new.parts c.args.of l.at
    (l.at + some) l.invariant.done.parts.kept c.in-Err-fill_by.ensures.parts)

pub loop-at-preserved : goal.loop-at-preserved
loop-at-preserved g c =
    let p = g.P.ImageParts in
    let o = c.args.parts.now in
    let l = c.loop-at in
    let some = c.min-some.result in
    let same = l.invariant.done.parts.kept in record {
      done =
          range_goes_on p g.K.Sink (origin_text p o c.args.of)
          (origin_due (p.due (p.kept o)) (length (p.base (p.kept o))) c.args.of) c.args.from
          c.args.to
          o l.parts c.fill_by.new.parts c.args.sink.now l.sink c.turn.new.sink c.args.page.now
          l.page c.turn.new.self c.fill_by.new.self
          l.at some l.invariant.low l.invariant.done c.in_default.ensures.flows
          (same_waits p o l.parts c.args.of some l.at c.turn.new.self c.fill_by.new.self same
          c.in_default-fill_by.ensures.waits)
          (same_due p _ o l.parts c.fill_by.new.parts c.args.of l.at (l.at + some) same
          c.in_default-fill_by.ensures.parts);
      low = omega (arith, l.invariant.low);
      high = omega (arith, c.min-some.ensures, l.invariant.high);
    }

pub returns : goal.returns
returns g c =
    let p = g.P.ImageParts in
    let o = c.args.parts.now in
    let l = c.loop-at in
    range_ends p g.K.Sink (origin_text p o c.args.of)
    (origin_due (p.due (p.kept o)) (length (p.base (p.kept o))) c.args.of) c.args.from c.args.to
    o l.parts c.args.sink.now l.sink c.args.page.now l.page l.at (omega (arith, l.invariant.high)) l.invariant.done

pub fill_by-requires-clause-ready : goal.fill_by-requires-clause-ready
fill_by-requires-clause-ready g c =
    range_ready g.P.ImageParts c.args.of c.args.parts.now c.loop-at.parts
    c.loop-at.invariant.done.parts.kept c.requires.ready

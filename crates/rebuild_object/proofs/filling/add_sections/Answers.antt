use Rattle.std.proofs.Common.{arith}
use Rattle.rebuild_object.proofs.AddLaws.{adds_begin, made_room, adds_next, stops_here, adds_all, asks_all}
use Rattle.rebuild_object.proofs.filling.add_sections.Goals as goal

pub loop-s-init : goal.loop-s-init
loop-s-init g c =
    adds_begin g.S.Source c.args.x.now c.args.elf.now c.args.made.now
    c.dirty-sound.ensures.sound.object c.requires.some

pub add_planned-requires-clause-room : goal.add_planned-requires-clause-room
add_planned-requires-clause-room g c =
    let low = c.loop-s.auto.s in
    made_room g.S.Source c.args.x.now c.args.elf.now c.args.made.now c.loop-s.elf
    c.loop-s.made c.loop-s.s (omega (arith, low)) c.loop-s.invariant c.requires.first (omega (arith, c.len-s-end.ensures, c.loop-s-test.true))
    c.requires.ready.counted.few

pub returns-in-Err-clause-asks : goal.returns-in-Err-clause-asks
returns-in-Err-clause-asks g c =
    let low = c.loop-s.auto.s in
    stops_here g.S.Source c.args.x.now c.args.elf.now c.args.made.now c.loop-s.elf
    c.loop-s.made c.loop-s.s (omega (arith, low)) c.loop-s.invariant c.in-Err.e
    c.add_planned.new.elf c.in-Err.ensures.asks
    (omega (arith, c.len-s-end.ensures, c.loop-s-test.true))

pub loop-s-preserved : goal.loop-s-preserved
loop-s-preserved g c =
    let low = c.loop-s.auto.s in
    adds_next g.S.Source c.args.x.now c.args.elf.now c.args.made.now c.loop-s.elf
    c.loop-s.made c.loop-s.s (omega (arith, low)) c.loop-s.invariant c.add_planned.new.elf
    c.add_planned.new.made (omega (arith, c.len-s-end.ensures, c.loop-s-test.true)) c.in-Ok.ensures.adds c.in-Ok.ensures.asks

pub returns-clause-adds : goal.returns-clause-adds
returns-clause-adds g c =
    let low = c.loop-s.auto.s in
    adds_all g.S.Source c.args.x.now c.args.elf.now c.args.made.now c.loop-s.elf
    c.loop-s.made c.loop-s.s (omega (arith, low)) c.loop-s.invariant
    (omega (arith, c.len-s-end.ensures, c.loop-s-test.false))

pub returns-clause-asks : goal.returns-clause-asks
returns-clause-asks g c =
    let low = c.loop-s.auto.s in
    asks_all g.S.Source c.args.x.now c.args.elf.now c.args.made.now c.loop-s.elf
    c.loop-s.made c.loop-s.s (omega (arith, low)) c.loop-s.invariant
    (omega (arith, c.len-s-end.ensures, c.loop-s-test.false))

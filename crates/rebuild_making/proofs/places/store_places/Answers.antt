use Rattle.std.proofs.Common.{arith}
use Rattle.elf_update_plan.proofs.RowLaws.{ok_is}
use Rattle.rebuild_making.proofs.StoreLaws.{stores_begin, store_there, store_limit, store_fits, stores_more, stores_all}
use Rattle.rebuild_making.proofs.places.store_places.Goals as goal

pub loop-s-init : goal.loop-s-init
loop-s-init g c = stores_begin c.args.elf.now c.args.tail c.requires.some

pub store_behind-end-requires-clause-there : goal.store_behind-end-requires-clause-there
store_behind-end-requires-clause-there g c =
    let count = ok_is _ _ c.shnum-s-end.ensures in
    let first = c.loop-s.auto.s in
    store_there c.args.elf.now c.loop-s.elf c.args.tail c.loop-s.end c.loop-s.s
    (omega (arith, first)) (omega (arith, count, c.loop-s-test.true)) c.loop-s.invariant

pub store_behind-end-requires-clause-first : goal.store_behind-end-requires-clause-first
store_behind-end-requires-clause-first g c = let first = c.loop-s.auto.s in omega (arith, first)

pub store_behind-end-requires-clause-limit : goal.store_behind-end-requires-clause-limit
store_behind-end-requires-clause-limit g c =
    let count = ok_is _ _ c.shnum-s-end.ensures in
    let first = c.loop-s.auto.s in
    store_limit c.args.elf.now c.loop-s.elf c.args.tail c.loop-s.end c.loop-s.s
    (omega (arith, first)) (omega (arith, count, c.loop-s-test.true)) c.loop-s.invariant
    c.args.limit c.requires.limit

pub store_behind-end-requires-clause-fits : goal.store_behind-end-requires-clause-fits
store_behind-end-requires-clause-fits g c =
    let count = ok_is _ _ c.shnum-s-end.ensures in
    let first = c.loop-s.auto.s in
    store_fits c.args.elf.now c.loop-s.elf c.args.tail c.loop-s.end c.loop-s.s
    (omega (arith, first)) (omega (arith, count, c.loop-s-test.true)) c.loop-s.invariant
    c.args.limit c.requires.fits

pub loop-s-preserved : goal.loop-s-preserved
loop-s-preserved g c =
    let count = ok_is _ _ c.shnum-s-end.ensures in
    let first = c.loop-s.auto.s in
    stores_more c.args.elf.now c.loop-s.elf c.args.tail c.loop-s.end c.loop-s.s
    (omega (arith, first)) (omega (arith, count, c.loop-s-test.true)) c.loop-s.invariant
    c.store_behind-end.new.elf c.store_behind-end.result c.store_behind-end.ensures.end
    c.store_behind-end.ensures.state

pub returns : goal.returns
returns g c =
    let count = ok_is _ _ c.shnum-s-end.ensures in
    stores_all c.args.elf.now c.loop-s.elf c.args.tail c.loop-s.end c.loop-s.s
    c.loop-s.invariant (omega (arith, count, c.loop-s-test.false))

use Rattle.std.proofs.Common.{◌≡◌, length, arith}
use Rattle.rebuild_keep.proofs.elf_update_plan.RowLaws.{ok_is}
use Rattle.rebuild_join.proofs.joined.AllLaws.{joins_none, next_matches, next_loaded, next_taken, next_there, next_made, next_class, joins_more, joins_stop, joins_all}
use Rattle.rebuild_join.proofs.joined.combining.add_all.Goals as goal

pub loop-s-init : goal.loop-s-init
loop-s-init g c =
    joins_none g.S.Source g.T.Source c.args.stripped.now c.args.debug.now c.args.made.now
    c.is_out_of_file-sound.ensures.sound.object

pub add_next-requires-clause-matches : goal.add_next-requires-clause-matches
add_next-requires-clause-matches g c =
    let count = ok_is _ _ c.shnum-s-end.ensures in
    let first = c.loop-s.auto.s in
    next_matches g.S.Source g.T.Source c.args.stripped.now c.args.debug.now c.args.made.now
    c.loop-s.stripped c.loop-s.debug c.loop-s.made c.loop-s.taken c.loop-s.s
    (omega (arith, first)) (omega (arith, count, c.loop-s-test.true)) c.loop-s.invariant
    c.requires.matches

pub add_next-requires-clause-loaded : goal.add_next-requires-clause-loaded
add_next-requires-clause-loaded g c =
    let count = ok_is _ _ c.shnum-s-end.ensures in
    let first = c.loop-s.auto.s in
    next_loaded g.S.Source g.T.Source c.args.stripped.now c.args.debug.now c.args.made.now
    c.loop-s.stripped c.loop-s.debug c.loop-s.made c.loop-s.taken c.loop-s.s
    (omega (arith, first)) (omega (arith, count, c.loop-s-test.true)) c.loop-s.invariant
    c.args.loaded.now c.requires.loaded

pub add_next-requires-clause-taken : goal.add_next-requires-clause-taken
add_next-requires-clause-taken g c =
    let count = ok_is _ _ c.shnum-s-end.ensures in
    let first = c.loop-s.auto.s in
    next_taken g.S.Source g.T.Source c.args.stripped.now c.args.debug.now c.args.made.now
    c.loop-s.stripped c.loop-s.debug c.loop-s.made c.loop-s.taken c.loop-s.s
    (omega (arith, first)) (omega (arith, count, c.loop-s-test.true)) c.loop-s.invariant

pub add_next-requires-clause-first : goal.add_next-requires-clause-first
add_next-requires-clause-first g c = let first = c.loop-s.auto.s in omega (arith, first)

pub add_next-requires-clause-there : goal.add_next-requires-clause-there
add_next-requires-clause-there g c =
    let count = ok_is _ _ c.shnum-s-end.ensures in
    let first = c.loop-s.auto.s in
    next_there g.S.Source g.T.Source c.args.stripped.now c.args.debug.now c.args.made.now
    c.loop-s.stripped c.loop-s.debug c.loop-s.made c.loop-s.taken c.loop-s.s
    (omega (arith, first)) (omega (arith, count, c.loop-s-test.true)) c.loop-s.invariant

pub add_next-requires-clause-made : goal.add_next-requires-clause-made
add_next-requires-clause-made g c =
    let count = ok_is _ _ c.shnum-s-end.ensures in
    let first = c.loop-s.auto.s in
    next_made g.S.Source g.T.Source c.args.stripped.now c.args.debug.now c.args.made.now
    c.loop-s.stripped c.loop-s.debug c.loop-s.made c.loop-s.taken c.loop-s.s
    (omega (arith, first)) (omega (arith, count, c.loop-s-test.true)) c.loop-s.invariant
    c.requires.made

pub add_next-requires-clause-class : goal.add_next-requires-clause-class
add_next-requires-clause-class g c =
    let count = ok_is _ _ c.shnum-s-end.ensures in
    let first = c.loop-s.auto.s in
    next_class g.S.Source g.T.Source c.args.stripped.now c.args.debug.now c.args.made.now
    c.loop-s.stripped c.loop-s.debug c.loop-s.made c.loop-s.taken c.loop-s.s
    (omega (arith, first)) (omega (arith, count, c.loop-s-test.true)) c.loop-s.invariant
    c.requires.class

pub loop-s-preserved : goal.loop-s-preserved
loop-s-preserved g c =
    let count = ok_is _ _ c.shnum-s-end.ensures in
    let first = c.loop-s.auto.s in
    joins_more g.S.Source g.T.Source c.args.stripped.now c.args.debug.now c.args.made.now
    c.loop-s.stripped c.loop-s.debug c.loop-s.made c.loop-s.taken c.loop-s.s
    (omega (arith, first)) (omega (arith, count, c.loop-s-test.true)) c.loop-s.invariant
    c.add_next.new.stripped c.add_next.new.debug c.add_next.new.made c.in-Ok.next c.in-Ok.ensures

pub returns-in-Err : goal.returns-in-Err
returns-in-Err g c =
    let count = ok_is _ _ c.shnum-s-end.ensures in
    let first = c.loop-s.auto.s in
    joins_stop g.S.Source g.T.Source c.args.stripped.now c.args.debug.now c.args.made.now
    c.loop-s.stripped c.loop-s.debug c.loop-s.made c.loop-s.taken c.loop-s.s
    (omega (arith, first)) (omega (arith, count, c.loop-s-test.true)) c.loop-s.invariant
    c.requires.matches c.add_next.new.stripped c.add_next.new.debug c.add_next.new.made
    c.in-Err.fault c.in-Err.ensures

pub returns : goal.returns
returns g c =
    let count = ok_is _ _ c.shnum-s-end.ensures in
    let all : c.loop-s.s ≡ length c.args.debug.now.o.sections =
    omega (arith, count, c.loop-s-test.false, c.loop-s.auto.s-end, c.requires.some) in
    joins_all g.S.Source g.T.Source c.args.stripped.now c.args.debug.now c.args.made.now
    c.requires.matches c.requires.some c.loop-s.stripped c.loop-s.debug c.loop-s.made
    c.loop-s.taken c.loop-s.s all c.loop-s.invariant

use Rattle.std.proofs.Common.{false, Ok, Err, get_or, refl, ◌∙◌, arith}
use Rattle.std.proofs.lemmas.List.Elements.{All-get_or}
use Rattle.elf_update_to.specs.Pieces.{HasLength}
use Rattle.elf_update_to.specs.Descriptors.{stored_pieces}
use Rattle.elf_update_in_place.proofs.writes.RebaseLaws.{stored_after}
use Rattle.elf_update_in_place.proofs.writes.PutLaws.{all_then}
use Rattle.elf_update_to.specs.elf_update_plan.Plans.{no_part}
use Rattle.elf_update_in_place.proofs.writes.WalkLaws.{walk_starts, gap_may, part_may, part_ends, gap_stops, part_stops, walk_goes_on, last_may, walk_ends, hand_on, long_on, puts_on}
use Rattle.elf_update_in_place.proofs.writes.walks.write_parts.Goals as goal

pub loop-i-init : goal.loop-i-init
loop-i-init g c = record {
  put =
      walk_starts g.D.Source g.D.Device c.args.old_end c.args.elf.now c.args.ground.kept c.args.ground.fill
      c.args.end (stored_pieces c.args.elf.now.o)
      c.args.plan.now c.args.changed.now c.requires.may c.requires.line;
  page = refl;
}

pub write_gap-requires-clause-may : goal.write_gap-requires-clause-may
write_gap-requires-clause-may g c =
    let l = c.loop-i in
    gap_may g.D.Source g.D.Device c.args.old_end c.args.elf.now c.args.ground.kept c.args.ground.fill c.args.end
    (stored_pieces c.args.elf.now.o)
    c.args.plan.now c.args.changed.now c.requires.may l.elf l.i l.from c.loop-i-test.true c.requires.count
    (All-get_or (HasLength (stored_pieces c.args.elf.now.o)) c.args.plan.now l.i no_part
    c.loop-i-test.true c.requires.long) l.invariant.put

pub returns-in-Err : goal.returns-in-Err
returns-in-Err g c =
    let l = c.loop-i in
    gap_stops g.D.Source g.D.Device c.args.old_end c.args.elf.now c.args.ground.kept c.args.ground.fill c.args.end
    (stored_pieces c.args.elf.now.o)
    c.args.plan.now c.args.changed.now c.requires.may c.in-Err.e l.elf c.write_gap.new.elf l.i
    l.from c.loop-i-test.true c.requires.count
    (All-get_or (HasLength (stored_pieces c.args.elf.now.o)) c.args.plan.now l.i no_part
    c.loop-i-test.true c.requires.long) l.invariant.put
    c.in-Err.ensures.puts

pub write_changed-requires-clause-base : goal.write_changed-requires-clause-base
write_changed-requires-clause-base g c = c.in_default.ensures.puts.change.base

pub write_changed-requires-clause-stored : goal.write_changed-requires-clause-stored
write_changed-requires-clause-stored g c =
    let l = c.loop-i in
    let both = all_then g.D.Source g.D.Device c.args.old_end tt (Ok tt) c.args.elf.now l.elf c.write_gap.new.elf
    l.invariant.put.done _ l.invariant.put.puts
    c.in_default.ensures.puts in
    stored_after c.args.elf.now c.write_gap.new.elf both.change.state both.change.long
    c.dirty-object.ensures.sound.object c.requires.stored

pub write_changed-requires-clause-held : goal.write_changed-requires-clause-held
write_changed-requires-clause-held g c = λ changes.
    let l = c.loop-i in
    let both = all_then g.D.Source g.D.Device c.args.old_end tt (Ok tt) c.args.elf.now l.elf c.write_gap.new.elf
    l.invariant.put.done _ l.invariant.put.puts
    c.in_default.ensures.puts in
    hand_on c.args.elf.now c.write_gap.new.elf c.args.plan.now c.args.changed.now l.i both.change.state
    c.loop-i-test.true c.requires.count c.requires.held changes

pub write_changed-requires-clause-long : goal.write_changed-requires-clause-long
write_changed-requires-clause-long g c =
    let l = c.loop-i in
    let both = all_then g.D.Source g.D.Device c.args.old_end tt (Ok tt) c.args.elf.now l.elf c.write_gap.new.elf
    l.invariant.put.done _ l.invariant.put.puts
    c.in_default.ensures.puts in
    long_on c.args.elf.now c.write_gap.new.elf both.change.state (get_or c.args.plan.now l.i no_part)
    (All-get_or (HasLength (stored_pieces c.args.elf.now.o)) c.args.plan.now l.i no_part
    c.loop-i-test.true c.requires.long)

pub write_changed-requires-clause-small : goal.write_changed-requires-clause-small
write_changed-requires-clause-small g c =
    let l = c.loop-i in
    let ends = part_ends g.D.Source g.D.Device c.args.old_end c.args.elf.now c.args.ground.kept c.args.ground.fill
    c.args.end (stored_pieces c.args.elf.now.o)
    c.args.plan.now c.args.changed.now c.requires.may l.elf l.i l.from c.loop-i-test.true
    (All-get_or (HasLength (stored_pieces c.args.elf.now.o)) c.args.plan.now l.i no_part
    c.loop-i-test.true c.requires.long) l.invariant.put in
    omega (arith, ends, c.ranges.end)

pub write_changed-requires-clause-may : goal.write_changed-requires-clause-may
write_changed-requires-clause-may g c = λ changes.
    let l = c.loop-i in
    part_may g.D.Source g.D.Device c.args.old_end c.args.elf.now c.args.ground.kept c.args.ground.fill c.args.end
    (stored_pieces c.args.elf.now.o)
    c.args.plan.now c.args.changed.now c.requires.may l.elf c.write_gap.new.elf l.i l.from
    c.loop-i-test.true c.requires.count
    (All-get_or (HasLength (stored_pieces c.args.elf.now.o)) c.args.plan.now l.i no_part
    c.loop-i-test.true c.requires.long) l.invariant.put
    c.in_default.ensures.puts changes

pub returns-in-Err-write_changed : goal.returns-in-Err-write_changed
returns-in-Err-write_changed g c =
    let l = c.loop-i in
    let both = all_then g.D.Source g.D.Device c.args.old_end tt (Ok tt) c.args.elf.now l.elf c.write_gap.new.elf
    l.invariant.put.done _ l.invariant.put.puts
    c.in_default.ensures.puts in
    part_stops g.D.Source g.D.Device c.args.old_end c.args.elf.now c.args.ground.kept c.args.ground.fill c.args.end
    (stored_pieces c.args.elf.now.o)
    c.args.plan.now c.args.changed.now c.requires.may c.in-Err-write_changed.e l.elf
    c.write_gap.new.elf c.write_changed.new.elf l.i l.from
    c.loop-i-test.true c.requires.count
    (All-get_or (HasLength (stored_pieces c.args.elf.now.o)) c.args.plan.now l.i no_part
    c.loop-i-test.true c.requires.long) l.invariant.put
    c.in_default.ensures.puts
    (puts_on g.D.Source g.D.Device c.args.old_end c.args.elf.now c.write_gap.new.elf both.change.state
    (Err c.in-Err-write_changed.e) c.write_changed.new.elf
    (get_or c.args.changed.now l.i false) c.args.ground.fill (get_or c.args.plan.now l.i no_part)
    (c.in-Err-write_changed.ensures.puts c.args.old_end))

pub overflow_add-from : goal.overflow_add-from
overflow_add-from g c =
    let l = c.loop-i in
    let ends = part_ends g.D.Source g.D.Device c.args.old_end c.args.elf.now c.args.ground.kept c.args.ground.fill
    c.args.end (stored_pieces c.args.elf.now.o)
    c.args.plan.now c.args.changed.now c.requires.may l.elf l.i l.from c.loop-i-test.true
    (All-get_or (HasLength (stored_pieces c.args.elf.now.o)) c.args.plan.now l.i no_part
    c.loop-i-test.true c.requires.long) l.invariant.put in
    omega (arith, ends, c.ranges.end)

pub loop-i-preserved : goal.loop-i-preserved
loop-i-preserved g c =
    let l = c.loop-i in
    let both = all_then g.D.Source g.D.Device c.args.old_end tt (Ok tt) c.args.elf.now l.elf c.write_gap.new.elf
    l.invariant.put.done _ l.invariant.put.puts
    c.in_default.ensures.puts in record {
      put =
          walk_goes_on g.D.Source g.D.Device c.args.old_end c.args.elf.now c.args.ground.kept c.args.ground.fill
          c.args.end (stored_pieces c.args.elf.now.o)
          c.args.plan.now c.args.changed.now c.requires.may l.elf c.write_gap.new.elf c.write_changed.new.elf l.i l.from
          c.loop-i-test.true c.requires.count
          (All-get_or (HasLength (stored_pieces c.args.elf.now.o)) c.args.plan.now l.i no_part
          c.loop-i-test.true c.requires.long) l.invariant.put
          c.in_default.ensures.puts
          (puts_on g.D.Source g.D.Device c.args.old_end c.args.elf.now c.write_gap.new.elf
          both.change.state (Ok tt) c.write_changed.new.elf
          (get_or c.args.changed.now l.i false) c.args.ground.fill
          (get_or c.args.plan.now l.i no_part)
          (c.in_default-write_changed.ensures.puts c.args.old_end));
      page = c.in_default-write_changed.ensures.page ∙ c.in_default.ensures.page ∙ l.invariant.page;
    }

pub write_gap-requires-2-clause-may : goal.write_gap-requires-2-clause-may
write_gap-requires-2-clause-may g c =
    let l = c.loop-i in
    last_may g.D.Source g.D.Device c.args.old_end c.args.elf.now c.args.ground.kept c.args.ground.fill c.args.end
    (stored_pieces c.args.elf.now.o)
    c.args.plan.now c.args.changed.now c.requires.may l.elf l.i l.from
    (omega (arith, c.loop-i-test.false)) c.requires.count l.invariant.put

pub returns : goal.returns
returns g c =
    let l = c.loop-i in
    walk_ends g.D.Source g.D.Device c.args.old_end c.args.elf.now c.args.ground.kept c.args.ground.fill c.args.end
    (stored_pieces c.args.elf.now.o)
    c.args.plan.now c.args.changed.now c.requires.may c.write_gap-2.result l.elf c.write_gap-2.new.elf l.i l.from
    (omega (arith, c.loop-i-test.false)) c.requires.count l.invariant.put c.write_gap-2.ensures.puts

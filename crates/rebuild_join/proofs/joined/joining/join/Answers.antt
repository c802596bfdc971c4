use Rattle.std.proofs.Common.{◌+◌, [], Ok, sym, ap, ◌∙◌}
use Rattle.std.specs.Prelude.{unwrap_or}
use Rattle.rebuild_keep.specs.elf_object.Object.{Object}
use Rattle.rebuild_keep.specs.rebuild_model.Rebuilt.{rebuilt_tail}
use Rattle.rebuild_keep.specs.rebuild_model.Split.{allocated, combined_tail, matches}
use Rattle.rebuild_keep.proofs.RebuildLaws.{tail_within}
use Rattle.rebuild_keep.proofs.WholeLaws.{created_stays}
use Rattle.rebuild_join.specs.Joined.Answers.{homes_of_stripped, stripped_due}
use Rattle.rebuild_join.proofs.joined.JoinLaws.{whole_tail, base_object, base_told, joins_after, joins_as, joins_stripped, stripped_due_is, base_less}
use Rattle.rebuild_join.proofs.joined.joining.join.Goals as goal

pub create_over_base-requires : goal.create_over_base-requires
create_over_base-requires g c =
    tail_within c.args.stripped.now.o [] c.tail_of-tail.result
    (c.tail_of-tail.ensures ∙ ap (rebuilt_tail c.args.stripped.now.o) c.none.ensures)

pub finish-requires-clause-matches : goal.finish-requires-clause-matches
finish-requires-clause-matches g c =
    ap (λ (o : Object). matches o c.args.debug.now.o)
    (base_object c.args.stripped.now c.create_over_base.new.elf c.in-Ok.ensures.stays)
    ∙ c.requires.matches

pub finish-requires-clause-loaded : goal.finish-requires-clause-loaded
finish-requires-clause-loaded g c =
    c.requires.loaded
    ∙ sym (ap allocated
    (base_object c.args.stripped.now c.create_over_base.new.elf c.in-Ok.ensures.stays))

pub finish-requires-clause-tail : goal.finish-requires-clause-tail
finish-requires-clause-tail g c =
    whole_tail c.args.stripped.now.o c.tail_of-tail.result
    (c.tail_of-tail.ensures ∙ ap (rebuilt_tail c.args.stripped.now.o) c.none.ensures)
    ∙ sym (ap combined_tail
    (base_object c.args.stripped.now c.create_over_base.new.elf c.in-Ok.ensures.stays))

pub finish-requires-clause-created : goal.finish-requires-clause-created
finish-requires-clause-created g c =
    created_stays c.args.stripped.now c.create_over_base.new.elf
    (base_object c.args.stripped.now c.create_over_base.new.elf c.in-Ok.ensures.stays)
    (base_told c.args.stripped.now c.create_over_base.new.elf c.in-Ok.ensures.stays)
    c.tail_of-tail.result c.in-Ok.made c.in-Ok.ensures.made

pub returns-in-Ok-clause-joins : goal.returns-in-Ok-clause-joins
returns-in-Ok-clause-joins g c =
    let o = c.args.stripped.now.o in
    let tail_is = whole_tail o c.tail_of-tail.result
    (c.tail_of-tail.ensures ∙ ap (rebuilt_tail o) c.none.ensures) in
    joins_as g.S.Source g.T.Source c.finish.result _
    (unwrap_or c.tail_of-tail.result 0 + homes_of_stripped o) (stripped_due o)
    c.args.stripped.now c.finish.new.stripped c.args.debug.now c.finish.new.debug
    (stripped_due_is o c.tail_of-tail.result tail_is)
    (joins_after g.S.Source g.T.Source (Ok c.in-Ok.made) c.finish.result _
    (unwrap_or c.tail_of-tail.result 0) (λ p. homes_of_stripped p) c.args.stripped.now
    c.create_over_base.new.elf c.finish.new.stripped c.args.debug.now c.finish.new.debug
    (record {
      object = base_object c.args.stripped.now c.create_over_base.new.elf c.in-Ok.ensures.stays;
      told = base_told c.args.stripped.now c.create_over_base.new.elf c.in-Ok.ensures.stays;
      source = c.in-Ok.ensures.asks;
    }) c.finish.ensures.joins)

pub returns-in-Err-clause-joins : goal.returns-in-Err-clause-joins
returns-in-Err-clause-joins g c =
    let o = c.args.stripped.now.o in
    let tail_is = whole_tail o c.tail_of-tail.result
    (c.tail_of-tail.ensures ∙ ap (rebuilt_tail o) c.none.ensures) in
    joins_stripped g.S.Source g.T.Source c.in-Err.e (unwrap_or c.tail_of-tail.result 0)
    (stripped_due o) c.args.stripped.now c.create_over_base.new.elf c.args.debug.now
    (base_less o c.tail_of-tail.result tail_is) c.in-Err.ensures.err
    (record {
      object = base_object c.args.stripped.now c.create_over_base.new.elf c.in-Err.ensures.stays;
      told = base_told c.args.stripped.now c.create_over_base.new.elf c.in-Err.ensures.stays;
      source = c.in-Err.ensures.asks;
    })

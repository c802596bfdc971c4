use Rattle.rebuild_keep.proofs.RebuildLaws.{fresh}
use Rattle.rebuild_join.proofs.joined.JoinLaws.{joins_refused, joins_placed, joins_unplaced, made_told}
use Rattle.rebuild_join.proofs.joined.joining.fill_and_place.Goals as goal

pub fill_joined-requires-clause-empty : goal.fill_joined-requires-clause-empty
fill_joined-requires-clause-empty g c =
    (fresh c.args.stripped.now.told c.args.stripped.now.o c.args.tail c.args.made.now
    c.requires.created).0

pub fill_joined-requires-clause-count : goal.fill_joined-requires-clause-count
fill_joined-requires-clause-count g c =
    (fresh c.args.stripped.now.told c.args.stripped.now.o c.args.tail c.args.made.now
    c.requires.created).1

pub fill_joined-requires-clause-class : goal.fill_joined-requires-clause-class
fill_joined-requires-clause-class g c =
    (fresh c.args.stripped.now.told c.args.stripped.now.o c.args.tail c.args.made.now
    c.requires.created).2

pub arrange-requires : goal.arrange-requires
arrange-requires g c = c.in_default.ensures.filled_is.index_is

pub returns-in-Err-clause-joins : goal.returns-in-Err-clause-joins
returns-in-Err-clause-joins g c =
    joins_refused g.S.Source g.T.Source c.args.stripped.now c.fill_joined.new.stripped
    c.args.debug.now c.fill_joined.new.debug c.args.made.now c.args.tail c.fill_joined.new.made
    c.in-Err.fault c.in-Err.ensures

pub returns-in-Ok-clause-joins : goal.returns-in-Ok-clause-joins
returns-in-Ok-clause-joins g c =
    joins_placed g.S.Source g.T.Source c.args.stripped.now c.fill_joined.new.stripped
    c.args.debug.now c.fill_joined.new.debug c.args.made.now c.args.tail c.fill_joined.new.made
    c.arrange.new.elf c.requires.tail c.requires.created c.in_default.ensures
    c.in-Ok.ensures.arranged

pub returns-in-Ok-clause-made : goal.returns-in-Ok-clause-made
returns-in-Ok-clause-made g c =
    made_told g.S.Source g.T.Source c.args.stripped.now c.fill_joined.new.stripped
    c.args.debug.now c.fill_joined.new.debug c.args.made.now c.args.tail c.fill_joined.new.made
    c.arrange.new.elf c.requires.tail c.requires.created c.in_default.ensures
    c.in-Ok.ensures.state

pub returns-in-Err-arrange-clause-joins : goal.returns-in-Err-arrange-clause-joins
returns-in-Err-arrange-clause-joins g c =
    joins_unplaced g.S.Source g.T.Source c.args.stripped.now c.fill_joined.new.stripped
    c.args.debug.now c.fill_joined.new.debug c.args.made.now c.args.tail c.fill_joined.new.made
    c.arrange.new.elf c.requires.tail c.requires.created c.in_default.ensures
    c.in-Err-arrange.e c.in-Err-arrange.ensures.arranged c.in-Err-arrange.ensures.answer

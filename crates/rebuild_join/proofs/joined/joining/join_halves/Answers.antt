use Rattle.std.proofs.Common.{◌≡◌, false, true, ◌∙◌}
use Rattle.rebuild_join.specs.Joined.Answers.{stripped_due}
use Rattle.rebuild_join.proofs.joined.MatchLaws.{match_told}
use Rattle.rebuild_join.proofs.joined.JoinLaws.{joins_wanted, joins_debug, joins_mismatch}
use Rattle.rebuild_join.proofs.joined.joining.join_halves.Goals as goal

pub returns-in-Err-clause-joins : goal.returns-in-Err-clause-joins
returns-in-Err-clause-joins g c =
    joins_wanted g.S.Source g.T.Source c.args.stripped.now c.args.debug.now
    (stripped_due c.args.stripped.now.o) c.in-Err.e c.in-Err.ensures.err

pub are_halves-requires : goal.are_halves-requires
are_halves-requires g c = c.as_slice.ensures ∙ c.in-Ok.ensures.ok

pub returns-in-Err-are_halves-clause-joins : goal.returns-in-Err-are_halves-clause-joins
returns-in-Err-are_halves-clause-joins g c =
    joins_debug g.S.Source g.T.Source c.args.stripped.now c.args.debug.now
    (stripped_due c.args.stripped.now.o) c.in-Err-are_halves.e c.in-Err-are_halves.ensures.err

pub returns-then-not-same-clause-joins : goal.returns-then-not-same-clause-joins
returns-then-not-same-clause-joins g c =
    let no : c.in-Ok-are_halves.same ≡ false = cc in
    joins_mismatch g.S.Source g.T.Source c.args.stripped.now c.args.debug.now
    (stripped_due c.args.stripped.now.o) (match_told c.args.stripped.now.o c.args.debug.now.o c.in-Ok-are_halves.same false
    c.in-Ok-are_halves.ensures.ok no)

pub join-requires-clause-matches : goal.join-requires-clause-matches
join-requires-clause-matches g c =
    let yes : c.in-Ok-are_halves.same ≡ true = cc in
    match_told c.args.stripped.now.o c.args.debug.now.o c.in-Ok-are_halves.same true
    c.in-Ok-are_halves.ensures.ok yes

pub join-requires-clause-loaded : goal.join-requires-clause-loaded
join-requires-clause-loaded g c = c.as_slice-2.ensures ∙ c.in-Ok.ensures.ok

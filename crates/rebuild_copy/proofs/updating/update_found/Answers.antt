use Rattle.rebuild_copy.proofs.RenameLaws.{want_unread}
use Rattle.rebuild_copy.specs.Steps.{ReadsNoMore}
use Rattle.rebuild_copy.proofs.TurnLaws.{ok_holds}
use Rattle.rebuild_copy.proofs.BytesLaws.{updated_to}
use Rattle.rebuild_copy.proofs.updating.update_found.Goals as goal

pub returns-in-Ok-clause-updates : goal.returns-in-Ok-clause-updates
returns-in-Ok-clause-updates c = λ o p is there index found.
    updated_to o p c.args.s c.args.change.now.name c.args.change.now.bytes c.update_at.new.x
    c.args.index.now c.index_again.new.index c.index_again.result found index
    (c.in-Ok.ensures.turns o p is (there, tt))
    (λ q names contents holds same.
    c.index_again.ensures.indexed o q names contents holds same) c.index_again.ensures.err

pub returns-in-Ok-clause-less : goal.returns-in-Ok-clause-less
returns-in-Ok-clause-less c =
    ok_holds c.index_again.result (ReadsNoMore c.args.x.now c.update_at.new.x)
    c.in-Ok.ensures.less

pub returns-in-Ok-clause-unread : goal.returns-in-Ok-clause-unread
returns-in-Ok-clause-unread c = want_unread c.index_again.result c.index_again.ensures.err

pub returns-in-Err-clause-updates : goal.returns-in-Err-clause-updates
returns-in-Err-clause-updates c = λ o p is there index found.
    record { turns = c.in-Err.ensures.turns o p is (there, tt); indexed = tt }

pub returns-in-Err-clause-unread : goal.returns-in-Err-clause-unread
returns-in-Err-clause-unread c = c.in-Err.ensures.unread

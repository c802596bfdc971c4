use Rattle.rebuild_copy.proofs.ArrangeLaws.{not_listable, placed_again, not_placed}
use Rattle.rebuild_copy.proofs.arranging.arrange_again.Goals as goal

pub returns-then-not-is_listable : goal.returns-then-not-is_listable
returns-then-not-is_listable c = not_listable c.args.x

pub returns-in-Ok : goal.returns-in-Ok
returns-in-Ok c =
    placed_again c.args.x c.in-Ok.listed (c.is_listable.ensures c.if-not-is_listable.false)
    c.in-Ok.ensures

pub returns-in-Err : goal.returns-in-Err
returns-in-Err c = not_placed c.args.x c.in-Err.e c.in-Err.ensures

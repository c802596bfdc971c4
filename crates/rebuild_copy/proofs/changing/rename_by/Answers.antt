use Rattle.std.proofs.Common.{◌≡◌, true, List, ℕ, sym, subst}
use Rattle.std.specs.Prelude.{All}
use Rattle.rebuild_select.specs.Sought.Names.{is_sought}
use Rattle.rebuild_copy.proofs.ChangeLaws.{named_then, named_end}
use Rattle.rebuild_copy.proofs.changing.rename_by.Goals as goal

pub plan_and_flag-requires-clause-sought : goal.plan_and_flag-requires-clause-sought
plan_and_flag-requires-clause-sought c =
    subst (λ (l : List (List ℕ)).
    All (λ n. is_sought l n.name ≡ true) c.args.changes.now.flags)
    (sym c.rename_sections.ensures.sought) c.requires.flagged

pub returns-in-Ok : goal.returns-in-Ok
returns-in-Ok c =
    named_then c.args.changes.now c.args.renewed c.args.x.now c.plan_and_flag.new.x c.in-Ok.marks
    c.plan_and_flag.result c.in-Ok.ensures.renames c.plan_and_flag.ensures

pub returns-in-Err : goal.returns-in-Err
returns-in-Err c =
    named_end c.args.changes.now c.args.renewed c.args.x.now c.args.x.now c.in-Err.fault
    c.in-Err.ensures.renames c.in-Err.ensures.unread

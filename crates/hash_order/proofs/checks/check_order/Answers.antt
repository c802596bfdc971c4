use Rattle.std.proofs.Common.{sym}
use Rattle.symbol_lookup.proofs.elf_object.AnswerLaws.{answered_value}
use Rattle.hash_order.proofs.CheckLaws.{order_refused}
use Rattle.hash_order.proofs.checks.check_order.Goals as goal

pub check_followers-requires-clause-passed : goal.check_followers-requires-clause-passed
check_followers-requires-clause-passed g c =
    (answered_value _ _ c.in-Ok.count (sym c.in-Ok.ensures.answer)).0

pub check_followers-requires-clause-count : goal.check_followers-requires-clause-count
check_followers-requires-clause-count g c =
    (answered_value _ _ c.in-Ok.count (sym c.in-Ok.ensures.answer)).1

pub returns-in-Err : goal.returns-in-Err
returns-in-Err g c =
    order_refused c.args.elf.now.o c.args.s.0 _ _ c.in-Err.e c.in-Err.ensures.answer

use Rattle.hash_order.proofs.CheckLaws.{follower_refused, all_passed}
use Rattle.hash_order.proofs.checks.check_followers.Goals as goal

pub returns-in-Ok : goal.returns-in-Ok
returns-in-Ok g c =
    all_passed c.args.elf.now.o c.args.s.0 c.requires.passed c.args.count _ c.requires.count
    c.in-Ok.ensures

pub returns-in-Err : goal.returns-in-Err
returns-in-Err g c =
    follower_refused c.args.elf.now.o c.args.s.0 c.requires.passed _ c.in-Err.e c.in-Err.ensures

use Rattle.selftest_tool.proofs.ToldLemmas.{first_found, first_stops, first_stopped}
use Rattle.selftest_tool.proofs.telling.find_first.Goals as goal

pub returns-in-Ok : goal.returns-in-Ok
returns-in-Ok g c =
    first_found g.S.Source c.args.n c.args.name.now c.args.elf.now c.find_linear.new.elf
    c.requires.passed c.in-Ok.found c.in-Ok.ensures.answer c.in-Ok.ensures.looks

pub stop_for-requires : goal.stop_for-requires
stop_for-requires g c =
    first_stops g.S.Source c.args.n c.args.name.now c.args.elf.now c.find_linear.new.elf
    c.requires.passed c.in-Err.e c.in-Err.ensures.answer

pub returns-in-Err : goal.returns-in-Err
returns-in-Err g c =
    first_stopped g.S.Source c.args.n c.args.name.now c.args.elf.now c.find_linear.new.elf
    c.requires.passed c.in-Err.e c.stop_for.result c.stop_for.ensures c.in-Err.ensures.looks

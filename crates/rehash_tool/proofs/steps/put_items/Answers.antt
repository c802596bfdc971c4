use Rattle.rehash_tool.proofs.CallLemmas.{put_done, put_refused}
use Rattle.rehash_tool.proofs.steps.put_items.Goals as goal

pub returns-in-Ok : goal.returns-in-Ok
returns-in-Ok g c =
    put_done g.S.Source c.args.n c.args.items c.args.elf.now c.replace.new.self
    c.in-Ok.ensures.answer c.in-Ok.ensures.state

pub returns-in-Err : goal.returns-in-Err
returns-in-Err g c =
    put_refused g.S.Source c.args.n c.args.items _ c.in-Err.e c.args.elf.now c.replace.new.self
    c.in-Err.ensures.answer c.in-Err.ensures.state

use Rattle.std.proofs.Common.{◌∙◌}
use Rattle.strtab_shared.proofs.bytes.ShareLaws.{closed_already, tail_closed, tail_open}
use Rattle.strtab_shared.proofs.bytes.sharing.close_tail.Goals as goal

pub returns-then-parts-held : goal.returns-then-parts-held
returns-then-parts-held c =
    closed_already c.args.parts.now c.requires (c.if-parts-held.true ∙ c.len-held.ensures)

pub returns-in-Ok : goal.returns-in-Ok
returns-in-Ok c =
    tail_closed c.args.parts.now c.push.new.self c.count_bytes-end.result c.len-held.result
    c.requires c.len-held.ensures c.count_bytes-end.ensures c.in-Ok.ensures.ok

pub returns-in-Err : goal.returns-in-Err
returns-in-Err c =
    tail_open c.args.parts.now c.push.new.self c.in-Err.e c.requires c.in-Err.ensures.unchanged
    c.in-Err.ensures.err

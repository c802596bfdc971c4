use Rattle.std.proofs.Common.{◌++◌}
use Rattle.strtab_shared.proofs.bytes.ShareLaws.{text_held, text_not_held}
use Rattle.strtab_shared.proofs.bytes.sharing.hold_closed.Goals as goal

pub returns-in-Ok : goal.returns-in-Ok
returns-in-Ok c =
    text_held c.args.parts.now c.extend.new.self c.args.bytes.now c.len-parts.result c.requires.kept
    c.requires.closed c.in-Ok.ensures.ok c.len-parts.ensures

pub returns-in-Err : goal.returns-in-Err
returns-in-Err c =
    text_not_held c.args.parts.now c.extend.new.self (c.args.parts.now.text ++ c.args.bytes.now)
    c.in-Err.e c.requires.kept c.in-Err.ensures.unchanged c.in-Err.ensures.err

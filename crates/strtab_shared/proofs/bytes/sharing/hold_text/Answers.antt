use Rattle.std.proofs.Common.{◌++◌}
use Rattle.strtab_shared.proofs.bytes.ShareLaws.{closes_stop, closes_then}
use Rattle.strtab_shared.proofs.bytes.sharing.hold_text.Goals as goal

pub returns-in-Err : goal.returns-in-Err
returns-in-Err c =
    closes_stop c.args.parts.now.text (c.args.parts.now.text ++ c.args.bytes.now) c.in-Err.e
    c.args.parts.now c.close_tail.new.parts c.in-Err.ensures

pub hold_closed-requires-clause-kept : goal.hold_closed-requires-clause-kept
hold_closed-requires-clause-kept c = c.in_default.ensures.kept

pub hold_closed-requires-clause-closed : goal.hold_closed-requires-clause-closed
hold_closed-requires-clause-closed c = c.in_default.ensures.closed

pub returns : goal.returns
returns c =
    closes_then c.args.bytes.now c.hold_closed.result c.args.parts.now c.close_tail.new.parts
    c.hold_closed.new.parts c.in_default.ensures.same c.in_default.ensures.text_is
    c.hold_closed.ensures

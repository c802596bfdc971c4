use Rattle.rebuild_keep.proofs.DecodeLaws.{decodes_value, decodes_error}
use Rattle.rebuild_keep.proofs.homes.decode.Goals as goal

pub returns-in-Ok : goal.returns-in-Ok
returns-in-Ok c =
    decodes_value c.args.s c.args.kind c.args.class c.args.order c.args.bytes.now c.in-Ok.items
    c.in-Ok.ensures.answer c.in-Ok.ensures.fits

pub returns-in-Err : goal.returns-in-Err
returns-in-Err c =
    decodes_error c.args.s c.args.kind c.args.class c.args.order c.args.bytes.now c.in-Err.e
    c.section_refusal.result c.in-Err.ensures.answer c.section_refusal.ensures

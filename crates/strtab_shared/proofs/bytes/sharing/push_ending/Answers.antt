use Rattle.std.proofs.Common.{drop, take}
use Rattle.strtab_shared.proofs.bytes.ShareLaws.{stretch_put, stretch_not_put}
use Rattle.strtab_shared.proofs.bytes.sharing.push_ending.Goals as goal

pub returns-in-Ok-clause-puts : goal.returns-in-Ok-clause-puts
returns-in-Ok-clause-puts c =
    stretch_put c.args.parts.now c.push.new.self c.args.at c.args.len c.args.end
    c.requires.kept c.requires.closed c.requires.inside c.requires.end c.ranges.end.fits
    c.in-Ok.ensures.ok

pub returns-in-Err-clause-puts : goal.returns-in-Err-clause-puts
returns-in-Err-clause-puts c =
    stretch_not_put c.args.parts.now c.push.new.self
    (take c.args.len (drop c.args.at c.args.parts.now.text)) c.in-Err.e c.requires.kept
    c.in-Err.ensures.unchanged c.in-Err.ensures.err

use Rattle.rebuild_image.proofs.ranges.RangeLaws.{pieces_count, no_pieces}
use Rattle.rebuild_image.proofs.ranges.parts.count_pieces.Goals as goal

pub returns-in-Some : goal.returns-in-Some
returns-in-Some c = λ held base. pieces_count held base c.args.range c.in-Some.field-0 c.in-Some.is

pub returns-in-None : goal.returns-in-None
returns-in-None c = λ held base. no_pieces held base c.args.range c.in-None.is

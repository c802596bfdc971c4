use Rattle.strtab_shared.proofs.bytes.StretchLaws.{rest_is}
use Rattle.strtab_shared.proofs.bytes.stretches.rest_of.Goals as goal

pub returns : goal.returns
returns c = rest_is c.args.text.now c.args.s c.args.at c.requires.begun c.requires.ends

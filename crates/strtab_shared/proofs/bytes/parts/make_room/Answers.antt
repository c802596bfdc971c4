use Rattle.strtab_shared.proofs.bytes.PartLaws.{same_kept, same_whole}
use Rattle.strtab_shared.proofs.bytes.parts.make_room.Goals as goal

pub returns-clause-kept : goal.returns-clause-kept
returns-clause-kept c =
    same_kept c.args.parts.now c.reserve.new.self c.requires c.reserve.ensures.same

pub returns-clause-same : goal.returns-clause-same
returns-clause-same c =
    same_whole c.args.parts.now c.reserve.new.self c.reserve.ensures.same

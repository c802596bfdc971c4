use Rattle.section_data.proofs.Runs.{all_pushed}
use Rattle.section_data.proofs.others.Others.push.Goals as goal

pub invariant_of-self : goal.invariant_of-self
invariant_of-self c =
    all_pushed c.push.result c.self.inside.short.items c.self.inside.middle.items
    c.self.inside.long.items c.self.inside.pieces.items c.push.new.self.items c.args.piece
    c.self.invariant c.push.ensures.items

use Rattle.rebuild_plan.proofs.KeepingLaws.{first_pushed}
use Rattle.rebuild_plan.proofs.ReadingLaws.{first_read}
use Rattle.rebuild_plan.proofs.contents.Contents.push_first.Goals as goal

pub returns-clause-first : goal.returns-clause-first
returns-clause-first c =
    first_pushed c.args.self.now c.push.new.self c.push.result c.requires.headers
    c.requires.sizes c.requires.ranges c.push.ensures.pushed

pub returns-clause-read : goal.returns-clause-read
returns-clause-read c =
    first_read c.args.self.now c.push.new.self c.push.result c.requires.ranges c.requires.kinds
    c.push.ensures.pushed

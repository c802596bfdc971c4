use Rattle.std.proofs.Common.{arith}
use Rattle.section_table.proofs.Present.{pushed, kept}
use Rattle.section_table.proofs.headers.Headers.push.Goals as goal

pub invariant_of-self : goal.invariant_of-self
invariant_of-self c =
    omega (arith, c.self.invariant, c.copy_once.ensures.room, c.push_to.ensures.room)

pub returns-clause-ok : goal.returns-clause-ok
returns-clause-ok c =
    pushed c.self.inside.opened c.self.inside.own.items c.args.self.now c.copy_once.new.own.items
    c.push_to.new.own.items c.copy_once.ensures.items c.self.view_is c.args.header
    c.push_to.result c.push_to.ensures.ok

pub returns-clause-unchanged : goal.returns-clause-unchanged
returns-clause-unchanged c =
    kept c.self.inside.opened c.self.inside.own.items c.args.self.now c.copy_once.new.own.items
    c.push_to.new.own.items c.copy_once.ensures.items c.self.view_is
    c.push_to.result c.push_to.ensures.unchanged

use Rattle.std.proofs.Common.{subst}
use Rattle.elf_descriptor.specs.State.{State}
use Rattle.elf_descriptor.specs.Tables.{IsHeldTable}
use Rattle.elf_descriptor.proofs.Tables.{held_table}
use Rattle.elf_descriptor.proofs.descriptor.Elf.holds_table.Goals as goal

pub returns : goal.returns
returns g c = λ is.
    subst (λ (st : State g.row.S.Denot). IsHeldTable st c.args.s.0 c.args.offset) c.self.view_is
    (held_table g.S.Source c.self.inside.src c.self.inside.body c.args.s.0 c.args.offset c.self.invariant (c.holds_table.ensures is))

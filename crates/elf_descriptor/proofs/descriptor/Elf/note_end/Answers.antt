use Rattle.std.proofs.Common.{◌≡◌, subst}
use Rattle.elf_descriptor.specs.State.{State}
use Rattle.elf_descriptor.specs.Views.{ready_of, state_of}
use Rattle.elf_descriptor.proofs.EditLaws.{same_elf, state_stepped}
use Rattle.elf_descriptor.proofs.Keeping.{same_steps}
use Rattle.elf_descriptor.proofs.descriptor.Elf.note_end.Goals as goal

pub invariant_of-self : goal.invariant_of-self
invariant_of-self g c =
    let old = c.self.inside.body in
    let new = c.note_end.new.self in
    same_elf (g.S.Source.holds c.self.inside.src) (g.S.Source.size c.self.inside.src)
    (ready_of old) old new (same_steps old new c.args.s.0 c.note_end.ensures) c.self.invariant

pub returns : goal.returns
returns g c =
    let old = c.self.inside.body in
    let new = c.note_end.new.self in
    subst (λ (st : State g.row.S.Denot). state_of g.S.Source c.self.inside.src new ≡ st)
    c.self.view_is
    (state_stepped g.S.Source c.self.inside.src (λ o. o) (ready_of old) old new
    (same_steps old new c.args.s.0 c.note_end.ensures))

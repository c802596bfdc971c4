use Rattle.std.proofs.Common.{◌≡◌, ◌∙◌, false, sym, subst}
use Rattle.elf_descriptor.specs.Fronts.{HoldsBaseAlone}
use Rattle.elf_descriptor.specs.State.{State}
use Rattle.elf_descriptor.proofs.SpareCalls.{holds_alone}
use Rattle.elf_descriptor.proofs.descriptor.Elf.dirty.Goals as goal

pub returns-clause-whole : goal.returns-clause-whole
returns-clause-whole g c =
    let image = g.S.Source.holds c.self.inside.src in
    let size = g.S.Source.size c.self.inside.src in
    let Alone : State g.row.S.Denot → Type 0 =
    λ st. c.dirty.result ≡ false → HoldsBaseAlone g.S.Source st in
    subst Alone c.self.view_is
    (λ clean. holds_alone g.S.Source c.self.inside.src c.self.inside.body
    c.self.inside.body c.self.invariant (sym (c.dirty.ensures image size) ∙ clean))

use Rattle.std.proofs.Common.{◌≡◌, true, subst}
use Rattle.std.specs.Prelude.{OnOk, OnErr}
use Rattle.elf_descriptor.specs.State.{State}
use Rattle.elf_descriptor.specs.Views.{state_of}
use Rattle.elf_descriptor.specs.Fronts.{HoldsBase}
use Rattle.elf_descriptor.proofs.SpareCalls.{reserved_elf, reserved_state, reserved_holds, reserved_same}
use Rattle.elf_descriptor.proofs.descriptor.Elf.reserve.Goals as goal

pub reserve-requires : goal.reserve-requires
reserve-requires g c = c.self.invariant.counts

pub invariant_of-self : goal.invariant_of-self
invariant_of-self g c =
    reserved_elf g.S.Source c.self.inside.src c.self.inside.body c.reserve.new.self c.self.invariant c.reserve.result c.reserve.ensures.ok c.reserve.ensures.same

pub returns-clause-ok : goal.returns-clause-ok
returns-clause-ok g c =
    subst (λ (st : State g.row.S.Denot). OnOk c.reserve.result (state_of g.S.Source c.self.inside.src c.reserve.new.self ≡ record st { ready = true })) c.self.view_is
    (reserved_state g.S.Source c.self.inside.src c.self.inside.body c.reserve.new.self c.self.invariant c.reserve.result c.reserve.ensures.ok)

pub returns-clause-base : goal.returns-clause-base
returns-clause-base g c =
    subst (λ (st : State g.row.S.Denot). OnOk c.reserve.result (HoldsBase g.S.Source st)) c.self.view_is
    (reserved_holds g.S.Source c.self.inside.src c.self.inside.body c.reserve.new.self c.self.invariant c.reserve.result c.reserve.ensures.ok)

pub returns-clause-same : goal.returns-clause-same
returns-clause-same g c =
    subst (λ (st : State g.row.S.Denot). OnErr c.reserve.result (state_of g.S.Source c.self.inside.src c.reserve.new.self ≡ st)) c.self.view_is
    (reserved_same g.S.Source c.self.inside.src c.self.inside.body c.reserve.new.self c.self.invariant c.reserve.result c.reserve.ensures.same)

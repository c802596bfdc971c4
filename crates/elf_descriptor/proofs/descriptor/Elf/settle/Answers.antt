use Rattle.std.proofs.Common.{◌≡◌, true, length, None, sym, subst}
use Rattle.std.specs.Prelude.{IsTrue, IfSome}
use Rattle.section_table.specs.elf_object.Object.{is_dirty}
use Rattle.section_table.specs.elf_object.Image.{image}
use Rattle.section_table.specs.elf_object.Layout.{placed}
use Rattle.section_table.specs.elf_object.Refusal.{refusal}
use Rattle.elf_descriptor.specs.State.{State}
use Rattle.elf_descriptor.specs.Views.{state_of}
use Rattle.elf_descriptor.specs.Settling.{settled_state}
use Rattle.elf_descriptor.proofs.Warming.{are_numbered}
use Rattle.elf_descriptor.proofs.SettleCalls.{settles_all}
use Rattle.elf_descriptor.proofs.descriptor.Elf.settle.Goals as goal

pub settle-requires-clause-numbered : goal.settle-requires-clause-numbered
settle-requires-clause-numbered g c =
    are_numbered (g.D.Source.holds c.self.inside.src) (g.D.Source.size c.self.inside.src)
    c.self.inside.body c.self.invariant

pub settle-requires-clause-ready : goal.settle-requires-clause-ready
settle-requires-clause-ready g c =
    subst (λ (st : State g.row.D.Denot). IsTrue st.ready) (sym c.self.view_is) c.requires.ready

pub invariant_of-self : goal.invariant_of-self
invariant_of-self g c =
    (settles_all g.D.Source c.self.inside.src c.self.inside.body c.settle.new.self
    c.len-size.result c.self.invariant
    (subst (λ (st : State g.row.D.Denot). is_dirty st.o ≡ true) (sym c.self.view_is)
    c.requires.dirty)
    (subst (λ (st : State g.row.D.Denot). refusal st.o ≡ None) (sym c.self.view_is)
    c.requires.passed)
    (subst (λ (st : State g.row.D.Denot). placed st.o ≡ st.o) (sym c.self.view_is)
    c.requires.stored)
    c.settling_is_sound.ensures
    (subst (λ (st : State g.row.D.Denot). g.D.Source.size st.source ≡ length (image st.o))
    (sym c.self.view_is) c.requires.long)
    (subst (λ (st : State g.row.D.Denot). IfSome (g.D.Source.holds st.source)
    (λ held. held ≡ image st.o)) (sym c.self.view_is) c.requires.holds)
    c.len-size.ensures.size c.settle.ensures).0

pub returns : goal.returns
returns g c =
    subst (λ (st : State g.row.D.Denot).
    state_of g.D.Source c.self.inside.src c.settle.new.self ≡ settled_state st) c.self.view_is
    (settles_all g.D.Source c.self.inside.src c.self.inside.body c.settle.new.self
    c.len-size.result c.self.invariant
    (subst (λ (st : State g.row.D.Denot). is_dirty st.o ≡ true) (sym c.self.view_is)
    c.requires.dirty)
    (subst (λ (st : State g.row.D.Denot). refusal st.o ≡ None) (sym c.self.view_is)
    c.requires.passed)
    (subst (λ (st : State g.row.D.Denot). placed st.o ≡ st.o) (sym c.self.view_is)
    c.requires.stored)
    c.settling_is_sound.ensures
    (subst (λ (st : State g.row.D.Denot). g.D.Source.size st.source ≡ length (image st.o))
    (sym c.self.view_is) c.requires.long)
    (subst (λ (st : State g.row.D.Denot). IfSome (g.D.Source.holds st.source)
    (λ held. held ≡ image st.o)) (sym c.self.view_is) c.requires.holds)
    c.len-size.ensures.size c.settle.ensures).1

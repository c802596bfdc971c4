use Rattle.std.proofs.Common.{◌≡◌, true, None, sym, subst}
use Rattle.section_table.specs.elf_object.Object.{is_dirty}
use Rattle.section_table.specs.elf_object.Layout.{placed, places_of}
use Rattle.section_table.specs.elf_object.Refusal.{refusal}
use Rattle.elf_descriptor.specs.State.{State}
use Rattle.elf_descriptor.specs.Views.{state_of}
use Rattle.elf_descriptor.proofs.Placing.{places_for, placed_elf, placed_state}
use Rattle.elf_descriptor.proofs.descriptor.Elf.store_places.Goals as goal

pub store_places-requires-clause-places : goal.store_places-requires-clause-places
store_places-requires-clause-places g c =
    places_for _ _ c.self.inside.body c.args.places.now
    (subst (λ (st : State g.row.S.Denot). c.args.places.now ≡ places_of st.o) (sym c.self.view_is) c.requires.places)

pub invariant_of-self : goal.invariant_of-self
invariant_of-self g c =
    placed_elf g.S.Source c.self.inside.src c.self.inside.body c.store_places.new.self c.args.places.now c.self.invariant c.sizes_are_lengths.ensures
    (subst (λ (st : State g.row.S.Denot). is_dirty st.o ≡ true) (sym c.self.view_is) c.requires.dirty)
    (subst (λ (st : State g.row.S.Denot). refusal st.o ≡ None) (sym c.self.view_is) c.requires.passed)
    (subst (λ (st : State g.row.S.Denot). c.args.places.now ≡ places_of st.o) (sym c.self.view_is) c.requires.places)
    c.store_places.ensures
    c.every_step_is_sound.ensures.object.update_null c.every_step_is_sound.ensures.tied.update_null c.every_step_is_sound.ensures.based.update_null

pub returns : goal.returns
returns g c =
    subst (λ (st : State g.row.S.Denot). state_of g.S.Source c.self.inside.src c.store_places.new.self ≡ record st { o = placed st.o }) c.self.view_is
    (placed_state g.S.Source c.self.inside.src c.self.inside.body c.store_places.new.self c.args.places.now c.self.invariant c.sizes_are_lengths.ensures
    (subst (λ (st : State g.row.S.Denot). is_dirty st.o ≡ true) (sym c.self.view_is) c.requires.dirty)
    (subst (λ (st : State g.row.S.Denot). refusal st.o ≡ None) (sym c.self.view_is) c.requires.passed)
    (subst (λ (st : State g.row.S.Denot). c.args.places.now ≡ places_of st.o) (sym c.self.view_is) c.requires.places)
    c.store_places.ensures)

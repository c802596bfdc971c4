use Rattle.std.proofs.Common.{◌≡◌, List, refl, ◌∙◌, subst}
use Rattle.elf_types.specs.declared.records.Phdr.{Phdr}
use Rattle.elf_types.specs.Lists.{refilled}
use Rattle.section_table.specs.elf_object.Calls as calls
use Rattle.elf_descriptor.specs.State.{State}
use Rattle.elf_descriptor.specs.Views.{state_of}
use Rattle.elf_descriptor.specs.Edits.{stepped}
use Rattle.elf_descriptor.specs.LentSegments.{refilled_body}
use Rattle.elf_descriptor.proofs.EditSegments.{refilled_elf, refilled_state, segments_are}
use Rattle.elf_descriptor.proofs.descriptor.Elf.phdrs_mut.Goals as goal

pub invariant_of-self-lent : goal.invariant_of-self-lent
invariant_of-self-lent g c = λ left.
    refilled_elf (g.S.Source.holds c.self.inside.src) (g.S.Source.size c.self.inside.src) c.self.inside.body left
    c.every_step_is_sound.ensures.object.phdrs_mut c.every_step_is_sound.ensures.tied.phdrs_mut c.every_step_is_sound.ensures.based.phdrs_mut c.self.invariant

pub returns : goal.returns
returns g c =
    let left_is : State g.row.S.Denot → Type 0 = λ st. (left : List Phdr) → state_of g.S.Source c.self.inside.src (refilled_body c.self.inside.body left) ≡ stepped (calls.phdrs_mut (refilled st.o.phdrs left)) st in
    let lent_is : State g.row.S.Denot → Type 0 = λ st. c.phdrs_mut.result.now ≡ st.o.phdrs in (
      (refl, subst left_is c.self.view_is (λ left. refilled_state g.S.Source c.self.inside.src c.self.inside.body left c.self.invariant.counts)),
      record { lends = tt; value = subst lent_is c.self.view_is (c.phdrs_mut.ensures.value ∙ segments_are (g.S.Source.holds c.self.inside.src) (g.S.Source.size c.self.inside.src) c.self.inside.body) },
    )

use Rattle.std.proofs.Common.{◌≡◌, false, subst}
use Rattle.section_table.specs.elf_object.Calls as calls
use Rattle.elf_descriptor.specs.State.{State}
use Rattle.elf_descriptor.specs.Views.{state_of}
use Rattle.elf_descriptor.specs.Edits.{StepsTo, stepped}
use Rattle.elf_descriptor.proofs.EditLaws.{stated_elf, steps_to}
use Rattle.elf_descriptor.proofs.descriptor.Elf.update_ehdr.Goals as goal

pub invariant_of-self : goal.invariant_of-self
invariant_of-self g c =
    stated_elf (calls.update_ehdr c.args.h.now) (g.S.Source.holds c.self.inside.src) (g.S.Source.size c.self.inside.src) c.update_ehdr.result false c.self.inside.body c.update_ehdr.new.self
    (c.every_step_is_sound.ensures.object.update_ehdr c.args.h.now c.ehdr_is_ranged.ensures) (c.every_step_is_sound.ensures.tied.update_ehdr c.args.h.now) (c.every_step_is_sound.ensures.based.update_ehdr c.args.h.now)
    (c.update_ehdr.ensures.answer (g.S.Source.holds c.self.inside.src) (g.S.Source.size c.self.inside.src)) c.update_ehdr.ensures.step c.update_ehdr.ensures.unchanged c.self.invariant

pub returns-clause-answer : goal.returns-clause-answer
returns-clause-answer g c =
    subst (λ (st : State g.row.S.Denot). c.update_ehdr.result ≡ (calls.update_ehdr c.args.h.now).answer st.o) c.self.view_is
    (c.update_ehdr.ensures.answer (g.S.Source.holds c.self.inside.src) (g.S.Source.size c.self.inside.src))

pub returns-clause-state : goal.returns-clause-state
returns-clause-state g c =
    subst (λ (st : State g.row.S.Denot). StepsTo c.update_ehdr.result st (state_of g.S.Source c.self.inside.src c.update_ehdr.new.self) (stepped (calls.update_ehdr c.args.h.now) st)) c.self.view_is
    (steps_to g.S.Source c.self.inside.src (calls.update_ehdr c.args.h.now) c.update_ehdr.result c.self.inside.body c.update_ehdr.new.self c.update_ehdr.ensures.step c.update_ehdr.ensures.unchanged)

use Rattle.std.proofs.Common.{◌≡◌, false, subst}
use Rattle.section_table.specs.elf_object.Calls as calls
use Rattle.elf_descriptor.specs.State.{State}
use Rattle.elf_descriptor.specs.Views.{state_of}
use Rattle.elf_descriptor.specs.Edits.{StepsTo, stepped}
use Rattle.elf_descriptor.proofs.EditLaws.{stated_elf, steps_to}
use Rattle.elf_descriptor.proofs.descriptor.Elf.update_phdr.Goals as goal

pub invariant_of-self : goal.invariant_of-self
invariant_of-self g c =
    stated_elf (calls.update_phdr c.args.i c.args.p.now) (g.S.Source.holds c.self.inside.src) (g.S.Source.size c.self.inside.src) c.update_phdr.result false c.self.inside.body c.update_phdr.new.self
    (c.every_step_is_sound.ensures.object.update_phdr c.args.i c.args.p.now) (c.every_step_is_sound.ensures.tied.update_phdr c.args.i c.args.p.now) (c.every_step_is_sound.ensures.based.update_phdr c.args.i c.args.p.now)
    (c.update_phdr.ensures.answer (g.S.Source.holds c.self.inside.src) (g.S.Source.size c.self.inside.src)) c.update_phdr.ensures.step c.update_phdr.ensures.unchanged c.self.invariant

pub returns-clause-answer : goal.returns-clause-answer
returns-clause-answer g c =
    subst (λ (st : State g.row.S.Denot). c.update_phdr.result ≡ (calls.update_phdr c.args.i c.args.p.now).answer st.o) c.self.view_is
    (c.update_phdr.ensures.answer (g.S.Source.holds c.self.inside.src) (g.S.Source.size c.self.inside.src))

pub returns-clause-state : goal.returns-clause-state
returns-clause-state g c =
    subst (λ (st : State g.row.S.Denot). StepsTo c.update_phdr.result st (state_of g.S.Source c.self.inside.src c.update_phdr.new.self) (stepped (calls.update_phdr c.args.i c.args.p.now) st)) c.self.view_is
    (steps_to g.S.Source c.self.inside.src (calls.update_phdr c.args.i c.args.p.now) c.update_phdr.result c.self.inside.body c.update_phdr.new.self c.update_phdr.ensures.step c.update_phdr.ensures.unchanged)

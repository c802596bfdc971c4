use Rattle.std.proofs.Common.{◌≡◌, subst}
use Rattle.section_table.specs.elf_object.Calls as calls
use Rattle.elf_descriptor.specs.State.{State}
use Rattle.elf_descriptor.specs.Views.{state_of, ready_of}
use Rattle.elf_descriptor.specs.Edits.{StepsTo, flagged}
use Rattle.elf_descriptor.proofs.EditLaws.{stated_elf, flags_to}
use Rattle.elf_descriptor.proofs.descriptor.Elf.flag.Goals as goal

pub invariant_of-self : goal.invariant_of-self
invariant_of-self g c =
    stated_elf (calls.flag c.args.part c.args.set c.args.bits) (g.S.Source.holds c.self.inside.src) (g.S.Source.size c.self.inside.src) c.flag.result (ready_of c.self.inside.body) c.self.inside.body c.flag.new.self
    (c.every_step_is_sound.ensures.object.flag c.args.part c.args.set c.args.bits) (c.every_step_is_sound.ensures.tied.flag c.args.part c.args.set c.args.bits) (c.every_step_is_sound.ensures.based.flag c.args.part c.args.set c.args.bits)
    (c.flag.ensures.answer (g.S.Source.holds c.self.inside.src) (g.S.Source.size c.self.inside.src)) c.flag.ensures.step c.flag.ensures.unchanged c.self.invariant

pub returns-clause-answer : goal.returns-clause-answer
returns-clause-answer g c =
    subst (λ (st : State g.row.S.Denot). c.flag.result ≡ (calls.flag c.args.part c.args.set c.args.bits).answer st.o) c.self.view_is
    (c.flag.ensures.answer (g.S.Source.holds c.self.inside.src) (g.S.Source.size c.self.inside.src))

pub returns-clause-state : goal.returns-clause-state
returns-clause-state g c =
    subst (λ (st : State g.row.S.Denot). StepsTo c.flag.result st (state_of g.S.Source c.self.inside.src c.flag.new.self) (flagged (calls.flag c.args.part c.args.set c.args.bits) st)) c.self.view_is
    (flags_to g.S.Source c.self.inside.src (calls.flag c.args.part c.args.set c.args.bits) c.flag.result c.self.inside.body c.flag.new.self c.flag.ensures.step c.flag.ensures.unchanged)

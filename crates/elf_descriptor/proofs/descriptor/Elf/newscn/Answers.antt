use Rattle.std.proofs.Common.{subst}
use Rattle.section_table.specs.elf_object.Words.{Edits, result_map}
use Rattle.section_table.specs.elf_object.Calls as calls
use Rattle.elf_descriptor.specs.State.{State}
use Rattle.elf_descriptor.specs.Views.{state_of}
use Rattle.elf_descriptor.specs.Edits.{grown, section_number}
use Rattle.elf_descriptor.proofs.EditSections.{grown_by, grows_to, viewed_stated}
use Rattle.elf_descriptor.proofs.descriptor.Elf.newscn.Goals as goal

pub invariant_of-self : goal.invariant_of-self
invariant_of-self g c =
    grown_by calls.newscn section_number (g.S.Source.holds c.self.inside.src) (g.S.Source.size c.self.inside.src) c.newscn.result c.self.inside.body c.newscn.new.self
    c.every_step_is_sound.ensures.object.newscn c.every_step_is_sound.ensures.tied.newscn c.every_step_is_sound.ensures.based.newscn
    (viewed_stated section_number c.newscn.result _ (c.newscn.ensures.answer (g.S.Source.holds c.self.inside.src) (g.S.Source.size c.self.inside.src)))
    c.newscn.ensures.grown c.newscn.ensures.unchanged c.self.invariant

pub returns : goal.returns
returns g c =
    subst (λ (st : State g.row.S.Denot). Edits (result_map section_number c.newscn.result) st (state_of g.S.Source c.self.inside.src c.newscn.new.self) (calls.newscn.answer st.o) (grown calls.newscn st)) c.self.view_is
    (grows_to g.S.Source c.self.inside.src calls.newscn section_number c.newscn.result c.self.inside.body c.newscn.new.self
    (c.newscn.ensures.answer (g.S.Source.holds c.self.inside.src) (g.S.Source.size c.self.inside.src)) c.newscn.ensures.grown c.newscn.ensures.unchanged)

use Rattle.std.proofs.Common.{◌≡◌, length, subst}
use Rattle.std.specs.Prelude.{OnErr}
use Rattle.section_table.specs.elf_object.Words.{Edits}
use Rattle.section_table.specs.elf_object.Calls as calls
use Rattle.elf_descriptor.specs.State.{State}
use Rattle.elf_descriptor.specs.Views.{state_of}
use Rattle.elf_descriptor.specs.Edits.{nulled}
use Rattle.elf_descriptor.proofs.EditSections.{null_elf, nulls_to, nulls_where}
use Rattle.elf_descriptor.proofs.descriptor.Elf.newnull.Goals as goal

pub invariant_of-self : goal.invariant_of-self
invariant_of-self g c =
    null_elf (g.S.Source.holds c.self.inside.src) (g.S.Source.size c.self.inside.src) c.newnull.result c.self.inside.body c.newnull.new.self
    c.every_step_is_sound.ensures.object.newnull c.every_step_is_sound.ensures.tied.newnull c.every_step_is_sound.ensures.based.newnull
    (c.newnull.ensures.first, c.newnull.ensures.same, c.newnull.ensures.unchanged) c.self.invariant

pub returns-clause-answer : goal.returns-clause-answer
returns-clause-answer g c =
    subst (λ (st : State g.row.S.Denot). Edits c.newnull.result st (state_of g.S.Source c.self.inside.src c.newnull.new.self) (calls.newnull.answer st.o) (nulled st)) c.self.view_is
    (nulls_to g.S.Source c.self.inside.src c.newnull.result c.self.inside.body c.newnull.new.self c.newnull.ensures.err
    (c.newnull.ensures.first, c.newnull.ensures.same, c.newnull.ensures.unchanged))

pub returns-clause-wants : goal.returns-clause-wants
returns-clause-wants g c =
    subst (λ (st : State g.row.S.Denot). OnErr c.newnull.result (length st.o.sections ≡ 0)) c.self.view_is
    (nulls_where g.S.Source c.self.inside.src c.newnull.result c.self.inside.body c.newnull.ensures.wants)

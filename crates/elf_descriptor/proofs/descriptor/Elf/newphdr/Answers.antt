use Rattle.std.proofs.Common.{false, subst}
use Rattle.section_table.specs.elf_object.Words.{Edits}
use Rattle.section_table.specs.elf_object.Calls as calls
use Rattle.elf_descriptor.specs.State.{State}
use Rattle.elf_descriptor.specs.Views.{state_of}
use Rattle.elf_descriptor.specs.Edits.{stepped}
use Rattle.elf_descriptor.proofs.EditLaws.{kept_elf}
use Rattle.elf_descriptor.proofs.EditGrows.{edits_to, edits_stated}
use Rattle.elf_descriptor.proofs.descriptor.Elf.newphdr.Goals as goal

pub invariant_of-self : goal.invariant_of-self
invariant_of-self g c =
    kept_elf (calls.newphdr c.args.n) (g.S.Source.holds c.self.inside.src) (g.S.Source.size c.self.inside.src) c.newphdr.result false c.self.inside.body c.newphdr.new.self
    (c.every_step_is_sound.ensures.object.newphdr c.args.n) (c.every_step_is_sound.ensures.tied.newphdr c.args.n) (c.every_step_is_sound.ensures.based.newphdr c.args.n)
    (edits_stated c.newphdr.result _ (c.newphdr.ensures.answer (g.S.Source.holds c.self.inside.src) (g.S.Source.size c.self.inside.src)))
    c.newphdr.ensures.step c.newphdr.ensures.unchanged c.self.invariant

pub returns : goal.returns
returns g c =
    subst (λ (st : State g.row.S.Denot). Edits c.newphdr.result st (state_of g.S.Source c.self.inside.src c.newphdr.new.self) ((calls.newphdr c.args.n).answer st.o) (stepped (calls.newphdr c.args.n) st)) c.self.view_is
    (edits_to g.S.Source c.self.inside.src (calls.newphdr c.args.n) c.newphdr.result c.self.inside.body c.newphdr.new.self
    (c.newphdr.ensures.answer (g.S.Source.holds c.self.inside.src) (g.S.Source.size c.self.inside.src)) c.newphdr.ensures.step c.newphdr.ensures.unchanged)

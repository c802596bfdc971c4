use Rattle.std.proofs.Common.{◌≡◌, false, subst}
use Rattle.section_table.specs.elf_object.Words.{handing_back}
use Rattle.section_table.specs.elf_object.Calls as calls
use Rattle.elf_descriptor.specs.State.{State}
use Rattle.elf_descriptor.specs.Views.{state_of}
use Rattle.elf_descriptor.specs.Edits.{StepsTo, stepped}
use Rattle.elf_descriptor.proofs.EditLaws.{kept_elf, kept_to, numbered}
use Rattle.elf_descriptor.proofs.EditPieces.{answered_back}
use Rattle.elf_descriptor.proofs.descriptor.Elf.replace.Goals as goal

pub replace-requires-clause-numbered : goal.replace-requires-clause-numbered
replace-requires-clause-numbered g c = numbered _ _ c.self.inside.body c.args.d.section c.self.invariant

pub invariant_of-self : goal.invariant_of-self
invariant_of-self g c =
    kept_elf (calls.replace c.args.d.section c.args.d.piece c.args.items) (g.S.Source.holds c.self.inside.src) (g.S.Source.size c.self.inside.src) c.replace.result false c.self.inside.body c.replace.new.self
    (c.every_step_is_sound.ensures.object.replace c.args.d.section c.args.d.piece c.args.items) (c.every_step_is_sound.ensures.tied.replace c.args.d.section c.args.d.piece c.args.items)
    (c.every_step_is_sound.ensures.based.replace c.args.d.section c.args.d.piece c.args.items)
    (answered_back c.args.items _ c.replace.result (c.replace.ensures.answer (g.S.Source.holds c.self.inside.src) (g.S.Source.size c.self.inside.src)))
    c.replace.ensures.step c.replace.ensures.unchanged c.self.invariant

pub returns-clause-answer : goal.returns-clause-answer
returns-clause-answer g c =
    subst (λ (st : State g.row.S.Denot). c.replace.result ≡ handing_back c.args.items ((calls.replace c.args.d.section c.args.d.piece c.args.items).answer st.o)) c.self.view_is
    (c.replace.ensures.answer (g.S.Source.holds c.self.inside.src) (g.S.Source.size c.self.inside.src))

pub returns-clause-state : goal.returns-clause-state
returns-clause-state g c =
    subst (λ (st : State g.row.S.Denot). StepsTo c.replace.result st (state_of g.S.Source c.self.inside.src c.replace.new.self) (stepped (calls.replace c.args.d.section c.args.d.piece c.args.items) st)) c.self.view_is
    (kept_to g.S.Source c.self.inside.src (calls.replace c.args.d.section c.args.d.piece c.args.items) c.replace.result c.self.inside.body c.replace.new.self c.replace.ensures.step c.replace.ensures.unchanged)

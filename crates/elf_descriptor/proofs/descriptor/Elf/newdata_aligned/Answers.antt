use Rattle.std.proofs.Common.{false, subst}
use Rattle.section_table.specs.elf_object.Words.{EditsWith, result_map}
use Rattle.section_table.specs.elf_object.Calls as calls
use Rattle.elf_descriptor.specs.State.{State}
use Rattle.elf_descriptor.specs.Views.{state_of}
use Rattle.elf_descriptor.specs.Edits.{stepped, numbers_of}
use Rattle.elf_descriptor.proofs.EditLaws.{kept_by, numbered}
use Rattle.elf_descriptor.proofs.EditAppends.{edits_with_to, with_stated}
use Rattle.elf_descriptor.proofs.descriptor.Elf.newdata_aligned.Goals as goal

pub newdata-requires-clause-numbered : goal.newdata-requires-clause-numbered
newdata-requires-clause-numbered g c = numbered _ _ c.self.inside.body c.args.s.0 c.self.invariant

pub invariant_of-self : goal.invariant_of-self
invariant_of-self g c =
    kept_by (calls.newdata_aligned c.args.s.0 c.args.items c.args.align) numbers_of (g.S.Source.holds c.self.inside.src) (g.S.Source.size c.self.inside.src) c.newdata.result false c.self.inside.body c.newdata.new.self
    (c.every_step_is_sound.ensures.object.newdata c.args.s.0 c.args.items c.args.align) (c.every_step_is_sound.ensures.tied.newdata c.args.s.0 c.args.items c.args.align)
    (c.every_step_is_sound.ensures.based.newdata c.args.s.0 c.args.items c.args.align)
    (with_stated numbers_of c.newdata.result c.args.items _ (c.newdata.ensures.answer (g.S.Source.holds c.self.inside.src) (g.S.Source.size c.self.inside.src)))
    c.newdata.ensures.step c.newdata.ensures.unchanged c.self.invariant

pub returns : goal.returns
returns g c =
    subst (λ (st : State g.row.S.Denot). EditsWith (result_map numbers_of c.newdata.result) c.args.items st (state_of g.S.Source c.self.inside.src c.newdata.new.self)
    ((calls.newdata_aligned c.args.s.0 c.args.items c.args.align).answer st.o) (stepped (calls.newdata_aligned c.args.s.0 c.args.items c.args.align) st)) c.self.view_is
    (edits_with_to g.S.Source c.self.inside.src (calls.newdata_aligned c.args.s.0 c.args.items c.args.align) numbers_of c.newdata.result c.args.items c.self.inside.body c.newdata.new.self
    (c.newdata.ensures.answer (g.S.Source.holds c.self.inside.src) (g.S.Source.size c.self.inside.src)) c.newdata.ensures.step c.newdata.ensures.unchanged)

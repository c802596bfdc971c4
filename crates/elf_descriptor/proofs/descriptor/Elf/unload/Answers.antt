use Rattle.std.proofs.Common.{◌≡◌, ℕ, List, length, sym, ap, ◌∙◌, subst}
use Rattle.elf_types.specs.Answers.{answered}
use Rattle.section_table.specs.elf_object.Answers.{no_section}
use Rattle.elf_descriptor.specs.State.{State}
use Rattle.elf_descriptor.specs.Views.{state_of}
use Rattle.elf_descriptor.specs.Rooms.{unloaded}
use Rattle.elf_descriptor.proofs.Objects.{no_section_is}
use Rattle.elf_descriptor.proofs.Unloading.{unload_elf, unload_state}
use Rattle.elf_descriptor.proofs.BaseCalls.{base_is}
use Rattle.elf_descriptor.proofs.descriptor.Elf.unload.Goals as goal

pub invariant_of-self : goal.invariant_of-self
invariant_of-self g c =
    unload_elf g.S.Source c.self.inside.src c.self.inside.body c.unload.new.self c.args.s.0 c.self.invariant c.base_len-base.result
    (c.base_len-base.ensures (g.S.Source.holds c.self.inside.src) (g.S.Source.size c.self.inside.src) c.self.invariant.long c.self.invariant.within
    ∙ sym (ap (λ (l : List ℕ). length l) (base_is (g.S.Source.holds c.self.inside.src) (g.S.Source.size c.self.inside.src) c.self.inside.body))) c.unload.ensures.gone c.unload.ensures.kept

pub returns-clause-answer : goal.returns-clause-answer
returns-clause-answer g c =
    subst (λ (st : State g.row.S.Denot). c.unload.result ≡ answered (no_section st.o c.args.s.0) (tt {0})) c.self.view_is
    (c.unload.ensures.answer ∙ ap (λ r. answered r (tt {0})) (sym (no_section_is _ _ c.self.inside.body c.args.s.0)))

pub returns-clause-state : goal.returns-clause-state
returns-clause-state g c =
    subst (λ (st : State g.row.S.Denot). state_of g.S.Source c.self.inside.src c.unload.new.self ≡ unloaded c.args.s.0 st) c.self.view_is
    (unload_state g.S.Source c.self.inside.src c.self.inside.body c.unload.new.self c.args.s.0 c.self.invariant c.base_len-base.result
    (c.base_len-base.ensures (g.S.Source.holds c.self.inside.src) (g.S.Source.size c.self.inside.src) c.self.invariant.long c.self.invariant.within
    ∙ sym (ap (λ (l : List ℕ). length l) (base_is (g.S.Source.holds c.self.inside.src) (g.S.Source.size c.self.inside.src) c.self.inside.body))) c.unload.ensures.gone c.unload.ensures.kept)

use Rattle.std.proofs.Common.{◌∙◌, ℕ, ap, sym, subst}
use Rattle.std.specs.Prelude.{IsTrue}
use Rattle.elf_descriptor.specs.State.{State}
use Rattle.elf_descriptor.specs.Views.{state_of, cut_at}
use Rattle.elf_descriptor.specs.Cuts.{MaySize, CutsBase}
use Rattle.elf_descriptor.proofs.CutCalls.{part_of_ready, is_resized, size_cuts, size_elf}
use Rattle.elf_descriptor.proofs.descriptor.Elf.size_base.Goals as goal

pub invariant_of-self : goal.invariant_of-self
invariant_of-self g c =
    let part = part_of_ready c.self.inside.body (subst (λ (st : State g.row.D.Denot). IsTrue st.ready) (sym c.self.view_is) c.requires.ready) in
    size_elf g.D.Source c.self.inside.src c.set_len-result.new.device c.self.inside.body c.cut_base.new.self part.0 c.args.n c.self.invariant part.1
    (is_resized c.set_len-result.result (g.D.Source.holds c.self.inside.src) (g.D.Source.holds c.set_len-result.new.device) (g.D.Source.size c.self.inside.src) (g.D.Source.size c.set_len-result.new.device) c.args.n c.set_len-result.ensures.ok c.set_len-result.ensures.unfinished)
    c.cut_base.ensures.rest
    (c.cut_base.ensures.base ∙ ap (λ (n : ℕ). cut_at n c.self.inside.body.base) c.len-size.ensures.size)
    (g.met.D.Source.sized c.set_len-result.new.device) c.len-size.ensures.ranged
    (subst (λ (st : State g.row.D.Denot). MaySize st c.args.n) (sym c.self.view_is) c.requires.may)

pub returns-clause-cuts : goal.returns-clause-cuts
returns-clause-cuts g c =
    let part = part_of_ready c.self.inside.body (subst (λ (st : State g.row.D.Denot). IsTrue st.ready) (sym c.self.view_is) c.requires.ready) in
    subst (λ (st : State g.row.D.Denot). CutsBase g.D.Source st (state_of g.D.Source c.set_len-result.new.device c.cut_base.new.self)) c.self.view_is
    (size_cuts g.D.Source c.self.inside.src c.set_len-result.new.device c.self.inside.body c.cut_base.new.self part.0 c.args.n c.self.invariant part.1
    (is_resized c.set_len-result.result (g.D.Source.holds c.self.inside.src) (g.D.Source.holds c.set_len-result.new.device) (g.D.Source.size c.self.inside.src) (g.D.Source.size c.set_len-result.new.device) c.args.n c.set_len-result.ensures.ok c.set_len-result.ensures.unfinished)
    c.cut_base.ensures.rest
    (c.cut_base.ensures.base ∙ ap (λ (n : ℕ). cut_at n c.self.inside.body.base) c.len-size.ensures.size)
    (g.met.D.Source.sized c.set_len-result.new.device) c.len-size.ensures.ranged
    (subst (λ (st : State g.row.D.Denot). MaySize st c.args.n) (sym c.self.view_is) c.requires.may))

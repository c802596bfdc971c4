use Rattle.std.proofs.Common.{◌+◌, ◌≤◌, length, sym, subst}
use Rattle.std.specs.Prelude.{IsTrue}
use Rattle.elf_descriptor.specs.State.{State}
use Rattle.elf_descriptor.specs.Views.{state_of}
use Rattle.elf_descriptor.specs.Cuts.{MayWrite, CutsBase}
use Rattle.elf_descriptor.proofs.CutCalls.{part_of_ready, is_written, fits_told, write_cuts, write_elf}
use Rattle.elf_descriptor.proofs.descriptor.Elf.write_base.Goals as goal

pub invariant_of-self : goal.invariant_of-self
invariant_of-self g c =
    let part = part_of_ready c.self.inside.body (subst (λ (st : State g.row.D.Denot). IsTrue st.ready) (sym c.self.view_is) c.requires.ready) in
    let within = subst (λ (st : State g.row.D.Denot). c.args.at + length c.args.buf.now ≤ g.D.Source.size st.source) (sym c.self.view_is) c.requires.within in
    write_elf g.D.Source c.self.inside.src c.write_at-result.new.device c.self.inside.body c.args.at part.0 c.args.buf.now c.self.invariant part.1 c.write_at-result.ensures.patches.len within
    (is_written c.write_at-result.result (g.D.Source.holds c.self.inside.src) (g.D.Source.holds c.write_at-result.new.device) c.args.at c.args.buf.now
    (fits_told (g.D.Source.holds c.self.inside.src) (g.D.Source.size c.self.inside.src) c.args.at (length c.args.buf.now) c.self.invariant.long within) c.write_at-result.ensures.patches.ok c.write_at-result.ensures.patches.err)
    c.len-size.ensures.ranged
    (subst (λ (st : State g.row.D.Denot). MayWrite st c.args.at (length c.args.buf.now)) (sym c.self.view_is) c.requires.may)

pub returns-clause-cuts : goal.returns-clause-cuts
returns-clause-cuts g c =
    let part = part_of_ready c.self.inside.body (subst (λ (st : State g.row.D.Denot). IsTrue st.ready) (sym c.self.view_is) c.requires.ready) in
    let within = subst (λ (st : State g.row.D.Denot). c.args.at + length c.args.buf.now ≤ g.D.Source.size st.source) (sym c.self.view_is) c.requires.within in
    subst (λ (st : State g.row.D.Denot). CutsBase g.D.Source st (state_of g.D.Source c.write_at-result.new.device c.self.inside.body)) c.self.view_is
    (write_cuts g.D.Source c.self.inside.src c.write_at-result.new.device c.self.inside.body c.args.at part.0 c.args.buf.now c.self.invariant part.1 c.write_at-result.ensures.patches.len within
    (is_written c.write_at-result.result (g.D.Source.holds c.self.inside.src) (g.D.Source.holds c.write_at-result.new.device) c.args.at c.args.buf.now
    (fits_told (g.D.Source.holds c.self.inside.src) (g.D.Source.size c.self.inside.src) c.args.at (length c.args.buf.now) c.self.invariant.long within) c.write_at-result.ensures.patches.ok c.write_at-result.ensures.patches.err)
    c.len-size.ensures.ranged
    (subst (λ (st : State g.row.D.Denot). MayWrite st c.args.at (length c.args.buf.now)) (sym c.self.view_is) c.requires.may))

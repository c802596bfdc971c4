use Rattle.std.proofs.Common.{◌≡◌, ◌+◌, ◌≤◌, length, take, drop, sym, subst, arith}
use Rattle.std.specs.Prelude.{IsTrue, OnOk}
use Rattle.elf_descriptor.specs.State.{State}
use Rattle.elf_descriptor.proofs.BaseCalls.{base_kept, base_source, base_read}
use Rattle.elf_descriptor.proofs.descriptor.Elf.copy_base.Goals as goal

pub copy_range-requires : goal.copy_range-requires
copy_range-requires g c =
    let inside = subst (λ (st : State g.row.S.Denot). c.args.at + length c.args.buf.now ≤ length st.o.base) (sym c.self.view_is) c.requires in
    let same = base_kept (g.S.Source.holds c.self.inside.src) (g.S.Source.size c.self.inside.src) c.self.inside.body _ c.in-Own.is in
    rw (c.as_slice.ensures, ← same) inside

pub read-requires : goal.read-requires
read-requires g c =
    let inside = subst (λ (st : State g.row.S.Denot). c.args.at + length c.args.buf.now ≤ length st.o.base) (sym c.self.view_is) c.requires in
    let long = base_source _ _ c.self.inside.body _ c.in-Source.is c.self.invariant.long c.self.invariant.within in
    omega (arith, inside, long.0, long.1)

pub returns-in-Own-clause-bytes : goal.returns-in-Own-clause-bytes
returns-in-Own-clause-bytes g c =
    let same = base_kept (g.S.Source.holds c.self.inside.src) (g.S.Source.size c.self.inside.src) c.self.inside.body _ c.in-Own.is in
    subst (λ (st : State g.row.S.Denot). IsTrue st.told → c.copy_range.new.buf ≡ take (length c.args.buf.now) (drop c.args.at st.o.base)) c.self.view_is
    (λ told. rw (same, ← c.as_slice.ensures) c.copy_range.ensures)

pub returns-in-Source-clause-bytes : goal.returns-in-Source-clause-bytes
returns-in-Source-clause-bytes g c =
    let inside = subst (λ (st : State g.row.S.Denot). c.args.at + length c.args.buf.now ≤ length st.o.base) (sym c.self.view_is) c.requires in
    let long = base_source _ _ c.self.inside.body _ c.in-Source.is c.self.invariant.long c.self.invariant.within in
    subst (λ (st : State g.row.S.Denot). IsTrue st.told → OnOk c.read.result (c.read.new.buf ≡ take (length c.args.buf.now) (drop c.args.at st.o.base))) c.self.view_is
    (λ told. base_read _ _ c.self.inside.body c.read.result _ c.args.at (length c.args.buf.now) c.read.new.buf c.in-Source.is (omega (arith, inside, long.0)) told c.read.ensures.bytes)

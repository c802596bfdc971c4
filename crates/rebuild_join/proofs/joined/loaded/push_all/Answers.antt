use Rattle.std.proofs.Common.{◌≡◌, ◌++◌, ℕ, List, length, sym, ap, ◌∙◌, arith}
use Rattle.rebuild_keep.proofs.elf_update_plan.RowLaws.{ok_is}
use Rattle.rebuild_join.specs.Joined.Joined.{allocated_alone, allocated_below}
use Rattle.rebuild_join.proofs.joined.LoadedLaws.{below_none, below_pushed, below_all}
use Rattle.rebuild_join.proofs.joined.loaded.push_all.Goals as goal

pub loop-s-init : goal.loop-s-init
loop-s-init g c = c.requires ∙ sym (below_none c.args.elf.now.o)

pub push_allocated-requires : goal.push_allocated-requires
push_allocated-requires g c =
    let count = ok_is _ _ c.shnum-s-end.ensures in omega (arith, count, c.loop-s-test.true)

pub loop-s-preserved : goal.loop-s-preserved
loop-s-preserved g c =
    let o = c.args.elf.now.o in
    c.in_ok-push_allocated.ensures.ok
    ∙ ap (λ (l : List ℕ). l ++ allocated_alone o c.loop-s.s) c.loop-s.invariant
    ∙ sym (below_pushed o c.loop-s.s)

pub returns-clause-ok : goal.returns-clause-ok
returns-clause-ok g c =
    let count = ok_is _ _ c.shnum-s-end.ensures in
    let all : c.loop-s.s ≡ length c.args.elf.now.o.sections =
    omega (arith, count, c.loop-s-test.false, c.loop-s.auto.s-end) in
    c.loop-s.invariant
    ∙ ap (allocated_below c.args.elf.now.o) all
    ∙ below_all c.args.elf.now.o

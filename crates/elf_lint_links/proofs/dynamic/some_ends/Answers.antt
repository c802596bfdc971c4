use Rattle.std.proofs.Common.{true, false, Ok, below_more, arith}
use Rattle.std.specs.Prelude.{slice_get}
use Rattle.std.specs.List.{list_any}
use Rattle.std.proofs.lemmas.Result.{err_from_is_err_and}
use Rattle.elf_lint_findings.specs.elf_object.Object.{Object}
use Rattle.elf_lint_findings.proofs.tool_objects.ElfSteps.{elf_left}
use Rattle.elf_lint_findings.specs.Looking.{dyns}
use Rattle.elf_lint_findings.proofs.tool_objects.LearnLemmas.{learns_map, learns_stop, learns_after}
use Rattle.elf_lint_links.specs.Dynamic.{is_dynamic_end}
use Rattle.elf_lint_links.proofs.DynamicLemmas.{ends, any_ends, none_ends}
use Rattle.elf_lint_links.proofs.dynamic.some_ends.Goals as goal

pub loop-i-init : goal.loop-i-init
loop-i-init g c = record { none = λ told k lt. absurd (omega arith); elf = elf_left g.S.Source c.args.elf.now }

pub returns-in_err-ends_at : goal.returns-in_err-ends_at
returns-in_err-ends_at g c =
    let s = c.args.s.0 in
    let p = err_from_is_err_and c.from_residual.result c.from_residual.ensures.1 in
    let at = λ (o : Object). is_dynamic_end (slice_get (dyns o s) c.loop-i.i) in
    rw (p.1, p.2) (learns_stop g.S.Source at (λ o. list_any ends (dyns o s)) _ c.args.elf.now _
    (learns_after g.S.Source at _ c.args.elf.now c.loop-i.elf _ c.loop-i.invariant.elf c.in_err-ends_at.ensures))

pub returns-then-branch : goal.returns-then-branch
returns-then-branch g c =
    let s = c.args.s.0 in
    let at = λ (o : Object). is_dynamic_end (slice_get (dyns o s) c.loop-i.i) in
    learns_map g.S.Source at (λ o. list_any ends (dyns o s)) true true c.args.elf.now _
    (λ told is. any_ends (dyns c.args.elf.now.o s) c.loop-i.i is)
    (learns_after g.S.Source at (Ok true) c.args.elf.now c.loop-i.elf _ c.loop-i.invariant.elf (rw c.if-branch.true at c.in_ok-ends_at.ensures))

pub loop-i-preserved : goal.loop-i-preserved
loop-i-preserved g c =
    let s = c.args.s.0 in
    let at = λ (o : Object). is_dynamic_end (slice_get (dyns o s) c.loop-i.i) in
    let learned = learns_after g.S.Source at (Ok false) c.args.elf.now c.loop-i.elf _ c.loop-i.invariant.elf (rw c.if-branch.false at c.in_ok-ends_at.ensures) in
    record {
      none = λ told. below_more _ _ (c.loop-i.invariant.none told) (learned.value told);
      elf = learned.reads.elf;
    }

pub returns : goal.returns
returns g c =
    let s = c.args.s.0 in record {
      value = λ told. none_ends (dyns c.args.elf.now.o s) c.loop-i.i (omega (arith, c.requires, c.loop-i-test.false)) (c.loop-i.invariant.none told);
      reads = record { elf = c.loop-i.invariant.elf; read = tt; write = tt };
    }

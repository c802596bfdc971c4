use Rattle.std.proofs.Common.{Option, None, ap, sym}
use Rattle.elf_lint_findings.proofs.tool_objects.AnswerLemmas.{led_broken}
use Rattle.elf_lint_findings.proofs.tool_objects.LearnLemmas.{learns_by}
use Rattle.elf_lint_findings.proofs.tool_objects.QueryLemmas.{queried, looked_by}
use Rattle.elf_lint_findings.proofs.tool_objects.OnceReads.{once_read}
use Rattle.elf_lint_links.specs.Chains.Chains.{bad_place}
use Rattle.elf_lint_links.proofs.chains.WalkLemmas.{met_bad, walk_begins, walk_goes, walk_ends}
use Rattle.elf_lint_links.proofs.chains.ChainLemmas.{chain_bad}
use Rattle.elf_lint_links.proofs.chains.entries.walk_names.Goals as goal

pub names-init : goal.names-init
names-init g c = walk_begins g.S.Source c.args.elf.now _

pub names-preserved : goal.names-preserved
names-preserved g c =
    let s = c.args.s.0 in
    let aux = g.A.VersionName in
    let chain = rw c.in-Ok-Some.field-0-is at c.in-Ok-Some.ensures.chain in
    walk_goes c.names.invariant _ (λ o. bad_place (aux.names o s 0 c.next_of.new.place).bad) (queried g.S.Source _ _ _ c.names.elf _ c.in-Ok-Some.ensures.queries (once_read _ _ _ _)) (λ told. ap chain_bad (chain told))

pub names-smaller : goal.names-smaller
names-smaller g c = rw c.in-Ok-Some.field-0-is at c.in-Ok-Some.ensures.fewer

pub returns-in-Ok-None : goal.returns-in-Ok-None
returns-in-Ok-None g c =
    let s = c.args.s.0 in
    let aux = g.A.VersionName in
    let chain = rw c.in-Ok-None.field-0-is at c.in-Ok-None.ensures.chain in
    walk_ends c.names.invariant _ _ (learns_by g.S.Source (λ o. bad_place (aux.names o s 0 c.names.place).bad) None c.names.elf _ (queried g.S.Source _ _ _ c.names.elf _ c.in-Ok-None.ensures.queries (once_read _ _ _ _))
    (λ told. sym (ap chain_bad (chain told))))

pub returns-in-Err : goal.returns-in-Err
returns-in-Err g c =
    let s = c.args.s.0 in
    let e = c.in-Err.e in
    let aux = g.A.VersionName in
    walk_ends c.names.invariant _ _ (met_bad {T = Option g.row.A.Denot} g.S.Source (λ o. bad_place (aux.names o s 0 c.names.place).bad) e _ c.names.elf _ (looked_by g.S.Source _ _ _ c.names.elf _ c.in-Err.ensures.queries (once_read _ _ _ _))
    (λ told none. ap chain_bad (led_broken e _ _ (c.in-Err.ensures.chain told) none))
    c.met.ensures.stops c.met.ensures.bad)

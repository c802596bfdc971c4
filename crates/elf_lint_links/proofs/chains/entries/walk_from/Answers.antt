use Rattle.std.proofs.Common.{sym, ap, ◌∙◌, arith}
use Rattle.std.proofs.lemmas.Result.{err_from_is_err_and}
use Rattle.elf_lint_findings.specs.elf_object.Object.{Object}
use Rattle.elf_lint_findings.specs.elf_object.Answers.{count_at}
use Rattle.elf_lint_findings.proofs.tool_objects.AnswerLemmas.{led_broken}
use Rattle.elf_lint_findings.proofs.tool_objects.LearnLemmas.{learns_stop, learns_after}
use Rattle.elf_lint_findings.proofs.tool_objects.QueryLemmas.{queried, looked_by}
use Rattle.elf_lint_findings.proofs.tool_objects.OnceReads.{once_read}
use Rattle.elf_lint_findings.proofs.gelf_view.ChainLemmas.{next_behind}
use Rattle.elf_lint_links.specs.Chains.Chains.{entries_bad}
use Rattle.elf_lint_links.proofs.chains.ChainLemmas.{entries_broken}
use Rattle.elf_lint_links.proofs.chains.EntryWalks.{names_end, entries_end, entries_go}
use Rattle.elf_lint_links.proofs.chains.WalkLemmas.{met_bad, walk_begins, walk_ends}
use Rattle.elf_lint_links.proofs.chains.entries.walk_from.Goals as goal

pub entries-init : goal.entries-init
entries-init g c = walk_begins g.S.Source c.args.elf.now _

pub returns-in_err-bad-in-Ok : goal.returns-in_err-bad-in-Ok
returns-in_err-bad-in-Ok g c =
    let entry = g.R.CheckedVersionEntry in
    let s = c.args.s.0 in
    let rest = λ (o : Object). entries_bad (entry.names_bad o s) (g.R.VersionEntry.entries o s 0 c.entries.at) in
    let p = err_from_is_err_and c.from_residual.result c.from_residual.ensures.1 in
    rw (p.1, p.2) (walk_ends c.entries.invariant _ _ (learns_after g.S.Source rest _ c.entries.elf _ _ (queried g.S.Source _ _ _ c.entries.elf _ c.in-Ok.ensures.queries (once_read _ _ _ _))
    (learns_stop g.S.Source (λ o. entry.names_bad o s (c.entries.at, c.in-Ok.entry)) rest _ _ _ c.in_err-bad-in-Ok.ensures)))

pub returns-then-is_some : goal.returns-then-is_some
returns-then-is_some g c =
    let s = c.args.s.0 in
    names_end (λ o. g.R.CheckedVersionEntry.names_bad o s) (λ o. g.R.VersionEntry.entries o s 0) c.entries.at
    (g.R.VersionEntry.behind c.in-Ok.entry) c.in-Ok.entry c.entries.invariant _
    (queried g.S.Source _ _ _ c.entries.elf _ c.in-Ok.ensures.queries (once_read _ _ _ _))
    c.in-Ok.ensures.chain _ _ c.in_ok-bad-in-Ok.ensures (sym c.is_some.ensures ∙ c.if-is_some.true)

pub returns-in-None : goal.returns-in-None
returns-in-None g c =
    let s = c.args.s.0 in
    entries_end (λ o. g.R.CheckedVersionEntry.names_bad o s) (λ o. g.R.VersionEntry.entries o s 0) c.entries.at
    (g.R.VersionEntry.behind c.in-Ok.entry) c.in-Ok.entry c.entries.invariant _
    (queried g.S.Source _ _ _ c.entries.elf _ c.in-Ok.ensures.queries (once_read _ _ _ _))
    c.in-Ok.ensures.chain _ _ c.in_ok-bad-in-Ok.ensures
    (sym c.is_some.ensures ∙ c.if-is_some.false) c.in-None.ensures

pub entries-preserved : goal.entries-preserved
entries-preserved g c =
    let s = c.args.s.0 in
    entries_go (λ o. g.R.CheckedVersionEntry.names_bad o s) (λ o. g.R.VersionEntry.entries o s 0) c.entries.at
    (g.R.VersionEntry.behind c.in-Ok.entry) c.in-Ok.entry c.entries.invariant _
    (queried g.S.Source _ _ _ c.entries.elf _ c.in-Ok.ensures.queries (once_read _ _ _ _))
    c.in-Ok.ensures.chain _ _ c.in_ok-bad-in-Ok.ensures c.in-Some.next
    (sym c.is_some.ensures ∙ c.if-is_some.false) c.in-Some.ensures

pub entries-smaller : goal.entries-smaller
entries-smaller g c =
    let same = ap (λ (o : Object). count_at o c.args.s.0 0) c.entries.invariant.elf.object in
    let before = c.in-Ok.ensures.within.0 in
    let later = next_behind c.entries.at _ c.in-Some.next c.in-Some.ensures in
    omega (arith, before, later, same)

pub returns-in-Err : goal.returns-in-Err
returns-in-Err g c =
    let s = c.args.s.0 in
    let e = c.in-Err.e in
    walk_ends c.entries.invariant _ _ (met_bad {T = g.row.R.Denot} g.S.Source
    (λ o. entries_bad (g.R.CheckedVersionEntry.names_bad o s) (g.R.VersionEntry.entries o s 0 c.entries.at))
    e _ c.entries.elf _
    (looked_by g.S.Source _ _ _ c.entries.elf _ c.in-Err.ensures.queries (once_read _ _ _ _))
    (λ told none. entries_broken (g.R.CheckedVersionEntry.names_bad c.entries.elf.o s) e _
    (led_broken e _ _ (c.in-Err.ensures.chain told) none))
    c.met.ensures.stops c.met.ensures.bad)

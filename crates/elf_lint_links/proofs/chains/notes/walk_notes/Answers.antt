use Rattle.std.proofs.Common.{Option, None, ap, sym, arith}
use Rattle.elf_lint_findings.specs.elf_object.Object.{Object}
use Rattle.elf_lint_findings.specs.elf_object.Answers.{count_at}
use Rattle.elf_lint_findings.specs.gelf_view.declared.notes.NoteAt.{NoteAt}
use Rattle.elf_lint_findings.specs.gelf_view.Chains.{notes}
use Rattle.elf_lint_findings.proofs.tool_objects.AnswerLemmas.{led_broken}
use Rattle.elf_lint_findings.proofs.tool_objects.LearnLemmas.{learns_by}
use Rattle.elf_lint_findings.proofs.tool_objects.QueryLemmas.{queried, looked_by}
use Rattle.elf_lint_links.specs.Chains.Chains.{bad_place}
use Rattle.elf_lint_links.proofs.chains.WalkLemmas.{met_bad, walk_begins, walk_goes, walk_ends}
use Rattle.elf_lint_links.proofs.chains.ChainLemmas.{chain_bad}
use Rattle.elf_lint_findings.proofs.tool_objects.OnceReads.{once_read}
use Rattle.elf_lint_links.proofs.chains.notes.walk_notes.Goals as goal

pub notes-init : goal.notes-init
notes-init g c = walk_begins g.S.Source c.args.elf.now _

pub notes-preserved : goal.notes-preserved
notes-preserved g c =
    let s = c.args.s.0 in
    let chain = rw c.in-Ok-Some.field-0-is at c.in-Ok-Some.ensures.chain in
    walk_goes c.notes.invariant _ (λ o. bad_place (notes o s 0 c.in-Ok-Some.found.next).bad) (queried g.S.Source _ _ _ c.notes.elf _ c.in-Ok-Some.ensures.queries (once_read _ _ _ _))
    (λ told. ap chain_bad (chain told))

pub notes-smaller : goal.notes-smaller
notes-smaller g c =
    let within = rw c.in-Ok-Some.field-0-is at c.in-Ok-Some.ensures.within in
    let same = ap (λ (o : Object). count_at o c.args.s.0 0) c.notes.invariant.elf.object in
    let after = within.after in
    let inside = within.next in
    omega (arith, after, inside, same)

pub returns-in-Ok-None : goal.returns-in-Ok-None
returns-in-Ok-None g c =
    let s = c.args.s.0 in
    let chain = rw c.in-Ok-None.field-0-is at c.in-Ok-None.ensures.chain in
    walk_ends c.notes.invariant _ _ (learns_by g.S.Source (λ o. bad_place (notes o s 0 c.notes.at).bad) None c.notes.elf _ (queried g.S.Source _ _ _ c.notes.elf _ c.in-Ok-None.ensures.queries (once_read _ _ _ _))
    (λ told. sym (ap chain_bad (chain told))))

pub returns-in-Err : goal.returns-in-Err
returns-in-Err g c =
    let s = c.args.s.0 in
    let e = c.in-Err.e in
    walk_ends c.notes.invariant _ _ (met_bad {T = Option NoteAt} g.S.Source (λ o. bad_place (notes o s 0 c.notes.at).bad) e _ c.notes.elf _ (looked_by g.S.Source _ _ _ c.notes.elf _ c.in-Err.ensures.queries (once_read _ _ _ _))
    (λ told none. ap chain_bad (led_broken e _ _ (c.in-Err.ensures.chain told) none))
    c.met.ensures.stops c.met.ensures.bad)

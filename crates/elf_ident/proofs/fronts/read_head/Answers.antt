use Rattle.std.proofs.lemmas.Result.{err_from_is_err_and}
use Rattle.elf_ident.proofs.FrontLemmas.{head_refused, counts_refused_head, head_done, bound_counts}
use Rattle.elf_ident.proofs.fronts.read_head.Goals as goal

pub returns-in_err-header-clause-head : goal.returns-in_err-header-clause-head
returns-in_err-header-clause-head g c =
    let p = err_from_is_err_and c.from_residual.result c.from_residual.ensures.1 in
    rw (p.1, p.2) (head_refused (g.S.Source.holds c.args.src.now) _ c.in_err-header.ensures.header)

pub returns-in_err-counts-clause-head : goal.returns-in_err-counts-clause-head
returns-in_err-counts-clause-head g c =
    let p = err_from_is_err_and c.from_residual-in_err-counts.result c.from_residual-in_err-counts.ensures.1 in
    rw (p.1, p.2) (counts_refused_head (g.S.Source.holds c.args.src.now) _ c.in_ok-header.header c.in_ok-header.pad _
    c.in_ok-header.ensures.asks.leaves.same_bytes c.in_ok-header.ensures.header c.in_err-counts.ensures.counts)

pub returns-in_err-counts-clause-bound : goal.returns-in_err-counts-clause-bound
returns-in_err-counts-clause-bound g c =
    bound_counts (g.S.Source.holds c.args.src.now) c.in_ok-header.header c.in_ok-header.pad _ _ _
    c.in_ok-header.ensures.header c.in_ok-header.ensures.bound c.in_err-counts.ensures.asks.taken.no_more

pub returns-clause-head : goal.returns-clause-head
returns-clause-head g c =
    head_done (g.S.Source.holds c.args.src.now) _ c.in_ok-header.header c.in_ok-header.pad c.in_ok-counts.counts
    c.in_ok-header.ensures.asks.leaves.same_bytes c.in_ok-header.ensures.header c.in_ok-counts.ensures.counts

pub returns-clause-bound : goal.returns-clause-bound
returns-clause-bound g c =
    bound_counts (g.S.Source.holds c.args.src.now) c.in_ok-header.header c.in_ok-header.pad _ _ _
    c.in_ok-header.ensures.header c.in_ok-header.ensures.bound c.in_ok-counts.ensures.asks.taken.no_more

use Rattle.std.proofs.Common.{subst}
use Rattle.std.proofs.lemmas.Result.{err_from_is_err_and}
use Rattle.elf_xlate.specs.Headers.{IsEhdr}
use Rattle.elf_ident.specs.declared.fronts.Front.{Front}
use Rattle.elf_ident.proofs.FrontLemmas.{front_refused, front_done, front_fits, bound_head, bound_front}
use Rattle.elf_ident.proofs.fronts.read_front.Goals as goal

pub returns-in_err-head-clause-front : goal.returns-in_err-head-clause-front
returns-in_err-head-clause-front g c =
    let p = err_from_is_err_and c.from_residual.result c.from_residual.ensures.1 in
    rw (p.1, p.2) (front_refused (g.S.Source.holds c.args.src.now) _ c.in_err-head.ensures.head)

pub returns-in_err-head-clause-bound : goal.returns-in_err-head-clause-bound
returns-in_err-head-clause-bound g c = bound_head (g.S.Source.holds c.args.src.now) _ _ c.in_err-head.ensures.bound

pub returns-in_err-phdrs-clause-bound : goal.returns-in_err-phdrs-clause-bound
returns-in_err-phdrs-clause-bound g c =
    bound_front (g.S.Source.holds c.args.src.now) c.in_ok-head.head _ _ _ c.in_ok-head.ensures.head c.in_ok-head.ensures.bound
    c.in_err-phdrs.ensures.asks.taken.no_more

pub returns-clause-front : goal.returns-clause-front
returns-clause-front g c =
    rw c.front_of.ensures.front (front_done (g.S.Source.holds c.args.src.now) _ c.in_ok-head.head c.in_ok-phdrs.phdrs c.in_ok-phdrs.shdrs
    c.in_ok-head.ensures.asks.leaves.same_bytes c.in_ok-head.ensures.head c.in_ok-phdrs.ensures.phdrs c.in_ok-phdrs.ensures.shdrs)

pub returns-clause-bound : goal.returns-clause-bound
returns-clause-bound g c =
    bound_front (g.S.Source.holds c.args.src.now) c.in_ok-head.head _ _ _ c.in_ok-head.ensures.head c.in_ok-head.ensures.bound
    c.in_ok-phdrs.ensures.asks.taken.no_more

pub returns-clause-fitting : goal.returns-clause-fitting
returns-clause-fitting g c =
    rw c.front_of.ensures.front (front_fits c.in_ok-head.head (g.S.Source.size c.args.src.now) c.in_ok-phdrs.phdrs c.in_ok-phdrs.shdrs
    c.in_ok-head.ensures.sound (subst (λ (f : Front). IsEhdr f.ehdr) c.front_of.ensures.front c.front_of.ensures.range) c.in_ok-phdrs.ensures.tables.0 c.in_ok-phdrs.ensures.tables.1)

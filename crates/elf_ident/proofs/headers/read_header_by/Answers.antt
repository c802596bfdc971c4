use Rattle.std.proofs.Common.{arith}
use Rattle.std.proofs.lemmas.Result.{err_from_is_err_and}
use Rattle.elf_ident.proofs.HeaderLemmas.{header_refused_ident, header_refused_rest, header_done, bound_ident, bound_header}
use Rattle.elf_ident.proofs.headers.read_header_by.Goals as goal

pub returns-in_err-class-clause-header : goal.returns-in_err-class-clause-header
returns-in_err-class-clause-header g c =
    let p = err_from_is_err_and c.from_residual.result c.from_residual.ensures.1 in
    rw (p.1, p.2) (header_refused_ident (g.S.Source.holds c.args.src.now) _ c.in_err-class.ensures.ident)

pub returns-in_err-class-clause-bound : goal.returns-in_err-class-clause-bound
returns-in_err-class-clause-bound g c = bound_ident (g.S.Source.holds c.args.src.now) _ _ c.in_err-class.ensures.asks.taken.no_more

pub returns-in_err-read_rest-clause-header : goal.returns-in_err-read_rest-clause-header
returns-in_err-read_rest-clause-header g c =
    let p = err_from_is_err_and c.from_residual-in_err-read_rest.result c.from_residual-in_err-read_rest.ensures.1 in
    rw (p.1, p.2) (header_refused_rest (g.S.Source.holds c.args.src.now) _ _ c.in_ok-class.class c.in_ok-class.order _
    c.in_ok-class.ensures.asks.leaves.same_bytes c.in_ok-class.ensures.ident c.in_err-read_rest.ensures.rest)

pub returns-in_err-read_rest-clause-bound : goal.returns-in_err-read_rest-clause-bound
returns-in_err-read_rest-clause-bound g c =
    bound_header (g.S.Source.holds c.args.src.now) c.in_ok-class.class c.in_ok-class.order _ _ c.in_ok-class.ensures.ident
    (omega (arith, c.in_ok-class.ensures.asks.taken.no_more, c.in_err-read_rest.ensures.asks.taken.no_more))

pub returns-clause-header : goal.returns-clause-header
returns-clause-header g c =
    rw (c.get_ehdr-header.ensures.value, c.ehdr_size.ensures, c.pad_of.ensures.pad) (header_done (g.S.Source.holds c.args.src.now) _ _ _ c.in_ok-class.class c.in_ok-class.order
    c.in_ok-class.ensures.asks.leaves.same_bytes c.in_ok-class.ensures.ident c.in_ok-class.ensures.start c.in_ok-read_rest.ensures.rest)

pub returns-clause-bound : goal.returns-clause-bound
returns-clause-bound g c =
    bound_header (g.S.Source.holds c.args.src.now) c.in_ok-class.class c.in_ok-class.order _ _ c.in_ok-class.ensures.ident
    (omega (arith, c.in_ok-class.ensures.asks.taken.no_more, c.in_ok-read_rest.ensures.asks.taken.no_more))

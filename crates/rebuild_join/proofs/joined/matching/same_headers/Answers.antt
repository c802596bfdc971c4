use Rattle.rebuild_join.proofs.joined.MatchLaws.{headers_told}
use Rattle.rebuild_join.proofs.joined.matching.same_headers.Goals as goal

pub returns : goal.returns
returns g c =
    headers_told c.args.stripped.now.o c.args.debug.now.o c.ehdr-one.result c.ehdr-other.result
    c.same_header.result c.ehdr-one.ensures c.ehdr-other.ensures c.same_header.ensures

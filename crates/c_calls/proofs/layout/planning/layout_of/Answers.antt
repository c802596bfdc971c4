use Rattle.std.proofs.Common.{refl}
use Rattle.c_calls.proofs.layout.FrontLaws.{layout_is}
use Rattle.c_calls.proofs.layout.planning.layout_of.Goals as goal

pub returns-clause-ok : goal.returns-clause-ok
returns-clause-ok c = λ o is.
    layout_is o c.args.held.now c.args.streamed _ is refl refl c.in_ok-header.ensures.ok
    c.in_ok-segments.ensures.ok c.in_ok-table.ensures.ok

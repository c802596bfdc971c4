use Rattle.std.proofs.Common.{sym}
use Rattle.gelf_view.specs.elf_object.Calls as calls
use Rattle.tool_objects.proofs.OnceReads.{once_unless}
use Rattle.tool_objects.proofs.OnceSums.{once_one}
use Rattle.tool_objects.proofs.QueryLemmas.{reads_on, reads_stop, settled_ok, settled_none}
use Rattle.tool_objects.proofs.at_hand.held.load.Goals as goal

pub returns-in-Ok : goal.returns-in-Ok
returns-in-Ok g c =
    reads_on g.S.Source (calls.raw c.args.s.0) _ c.args.elf.now _ c.raw.result _
    c.raw.follows.holds-at-none.queries (once_unless _ _ (once_one _)) (settled_ok c.in-Ok.is)

pub returns-in-Some : goal.returns-in-Some
returns-in-Some g c =
    reads_stop g.S.Source (calls.raw c.args.s.0) _ c.args.elf.now _ c.in-Err.e _ (sym c.in-Some.ensures)
    (rw c.in-Err.is at c.raw.follows.holds-at-none.queries)

pub returns-in-None : goal.returns-in-None
returns-in-None g c =
    reads_on g.S.Source (calls.raw c.args.s.0) _ c.args.elf.now _ c.raw.result _
    c.raw.follows.holds-at-none.queries (once_unless _ _ (once_one _))
    (settled_none c.in-Err.is (sym c.in-None.ensures))

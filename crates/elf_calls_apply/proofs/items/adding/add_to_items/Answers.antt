use Rattle.std.proofs.Common.{Err, refl}
use Rattle.elf_calls_apply.specs.Applies.{at_any_step}
use Rattle.elf_calls_apply.specs.Stated.{stated_call}
use Rattle.elf_calls_apply.proofs.AddLaws.{added_all, added_none}
use Rattle.elf_calls_apply.proofs.items.adding.add_to_items.Goals as goal

pub returns-in-Ok : goal.returns-in-Ok
unfolding stated_call
returns-in-Ok g c =
    rw c.add_to_list.ensures.count
    (added_all g.S.Source g.T.Listed.kind g.T.Listed.variant g.T.Listed.list_of (g.T.Adds.plus c.args.n) c.args.n g.met.T.Listed.of_kind g.met.T.Listed.counted c.requires.sums g.met.T.Adds.some c.args.d c.args.elf.now _ c.requires.kind
    at_any_step c.lend.result c.in-Ok.list c.in-Ok.list.now _ c.in-Ok.is c.in-Ok.ensures.answer (c.lend.follows.holds _ (rw c.in-Ok.is refl)) c.add_to_list.ensures.sums c.in-Ok.ensures.value c.in-Ok.ensures.sized)

pub returns-in-Err : goal.returns-in-Err
unfolding stated_call
returns-in-Err g c =
    added_none g.S.Source g.T.Listed.kind g.T.Listed.variant g.T.Listed.list_of (g.T.Adds.plus c.args.n) c.args.n g.met.T.Listed.of_kind g.met.T.Listed.counted c.requires.sums g.met.T.Adds.some c.args.d c.args.elf.now _ c.requires.kind
    _ (Err c.in-Err.e) c.in-Err.e refl c.in-Err.ensures.answer (rw c.in-Err.is at c.lend.follows.holds-at-none)

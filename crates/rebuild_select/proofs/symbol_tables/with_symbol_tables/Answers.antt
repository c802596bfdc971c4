use Rattle.std.proofs.Common.{◌≡◌, ℕ, List, subst}
use Rattle.std.specs.Prelude.{IfOk}
use Rattle.rebuild_select.proofs.UserLaws.{unneeded_same}
use Rattle.rebuild_select.proofs.symbol_tables.with_symbol_tables.Goals as goal

pub returns-in-Ok-clause-ok : goal.returns-in-Ok-clause-ok
returns-in-Ok-clause-ok g c =
    subst (λ (l : List ℕ). IfOk c.with_found.result (λ set. set ≡ l))
    (unneeded_same c.args.elf.now.o c.args.removed.now c.in-Ok.needed c.in-Ok.ensures.ok)
    c.with_found.ensures.ok

use Rattle.std.proofs.Common.{◌≡◌, ℕ, List, subst}
use Rattle.std.specs.Prelude.{IfOk}
use Rattle.rebuild_select.proofs.TopLaws.{followers_are}
use Rattle.rebuild_select.proofs.removing.with_followers.Goals as goal

pub returns-in-Ok-with_extended_indexes-clause-ok :
    goal.returns-in-Ok-with_extended_indexes-clause-ok
returns-in-Ok-with_extended_indexes-clause-ok g c =
    subst (λ (l : List ℕ). IfOk c.with_string_tables.result (λ set. set ≡ l))
    (followers_are c.args.elf.now.o c.args.symbols_too c.args.removed.now c.in-Ok.set
    c.in-Ok-with_tables.set c.in-Ok-with_extended_indexes.indexes c.in-Ok.ensures.ok
    c.in-Ok-with_tables.ensures.ok c.in-Ok-with_extended_indexes.ensures.ok)
    c.with_string_tables.ensures.ok

use Rattle.std.proofs.Common.{◌≡◌, ℕ, List, subst}
use Rattle.std.specs.Prelude.{IfOk}
use Rattle.rebuild_select.proofs.UserLaws.{users_same}
use Rattle.rebuild_select.proofs.string_tables.with_string_tables.Goals as goal

pub returns-in-Ok-clause-ok : goal.returns-in-Ok-clause-ok
returns-in-Ok-clause-ok g c =
    subst (λ (l : List ℕ). IfOk c.with_found.result (λ set. set ≡ l))
    (users_same c.args.elf.now.o c.args.removed.now c.in-Ok.users.any c.in-Ok.users.left
    c.in-Ok.ensures.ok)
    c.with_found.ensures.ok

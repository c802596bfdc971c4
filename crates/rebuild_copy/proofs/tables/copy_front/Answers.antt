use Rattle.std.proofs.Common.{◌≡◌, ◌+◌, ◌<◌, ◌^◌, ℕ, List, length, drop, take, ap, ◌∙◌, subst, arith}
use Rattle.std.specs.Prelude.{IfOk}
use Rattle.rebuild_copy.specs.Rows.{held_in}
use Rattle.rebuild_copy.proofs.TableLaws.{front_copied}
use Rattle.rebuild_copy.proofs.tables.copy_front.Goals as goal

pub returns-clause-ok : goal.returns-clause-ok
returns-clause-ok c =
    let small : length c.args.x.now.held < 2 ^ 64 = omega (arith, c.len-held.ensures) in
    subst (λ (l : List ℕ). IfOk c.octets_at.result (λ bytes. bytes ≡ l))
    (front_copied c.args.x.now.held c.args.table.at c.args.table.len c.from-past.result
    c.args.count c.saturating_add.result c.front_len-len.result small c.saturating_add.ensures
    (omega (arith, c.front_len-len.ensures, c.saturating_sub.ensures))
    ∙ ap (λ (n : ℕ). take (c.args.count + 1) (drop n (held_in c.args.x.now c.args.table)))
    c.from-past.ensures)
    c.octets_at.ensures.ok

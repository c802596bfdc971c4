use Rattle.std.proofs.Common.{ℕ, ◌+◌, get_or, sym, ap, ◌∙◌}
use Rattle.elf_lint_links.proofs.chains.ReachLaws.{stand_none, stand_one, stand_more}
use Rattle.elf_lint_links.proofs.chains.reach.steps_at.Goals as goal

pub returns-in_default : goal.returns-in_default
returns-in_default c = λ next_at are here. stand_none next_at c.args.at

pub returns-then-next-eq0 : goal.returns-then-next-eq0
returns-then-next-eq0 c = λ next_at are here.
    stand_one next_at c.args.at c.in-Some.next (sym c.in-Some.is ∙ here)

pub returns : goal.returns
returns c = λ next_at are here.
    stand_more next_at c.args.reach.now are c.args.at c.in-Some.next c.steps_from.result
    c.one_more.result (sym c.in-Some.is ∙ here) c.if-next-eq0.false
    (c.steps_from.ensures
    ∙ ap (λ (k : ℕ). get_or c.args.reach.now (c.args.at + k) 0) c.from.ensures)
    c.one_more.ensures.some c.one_more.ensures.fewer

use Rattle.std.proofs.Common.{ℕ, List, length, ap, ◌∙◌}
use Rattle.std.proofs.lemmas.List.{length-replicate}
use Rattle.elf_lint_links.proofs.chains.ReachLaws.{reach_none}
use Rattle.elf_lint_links.proofs.chains.reach.reach_in.Goals as goal

pub count_steps-requires-clause-long : goal.count_steps-requires-clause-long
count_steps-requires-clause-long g c =
    ap (λ (l : List ℕ). length l) c.in_ok-reach.ensures.ok ∙ length-replicate {A = ℕ} _ 0

pub count_steps-requires-clause-begun : goal.count_steps-requires-clause-begun
count_steps-requires-clause-begun g c =
    reach_none (g.R.CheckedVersionEntry.next_in c.args.order c.args.bytes.now) _ c.in_ok-reach.reach
    c.in_ok-reach.ensures.ok

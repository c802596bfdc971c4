use Rattle.std.proofs.Common.{◌≡◌, length}
use Rattle.elf_lint_links.specs.Chains.Reach.{IsReach}
use Rattle.elf_lint_links.proofs.chains.reach.count_steps.Given as goal

abbrev pub invariant-loop-done : goal.invariant-loop-done
invariant-loop-done g l = record {
  long : length l.reach ≡ length l.bytes;
  are : IsReach (g.R.CheckedVersionEntry.next_in l.order l.bytes) l.reach;
}

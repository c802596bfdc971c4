use Rattle.std.proofs.Common.{◌≡◌, ◌-◌, ◌≤◌, ℕ}
use Rattle.elf_object.specs.Object.{Object}
use Rattle.nm_tool.specs.Kept.{kept_of}
use Rattle.nm_tool.specs.Tables.{ArePlainSymbols}
use Rattle.nm_tool.proofs.kept.kept_in.Given as goal

abbrev pub invariant-loop-i : goal.invariant-loop-i
invariant-loop-i l = record {
  begun : 1 ≤ l.i;
  within : l.i - 1 ≤ l.count - 1;
  kept : (o : Object) (s : ℕ) → ArePlainSymbols o s l.symbols → l.list ≡ kept_of l.options o s (l.i - 1);
}

use Rattle.std.proofs.Common.{◌≡◌, map, take}
use Rattle.copy_tool.specs.Files.{pairs}
use Rattle.copy_tool.proofs.changes.renamings.Given as goal

abbrev pub invariant-loop-one : goal.invariant-loop-one
invariant-loop-one l = pairs l.list ≡ map (λ r. (r.old, r.new)) (take l.one-index l.each)

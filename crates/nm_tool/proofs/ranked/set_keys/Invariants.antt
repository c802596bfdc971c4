use Rattle.std.proofs.Common.{◌≡◌, ◌++◌, map, take, drop}
use Rattle.nm_tool.specs.Kept.{shown_name_in}
use Rattle.nm_tool.specs.Ranked.{keyed}
use Rattle.nm_tool.proofs.ranked.set_keys.Given as goal

abbrev pub invariant-loop-k : goal.invariant-loop-k
invariant-loop-k l =
    l.rows ≡ map (keyed (shown_name_in l.strings) l.place) (take l.k-index l.initial.rows)
    ++ drop l.k-index l.initial.rows

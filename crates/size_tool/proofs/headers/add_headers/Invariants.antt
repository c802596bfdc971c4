-- The sums so far.
use Rattle.size_tool.specs.Sums.{Adds}
use Rattle.size_tool.proofs.TableSums.{headers_in}
use Rattle.size_tool.proofs.headers.add_headers.Given as goal

abbrev pub invariant-loop-i : goal.invariant-loop-i
invariant-loop-i l = Adds (headers_in l.h l.i l.bytes) l.initial.sums l.sums

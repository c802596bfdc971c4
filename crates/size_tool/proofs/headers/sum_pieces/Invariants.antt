-- The sums so far.
use Rattle.std.proofs.Common.{◌≡◌, ◌+◌, ◌-◌, ◌*◌, ◌≤◌, length}
use Rattle.elf_xlate.specs.Headers.{shdr_size}
use Rattle.size_tool.proofs.TableSums.{AreSummed}
use Rattle.size_tool.proofs.headers.sum_pieces.Given as goal

abbrev pub invariant-loop-done : goal.invariant-loop-done
invariant-loop-done g l = record {
  first : AreSummed g.S.Source l.h l.count l.done l.initial.src l.src l.sums;
  within : l.done ≤ l.count;
  place : l.at ≡ l.h.shoff + l.done * shdr_size l.h.class;
  room : length l.buffer ≡ 2048;
}

abbrev pub decreases-loop-done : goal.decreases-loop-done
decreases-loop-done g l = l.count - l.done

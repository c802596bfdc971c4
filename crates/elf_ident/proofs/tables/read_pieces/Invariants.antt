-- The section headers so far.
use Rattle.std.proofs.Common.{◌≡◌, ◌-◌, ◌*◌, ◌≤◌, length}
use Rattle.elf_xlate.specs.Headers.{shdr_size}
use Rattle.elf_ident.proofs.PieceLemmas.{AreFirst}
use Rattle.elf_ident.proofs.tables.read_pieces.Given as goal

abbrev pub invariant-loop-done : goal.invariant-loop-done
invariant-loop-done g l = record {
  first : AreFirst g.S.Source l.h l.done l.initial.src l.src l.shdrs;
  within : l.done ≤ l.count;
  room : length l.buffer ≡ 1024 * shdr_size l.h.class;
}

abbrev pub decreases-loop-done : goal.decreases-loop-done
decreases-loop-done g l = l.count - l.done

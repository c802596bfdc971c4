use Rattle.std.proofs.Common.{◌≡◌, take, map}
use Rattle.size_tool.specs.Sums.{header_sums, AreWithin}
use Rattle.size_tool.proofs.sums.sum_sections.Given as goal

abbrev pub invariant-loop-s : goal.invariant-loop-s
invariant-loop-s g l = record {
  sums : l.sums ≡ header_sums (take l.s (map (λ s. s.header) l.elf.o.sections));
  within : AreWithin l.s l.sums;
}

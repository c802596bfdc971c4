use Rattle.nm_tool.proofs.FoundTable.{IsNotBelow}
use Rattle.nm_tool.proofs.tool.symbol_table.Given as goal

abbrev pub invariant-loop-s : goal.invariant-loop-s
invariant-loop-s g l = IsNotBelow l.elf.o l.s

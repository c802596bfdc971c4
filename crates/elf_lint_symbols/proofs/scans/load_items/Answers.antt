use Rattle.std.proofs.Common.{arith}
use Rattle.tool_objects.proofs.ElfSteps.{elf_left}
use Rattle.elf_lint_symbols.proofs.scans.load_items.Goals as goal

pub returns-then-count-eq0 : goal.returns-then-count-eq0
returns-then-count-eq0 g c =
    record { elf = elf_left g.S.Source c.args.elf.now; read = tt; write = tt }

pub item_there-requires-clause-there : goal.item_there-requires-clause-there
item_there-requires-clause-there g c = omega (arith, c.requires.count, c.if-count-eq0.false)

pub returns-in-Ok : goal.returns-in-Ok
returns-in-Ok g c = record { elf = c.in-Ok.ensures.reads.elf; read = tt; write = tt }

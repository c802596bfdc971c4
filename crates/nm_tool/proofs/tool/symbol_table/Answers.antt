use Rattle.std.proofs.Common.{◌≡◌, length, sym, ◌∙◌, below_more, arith}
use Rattle.elf_object.specs.Object.{section_at}
use Rattle.nm_tool.proofs.FoundTable.{table_first, table_none}
use Rattle.nm_tool.proofs.tool.symbol_table.Goals as goal

pub returns-then-is_table-clause-found : goal.returns-then-is_table-clause-found
returns-then-is_table-clause-found g c =
    let count : length c.args.elf.now.o.sections ≡ c.shnum-s-end.result = cc in
    table_first c.args.elf.now.o c.loop-s.s c.shnum-s-end.result count c.loop-s-test.true c.loop-s.invariant (sym c.is_table.ensures ∙ c.if-is_table.true)

pub loop-s-preserved : goal.loop-s-preserved
unfolding section_at
loop-s-preserved g c = below_more _ _ c.loop-s.invariant (sym c.is_table.ensures ∙ c.if-is_table.false)

pub returns-clause-found : goal.returns-clause-found
returns-clause-found g c =
    let count : length c.args.elf.now.o.sections ≡ c.shnum-s-end.result = cc in
    table_none c.args.elf.now.o c.loop-s.s (omega (arith, count, c.loop-s-test.false)) c.loop-s.invariant

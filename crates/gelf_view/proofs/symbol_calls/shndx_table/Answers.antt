use Rattle.std.proofs.Common.{◌≡◌, length, sym, ◌∙◌, below_more, arith}
use Rattle.elf_descriptor.specs.elf_object.Object.{section_at}
use Rattle.gelf_view.proofs.IndexTables.{table_found, table_absent}
use Rattle.gelf_view.proofs.symbol_calls.shndx_table.Goals as goal

pub returns-then-is_table_of : goal.returns-then-is_table_of
returns-then-is_table_of g c =
    let count : length c.args.elf.now.o.sections ≡ c.shnum-count.result = cc in
    table_found c.args.elf.now.o c.args.s.0 c.loop-table.table c.shnum-count.result count c.loop-table-test.true c.loop-table.invariant (sym c.is_table_of.ensures ∙ c.if-is_table_of.true)

pub loop-table-preserved : goal.loop-table-preserved
unfolding section_at
loop-table-preserved g c = below_more _ _ c.loop-table.invariant (sym c.is_table_of.ensures ∙ c.if-is_table_of.false)

pub returns : goal.returns
returns g c =
    let count : length c.args.elf.now.o.sections ≡ c.shnum-count.result = cc in
    table_absent c.args.elf.now.o c.args.s.0 c.loop-table.table (omega (arith, count, c.loop-table-test.false)) c.loop-table.invariant

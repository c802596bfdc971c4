use Rattle.std.proofs.Common.{sym, ◌∙◌}
use Rattle.hash_order.proofs.StoringLaws.{table_count, table_ready, table_stored}
use Rattle.hash_order.proofs.storing.store_plan.Goals as goal

pub store_sections-requires-clause-long : goal.store_sections-requires-clause-long
store_sections-requires-clause-long g c =
    c.requires.long
    ∙ sym (table_count g.S.Source c.args.elf.now c.put_list.new.elf c.args.s.0 c.args.symbols
    c.put_list.ensures)

pub store_sections-requires-clause-ready : goal.store_sections-requires-clause-ready
store_sections-requires-clause-ready g c =
    table_ready g.S.Source c.args.elf.now c.put_list.new.elf c.args.s.0 c.args.symbols
    c.put_list.ensures c.args.plan.now.items c.requires.hand c.requires.apart c.requires.ready

pub returns : goal.returns
returns g c =
    table_stored g.S.Source c.args.elf.now c.put_list.new.elf c.args.s.0 c.args.symbols
    c.put_list.ensures c.args.plan.now.items c.store_sections.new.elf c.store_sections.ensures

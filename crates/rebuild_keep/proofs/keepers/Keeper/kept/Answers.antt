use Rattle.rebuild_keep.proofs.KeeperLaws.{symbols_told, members_told, kept_symbols, kept_group, kept_indexes, kept_bytes}
use Rattle.std.proofs.Common.{sym, ◌∙◌}
use Rattle.rebuild_keep.proofs.keepers.Keeper.kept.Goals as goal

pub returns-then-is_symbol_table : goal.returns-then-is_symbol_table
returns-then-is_symbol_table g c =
    let o = c.args.elf.now.o in
    let s = c.args.s.0 in
    kept_symbols g.S.Source c.args.self.now s c.symbols.result c.args.elf.now c.symbols.new.elf
    (symbols_told o s c.section_header-h.result c.is_symbol_table.result _
    c.section_header-h.ensures c.if-is_symbol_table.true c.is_symbol_table.ensures)
    c.symbols.ensures

pub returns-then-is_group : goal.returns-then-is_group
returns-then-is_group g c =
    let o = c.args.elf.now.o in
    let s = c.args.s.0 in
    kept_group g.S.Source c.args.self.now s c.group.result c.args.elf.now c.group.new.elf
    (symbols_told o s c.section_header-h.result c.is_symbol_table.result _
    c.section_header-h.ensures c.if-is_symbol_table.false c.is_symbol_table.ensures)
    (members_told o s c.section_header-h.result c.is_group.result _
    c.section_header-h.ensures c.if-is_group.true c.is_group.ensures)
    c.group.ensures

pub returns-then-holds_indexes : goal.returns-then-holds_indexes
returns-then-holds_indexes g c =
    let o = c.args.elf.now.o in
    let s = c.args.s.0 in
    kept_indexes g.S.Source c.args.self.now s c.indexes.result c.args.elf.now c.indexes.new.elf
    (symbols_told o s c.section_header-h.result c.is_symbol_table.result _
    c.section_header-h.ensures c.if-is_symbol_table.false c.is_symbol_table.ensures)
    (members_told o s c.section_header-h.result c.is_group.result _
    c.section_header-h.ensures c.if-is_group.false c.is_group.ensures)
    (sym c.holds_indexes.ensures ∙ c.if-holds_indexes.true) c.indexes.ensures

pub returns : goal.returns
returns g c =
    let o = c.args.elf.now.o in
    let s = c.args.s.0 in
    kept_bytes g.S.Source c.args.self.now s c.bytes_at_home.result c.args.elf.now
    c.bytes_at_home.new.elf
    (symbols_told o s c.section_header-h.result c.is_symbol_table.result _
    c.section_header-h.ensures c.if-is_symbol_table.false c.is_symbol_table.ensures)
    (members_told o s c.section_header-h.result c.is_group.result _
    c.section_header-h.ensures c.if-is_group.false c.is_group.ensures)
    (sym c.holds_indexes.ensures ∙ c.if-holds_indexes.false) c.bytes_at_home.ensures

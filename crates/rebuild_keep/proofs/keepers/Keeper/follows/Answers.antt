use Rattle.rebuild_keep.proofs.KeeperLaws.{symbols_told, members_told, follows_symbols, follows_members, follows_indexes}
use Rattle.rebuild_keep.proofs.keepers.Keeper.follows.Goals as goal

pub returns-then-is_symbol_table : goal.returns-then-is_symbol_table
returns-then-is_symbol_table g c =
    let o = c.args.elf.now.o in
    let s = c.args.s.0 in
    follows_symbols c.args.self.now o s
    (symbols_told o s c.section_header-h.result c.is_symbol_table.result _
    c.section_header-h.ensures c.if-is_symbol_table.true c.is_symbol_table.ensures)

pub returns-then-is_group : goal.returns-then-is_group
returns-then-is_group g c =
    let o = c.args.elf.now.o in
    let s = c.args.s.0 in
    follows_members c.args.self.now o s
    (symbols_told o s c.section_header-h.result c.is_symbol_table.result _
    c.section_header-h.ensures c.if-is_symbol_table.false c.is_symbol_table.ensures)
    (members_told o s c.section_header-h.result c.is_group.result _
    c.section_header-h.ensures c.if-is_group.true c.is_group.ensures)

pub returns : goal.returns
returns g c =
    let o = c.args.elf.now.o in
    let s = c.args.s.0 in
    follows_indexes c.args.self.now o s c.holds_indexes.result
    (symbols_told o s c.section_header-h.result c.is_symbol_table.result _
    c.section_header-h.ensures c.if-is_symbol_table.false c.is_symbol_table.ensures)
    (members_told o s c.section_header-h.result c.is_group.result _
    c.section_header-h.ensures c.if-is_group.false c.is_group.ensures)
    c.holds_indexes.ensures

use Rattle.std.proofs.Common.{sym, ap, ◌∙◌}
use Rattle.std.proofs.lemmas.Bool.{ne_eqb}
use Rattle.std.proofs.lemmas.Option.{IfSome_then}
use Rattle.elf_types.specs.declared.records.Shdr.{Shdr}
use Rattle.rebuild_keep.proofs.elf_update_plan.RowLaws.{ok_is}
use Rattle.rebuild_keep.proofs.KeeperLaws.{symbols_told, members_told}
use Rattle.rebuild_tables.proofs.FindLaws.{symbols_are_rows, indexes_are_rows}
use Rattle.rebuild_tables.proofs.finding.find_rows.Goals as goal

pub returns-then-is_symbol_table : goal.returns-then-is_symbol_table
returns-then-is_symbol_table g c =
    let o = c.args.elf.now.o in
    let s = c.args.s.0 in
    IfSome_then c.symbol_rows.result c.symbol_rows.ensures
    (λ x are. symbols_are_rows c.args.keeper.now c.args.elf.now.told o s x c.requires.object
    c.requires.clean c.requires.tied
    (ne_eqb s o.header.shstrndx
    (λ same. c.if-s-shstrndx.false (same ∙ sym (ok_is _ _ c.shstrndx.ensures))))
    (symbols_told o s c.section_header-h.result c.is_symbol_table.result _
    c.section_header-h.ensures c.if-is_symbol_table.true c.is_symbol_table.ensures) are)

pub returns : goal.returns
returns g c =
    let o = c.args.elf.now.o in
    let s = c.args.s.0 in
    IfSome_then c.index_rows.result c.index_rows.ensures
    (λ x are. indexes_are_rows c.args.keeper.now c.args.elf.now.told o s x c.requires.object
    c.requires.clean c.requires.tied
    (ne_eqb s o.header.shstrndx
    (λ same. c.if-s-shstrndx.false (same ∙ sym (ok_is _ _ c.shstrndx.ensures))))
    (symbols_told o s c.section_header-h.result c.is_symbol_table.result _
    c.section_header-h.ensures c.if-is_symbol_table.false c.is_symbol_table.ensures)
    (members_told o s c.section_header-h.result c.is_group.result _
    c.section_header-h.ensures c.if-is_group.false c.is_group.ensures)
    c.requires.makes c.section_header-h.result.link
    (ap (λ (h : Shdr). h.link) c.section_header-h.ensures) are)

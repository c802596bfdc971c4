use Rattle.std.proofs.Common.{refl, sym, subst}
use Rattle.std.proofs.lemmas.Result.{err_from_is_err_and}
use Rattle.elf_object.specs.Object.{Object}
use Rattle.elf_object.specs.Answers.{items_at}
use Rattle.tool_output.specs.Lines.{numbered_lines}
use Rattle.tool_output.specs.Reports.{shown_report}
use Rattle.tool_objects.proofs.ElfSteps.{elf_after, elf_as, elf_left, elf_says, elf_unread}
use Rattle.readelf_rows.specs.Links.{AreSectionLinks}
use Rattle.readelf_tables.specs.Tables.{HasRows}
use Rattle.readelf_tables.specs.Blocks.Blocks.{table_row, relocations_in_bytes}
use Rattle.readelf_tables.proofs.blocks.BlockLemmas.{table_same}
use Rattle.readelf_tables.proofs.relocations.show_relocations_of.Goals as goal

pub returns-in_err-load_table : goal.returns-in_err-load_table
returns-in_err-load_table g c =
    let s = c.args.table.section.0 in
    let p = err_from_is_err_and c.from_residual.result c.from_residual.ensures.1 in
    rw (p.1, p.2) (elf_unread g.S.Source g.O.Sink g.E.Sink _ _ (λ o. shown_report (numbered_lines (g.T.TableRow.line o s) 0 (g.T.Listed.list_of (items_at o s 0)))) c.args.elf.now _ c.args.outputs.now
    c.in_err-load_table.ensures)

pub returns-in-Some : goal.returns-in-Some
returns-in-Some g c =
    let s = c.args.table.section.0 in
    let t = c.in-Some.bytes in
    let loaded = c.load_table.new.elf in
    let links = subst (λ (o : Object). AreSectionLinks o s c.args.table.links) (sym c.in_ok-load_table.ensures.elf.object) c.requires.links in
    elf_after g.S.Source g.O.Sink g.E.Sink (λ o. shown_report (numbered_lines (g.T.TableRow.line o s) 0 (g.T.Listed.list_of (items_at o s 0))))
    (λ o. shown_report (numbered_lines (g.T.TableRow.line o s) 0 (g.T.Listed.list_of (items_at o s 0)))) _ c.args.elf.now loaded _ c.args.outputs.now _ c.in_ok-load_table.ensures.elf
    (elf_as g.S.Source g.O.Sink g.E.Sink (λ o. shown_report (numbered_lines (table_row g.T.Relocation.entry_of t) 0 (relocations_in_bytes g.T.Listed.kind g.T.Listed.list_of t)))
    (λ o. shown_report (numbered_lines (g.T.TableRow.line o s) 0 (g.T.Listed.list_of (items_at o s 0)))) _ loaded _ c.args.outputs.now _
    (λ told. table_same g.T.Listed.kind g.T.Listed.list_of g.T.TableRow.line g.T.Relocation.entry_of loaded c.args.table t links c.requires.lines c.in-Some.ensures told)
    (elf_says g.S.Source g.O.Sink g.E.Sink (λ o. shown_report (numbered_lines (table_row g.T.Relocation.entry_of t) 0 (relocations_in_bytes g.T.Listed.kind g.T.Listed.list_of t))) _ loaded _ c.args.outputs.now _
    (elf_left g.S.Source loaded) (λ told. c.show_blocks.ensures.reports) c.show_blocks.ensures.leaves))
    (λ told. refl)

pub show_each-requires : goal.show_each-requires
show_each-requires g c =
    subst (λ (o : Object). HasRows g.T.Listed.kind g.T.Listed.list_of g.T.TableRow.fits o c.args.table) (sym c.in_ok-load_table.ensures.elf.object) c.requires.rows

pub returns-in-None : goal.returns-in-None
returns-in-None g c =
    let s = c.args.table.section.0 in
    elf_after g.S.Source g.O.Sink g.E.Sink (λ o. shown_report (numbered_lines (g.T.TableRow.line o s) 0 (g.T.Listed.list_of (items_at o s 0))))
    (λ o. shown_report (numbered_lines (g.T.TableRow.line o s) 0 (g.T.Listed.list_of (items_at o s 0)))) _ c.args.elf.now _ _ c.args.outputs.now _ c.in_ok-load_table.ensures.elf
    c.show_each.ensures (λ told. refl)

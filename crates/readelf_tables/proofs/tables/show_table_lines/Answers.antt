use Rattle.std.proofs.Common.{length, refl, sym, subst}
use Rattle.std.proofs.lemmas.Result.{err_from_is_err_and}
use Rattle.elf_object.specs.Object.{Object}
use Rattle.elf_object.specs.Answers.{items_at}
use Rattle.elf_object.specs.Strings as strings
use Rattle.tool_output.specs.Lines.{numbered_lines}
use Rattle.tool_output.specs.Reports.{shown_report}
use Rattle.tool_objects.proofs.ElfSteps.{elf_as, elf_stop, elf_then, elf_then_stop}
use Rattle.readelf_tables.specs.Tables.{table_title, item_table_report, HasRows}
use Rattle.readelf_tables.proofs.TableLemmas.{titled_as}
use Rattle.readelf_tables.proofs.tables.show_table_lines.Goals as goal

pub show_rows-requires : goal.show_rows-requires
show_rows-requires g c =
    subst (λ (o : Object). HasRows g.T.Listed.kind g.T.Listed.list_of g.T.TableRow.fits o c.args.table) (sym c.in_ok-titled.ensures.elf.object) c.requires

pub returns-in_err-titled : goal.returns-in_err-titled
unfolding item_table_report
returns-in_err-titled g c =
    let s = c.args.table.section.0 in
    let o = c.args.elf.now.o in
    let p = err_from_is_err_and c.from_residual.result c.from_residual.ensures.1 in
    rw (p.1, p.2) (elf_stop g.S.Source g.O.Sink g.E.Sink (λ o. shown_report (table_title g.T.TableRow.title s (strings.section_name o s) (length (g.T.Listed.list_of (items_at o s 0)))))
    (λ o. shown_report (numbered_lines (g.T.TableRow.line o s) 0 (g.T.Listed.list_of (items_at o s 0)))) c.args.elf.now _ c.args.outputs.now _ _
    (elf_as g.S.Source g.O.Sink g.E.Sink _ (λ o. shown_report (table_title g.T.TableRow.title s (strings.section_name o s) (length (g.T.Listed.list_of (items_at o s 0))))) _ c.args.elf.now _ c.args.outputs.now _
    (λ told. titled_as _ g.T.TableRow.title s (strings.section_name o s) c.args.table.count _ c.title.ensures c.requires.count) c.in_err-titled.ensures))

pub returns-in_err-rows : goal.returns-in_err-rows
unfolding item_table_report
returns-in_err-rows g c =
    let s = c.args.table.section.0 in
    let o = c.args.elf.now.o in
    let p = err_from_is_err_and c.from_residual-in_err-rows.result c.from_residual-in_err-rows.ensures.1 in
    rw (p.1, p.2) (elf_then_stop g.S.Source g.O.Sink g.E.Sink (λ o. shown_report (table_title g.T.TableRow.title s (strings.section_name o s) (length (g.T.Listed.list_of (items_at o s 0)))))
    (λ o. shown_report (numbered_lines (g.T.TableRow.line o s) 0 (g.T.Listed.list_of (items_at o s 0)))) c.args.elf.now _ _ c.args.outputs.now _ _ _ _
    (elf_as g.S.Source g.O.Sink g.E.Sink _ (λ o. shown_report (table_title g.T.TableRow.title s (strings.section_name o s) (length (g.T.Listed.list_of (items_at o s 0))))) _ c.args.elf.now _ c.args.outputs.now _
    (λ told. titled_as _ g.T.TableRow.title s (strings.section_name o s) c.args.table.count _ c.title.ensures c.requires.count) c.in_ok-titled.ensures)
    c.in_err-rows.ensures)

pub returns : goal.returns
unfolding item_table_report
returns g c =
    let s = c.args.table.section.0 in
    let o = c.args.elf.now.o in
    elf_then g.S.Source g.O.Sink g.E.Sink (λ o. shown_report (table_title g.T.TableRow.title s (strings.section_name o s) (length (g.T.Listed.list_of (items_at o s 0)))))
    (λ o. shown_report (numbered_lines (g.T.TableRow.line o s) 0 (g.T.Listed.list_of (items_at o s 0)))) c.args.elf.now _ _ c.args.outputs.now _ _ _ _ _ refl
    (elf_as g.S.Source g.O.Sink g.E.Sink _ (λ o. shown_report (table_title g.T.TableRow.title s (strings.section_name o s) (length (g.T.Listed.list_of (items_at o s 0))))) _ c.args.elf.now _ c.args.outputs.now _
    (λ told. titled_as _ g.T.TableRow.title s (strings.section_name o s) c.args.table.count _ c.title.ensures c.requires.count) c.in_ok-titled.ensures)
    c.in_ok-rows.ensures

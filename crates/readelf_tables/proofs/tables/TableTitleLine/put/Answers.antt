use Rattle.readelf_rows.proofs.TextLemmas.{text_then, texts_end}
use Rattle.readelf_tables.specs.Tables.{table_title}
use Rattle.readelf_tables.proofs.tables.TableTitleLine.put.Goals as goal

pub returns-clause-ok : goal.returns-clause-ok
unfolding table_title
returns-clause-ok c =
    let p = c.args.page.now in
    let two = text_then p _ _ _ _ c.in_ok-put_data_title.ensures.ok c.in_ok-put_text.ensures.ok in
    let three = text_then p _ _ _ _ two c.in_ok-put_decimal.ensures.ok in
    texts_end c.put_text-2.result p _ _ _ _ three c.put_text-2.ensures.ok

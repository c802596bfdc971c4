use Rattle.readelf_rows.proofs.TextLemmas.{text_then, texts_end}
use Rattle.readelf_headers.specs.Header.{header_lines}
use Rattle.readelf_headers.proofs.headers.HeaderLinesLine.put.Goals as goal

pub returns-clause-ok : goal.returns-clause-ok
unfolding header_lines
returns-clause-ok c =
    let p = c.args.page.now in
    let two = text_then p _ _ _ _ c.in_ok-put_title.ensures.ok c.in_ok-put_ident.ensures.ok in
    let three = text_then p _ _ _ _ two c.in_ok-put_type.ensures.ok in
    let four = text_then p _ _ _ _ three c.in_ok-put_places.ensures.ok in
    texts_end c.put_tables.result p _ _ _ _ four c.put_tables.ensures.ok

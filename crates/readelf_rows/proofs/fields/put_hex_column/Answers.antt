use Rattle.readelf_rows.proofs.TextLemmas.{text_then, texts_end}
use Rattle.readelf_rows.specs.Fields.{hex_column}
use Rattle.readelf_rows.proofs.fields.put_hex_column.Goals as goal

pub returns-clause-ok : goal.returns-clause-ok
unfolding hex_column
returns-clause-ok c =
    let p = c.args.page.now in
    let two = text_then p _ _ _ _ c.in_ok-put_text.ensures.ok c.in_ok-put_text-2.ensures.ok in
    let three = text_then p _ _ _ _ two c.in_ok-put_text-3.ensures.ok in
    texts_end c.put_hex.result p _ _ _ _ three c.put_hex.ensures.ok

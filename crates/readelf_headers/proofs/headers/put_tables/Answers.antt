use Rattle.readelf_rows.proofs.TextLemmas.{text_then, texts_end}
use Rattle.readelf_headers.specs.Header.{table_lines}
use Rattle.readelf_headers.proofs.headers.put_tables.Goals as goal

pub returns-clause-ok : goal.returns-clause-ok
unfolding table_lines
returns-clause-ok c =
    let p = c.args.page.now in
    let two = text_then p _ _ _ _ c.in_ok-put_decimal_field.ensures.ok c.in_ok-put_decimal_field-2.ensures.ok in
    let three = text_then p _ _ _ _ two c.in_ok-put_decimal_field-3.ensures.ok in
    let four = text_then p _ _ _ _ three c.in_ok-put_decimal_field-4.ensures.ok in
    let five = text_then p _ _ _ _ four c.in_ok-put_decimal_field-5.ensures.ok in
    rw (← c.from.ensures, ← c.from-2.ensures, ← c.from-3.ensures, ← c.from-4.ensures, ← c.from-5.ensures, ← c.from-6.ensures) (texts_end c.put_decimal_field-6.result p _ _ _ _ five c.put_decimal_field-6.ensures.ok)

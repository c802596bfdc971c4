use Rattle.readelf_rows.proofs.TextLemmas.{text_then, texts_end}
use Rattle.readelf_headers.specs.Header.{place_lines}
use Rattle.readelf_headers.proofs.headers.put_places.Goals as goal

pub returns-clause-ok : goal.returns-clause-ok
unfolding place_lines
returns-clause-ok c =
    let p = c.args.page.now in
    let two = text_then p _ _ _ _ c.in_ok-put_hex_field.ensures.ok c.in_ok-put_decimal_field.ensures.ok in
    let three = text_then p _ _ _ _ two c.in_ok-put_decimal_field-2.ensures.ok in
    rw (← c.from.ensures) (texts_end c.put_hex_field-2.result p _ _ _ _ three c.put_hex_field-2.ensures.ok)

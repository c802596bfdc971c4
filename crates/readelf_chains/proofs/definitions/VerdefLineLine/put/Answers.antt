use Rattle.readelf_rows.proofs.TextLemmas.{text_then, texts_end}
use Rattle.readelf_chains.specs.Definitions.{verdef_line}
use Rattle.readelf_chains.proofs.definitions.VerdefLineLine.put.Goals as goal

pub returns-clause-ok : goal.returns-clause-ok
unfolding verdef_line
returns-clause-ok c =
    let p = c.args.page.now in
    let two = text_then p _ _ _ _ c.in_ok-put_text.ensures.ok c.in_ok-put_decimal_column.ensures.ok in
    let three = text_then p _ _ _ _ two c.in_ok-put_hex_column.ensures.ok in
    let four = text_then p _ _ _ _ three c.in_ok-put_hex_column-2.ensures.ok in
    rw (← c.from.ensures, ← c.from-2.ensures, ← c.from-3.ensures) (texts_end c.put_text-2.result p _ _ _ _ four c.put_text-2.ensures.ok)

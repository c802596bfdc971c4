use Rattle.readelf_rows.proofs.TextLemmas.{text_then, texts_end}
use Rattle.readelf_rows.specs.Data.{data_title}
use Rattle.readelf_rows.proofs.data.put_data_title.Goals as goal

pub returns-clause-ok : goal.returns-clause-ok
unfolding data_title
returns-clause-ok c =
    let p = c.args.page.now in
    let two = text_then p _ _ _ _ c.in_ok-put_text.ensures.ok c.in_ok-put_decimal.ensures.ok in
    let three = text_then p _ _ _ _ two c.in_ok-put_text-2.ensures.ok in
    rw (← c.from.ensures) (texts_end c.put.result p _ _ _ _ three c.put.ensures.ok)

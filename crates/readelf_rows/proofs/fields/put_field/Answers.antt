use Rattle.readelf_rows.proofs.TextLemmas.{text_then, texts_end}
use Rattle.readelf_rows.specs.Fields.{field_line}
use Rattle.readelf_rows.proofs.fields.put_field.Goals as goal

pub returns-clause-ok : goal.returns-clause-ok
unfolding field_line
returns-clause-ok c =
    let p = c.args.page.now in
    let two = text_then p _ _ _ _ c.in_ok-put_title.ensures.ok c.in_ok-put_text.ensures.ok in
    texts_end c.put_text-2.result p _ _ _ _ two c.put_text-2.ensures.ok

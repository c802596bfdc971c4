use Rattle.readelf_rows.proofs.TextLemmas.{text_then, texts_end}
use Rattle.readelf_chains.specs.Notes.{note_line}
use Rattle.readelf_chains.proofs.notes.NoteLineLine.put.Goals as goal

pub returns-clause-ok : goal.returns-clause-ok
unfolding note_line
returns-clause-ok c =
    let p = c.args.page.now in
    let two = text_then p _ _ _ _ c.in_ok-put_owner.ensures.ok c.in_ok-put_decimal_column.ensures.ok in
    let three = text_then p _ _ _ _ two c.in_ok-put_decimal_column-2.ensures.ok in
    let four = text_then p _ _ _ _ three c.in_ok-put_desc.ensures.ok in
    rw (← c.from.ensures) (texts_end c.put_text.result p _ _ _ _ four c.put_text.ensures.ok)

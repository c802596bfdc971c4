use Rattle.readelf_rows.proofs.TextLemmas.{text_then, texts_end}
use Rattle.readelf_headers.specs.Segments.{phdr_line}
use Rattle.readelf_headers.proofs.segments.SegmentLineLine.put.Goals as goal

pub returns-clause-ok : goal.returns-clause-ok
unfolding phdr_line
returns-clause-ok c =
    let p = c.args.page.now in
    let two = text_then p _ _ _ _ c.in_ok-put_start.ensures.ok c.in_ok-put_places.ensures.ok in
    let three = text_then p _ _ _ _ two c.in_ok-put_sizes.ensures.ok in
    texts_end c.put_end.result p _ _ _ _ three c.put_end.ensures.ok

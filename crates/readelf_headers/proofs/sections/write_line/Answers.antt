use Rattle.readelf_rows.proofs.FrontLemmas.{precedes_then, precedes_as}
use Rattle.readelf_headers.proofs.SectionLemmas.{named_before, unnamed}
use Rattle.readelf_headers.proofs.sections.write_line.Goals as goal

pub returns-else-end-name : goal.returns-else-end-name
returns-else-end-name c =
    let two = precedes_then c.write_end-closed.ensures.wrote c.write_bytes-named.ensures in
    rw (c.in-Some.is, ← c.from.ensures)
    (precedes_as (named_before c.from.result c.args.h.now c.in-Some.name.now)
    (precedes_then two c.write_front.ensures))

pub returns-in-None : goal.returns-in-None
returns-in-None c =
    rw (c.in-None.is, ← c.from-in-None.ensures)
    (precedes_as (unnamed c.from-in-None.result c.args.h.now)
    (precedes_then c.write_end-closed-in-None.ensures.wrote c.write_front-in-None.ensures))

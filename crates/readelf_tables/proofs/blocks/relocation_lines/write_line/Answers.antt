use Rattle.readelf_rows.proofs.FrontLemmas.{precedes_then, precedes_as}
use Rattle.readelf_tables.proofs.blocks.LineLemmas.{named_before, unnamed}
use Rattle.readelf_tables.proofs.blocks.relocation_lines.write_line.Goals as goal

pub returns-else-end-name : goal.returns-else-end-name
returns-else-end-name c =
    let e = c.args.line.now.entry in
    let two = precedes_then c.write_end-closed.ensures.wrote c.write_bytes-named.ensures in
    rw c.in-Some.is
    (precedes_as (named_before e.index e.rel e.addend c.in-Some.name.now)
    (precedes_then two c.write_front.ensures))

pub returns-in-None : goal.returns-in-None
returns-in-None c =
    let e = c.args.line.now.entry in
    rw c.in-None.is
    (precedes_as (unnamed e.index e.rel e.addend)
    (precedes_then c.write_end-closed-in-None.ensures.wrote c.write_front-in-None.ensures))

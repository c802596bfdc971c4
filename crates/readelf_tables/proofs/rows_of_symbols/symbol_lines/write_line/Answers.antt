use Rattle.readelf_rows.proofs.FrontLemmas.{precedes_then, precedes_as}
use Rattle.readelf_tables.proofs.rows_of_symbols.LineLemmas.{behind_named, front_unnamed}
use Rattle.readelf_tables.proofs.rows_of_symbols.symbol_lines.write_line.Goals as goal

pub returns-else-end-name : goal.returns-else-end-name
returns-else-end-name c =
    let l = c.args.line.now in
    let two = precedes_then c.write_text-closed.ensures c.write_bytes-named.ensures in
    rw c.in-Some.is
    (precedes_as (behind_named l.index l.symbol l.place c.in-Some.name.now)
    (precedes_then two c.write_front.ensures))

pub returns-in-None : goal.returns-in-None
returns-in-None c =
    let l = c.args.line.now in
    rw c.in-None.is
    (precedes_as (front_unnamed l.index l.symbol l.place) c.write_front-in-None.ensures)

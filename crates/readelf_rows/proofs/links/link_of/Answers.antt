use Rattle.std.proofs.Common.{sym}
use Rattle.readelf_rows.proofs.LinkLemmas.{absent_link}
use Rattle.readelf_rows.proofs.links.link_of.Goals as goal

pub returns-in-Err : goal.returns-in-Err
returns-in-Err g c = absent_link c.args.elf.now.o c.args.s.0 _ (sym c.in-Err.ensures)

use Rattle.tool_output.specs.Reports.{shown_report}
use Rattle.tool_objects.proofs.ElfSteps.{elf_left, elf_says}
use Rattle.readelf_tables.specs.Indexes.{index_row}
use Rattle.readelf_tables.proofs.indexes.U16TableRow.show.Goals as goal

pub returns : goal.returns
unfolding index_row
returns g c =
    elf_says g.S.Source g.O.Sink g.E.Sink (λ o. shown_report (index_row o c.args._s.0 c.args.i c.args.self)) _ c.args._elf.now _ c.args.outputs.now _ (elf_left g.S.Source c.args._elf.now)
    (λ told. c.show.ensures.reports) c.show.ensures.leaves

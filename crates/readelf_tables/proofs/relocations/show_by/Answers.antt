use Rattle.tool_output.specs.Reports.{shown_report}
use Rattle.tool_objects.proofs.ElfSteps.{elf_left, elf_says}
use Rattle.readelf_tables.specs.Blocks.RelocationLines.{symbol_string, relocation_line}
use Rattle.readelf_tables.proofs.relocations.show_by.Goals as goal

pub returns-in-Some : goal.returns-in-Some
unfolding symbol_string
returns-in-Some g c = rw c.in-Some.is c.show_named.ensures

pub returns-in-None : goal.returns-in-None
unfolding symbol_string
returns-in-None g c =
    let r = c.args.entry in
    elf_says g.S.Source g.O.Sink g.E.Sink (λ o. shown_report (relocation_line r.index r.rel r.addend (symbol_string o c.args.names.0 c.args.found))) _ c.args.elf.now _ c.args.outputs.now _ (elf_left g.S.Source c.args.elf.now)
    (λ told. rw c.in-None.is c.show.ensures.reports) c.show.ensures.leaves

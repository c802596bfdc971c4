use Rattle.std.proofs.Common.{List, ℕ, Option, ap}
use Rattle.tool_output.specs.Reports.{shown_report}
use Rattle.tool_objects.proofs.ElfSteps.{elf_as, elf_learns, elf_learns_none}
use Rattle.readelf_tables.specs.Blocks.RelocationLines.{section_symbol, symbol_string, relocation_name, relocation_line}
use Rattle.readelf_tables.proofs.blocks.BlockLemmas.{relocation_name_is}
use Rattle.readelf_tables.proofs.relocations.show_relocation.Goals as goal

pub returns-in-Ok : goal.returns-in-Ok
returns-in-Ok g c =
    let r = c.args.entry in
    let links = c.args.links in
    elf_as g.S.Source g.O.Sink g.E.Sink (λ o. shown_report (relocation_line r.index r.rel r.addend (symbol_string o links.strings.0 (section_symbol o links.linked.0 r.rel.sym))))
    (λ o. shown_report (relocation_line r.index r.rel r.addend (relocation_name o c.args.s.0 r.rel.sym))) _ c.args.elf.now _ c.args.outputs.now _
    (λ told. ap (λ (n : Option (List ℕ)). shown_report (relocation_line r.index r.rel r.addend n)) (relocation_name_is c.args.elf.now.o c.args.s.0 r.rel.sym links c.requires))
    (elf_learns g.S.Source g.O.Sink g.E.Sink (λ o. section_symbol o links.linked.0 r.rel.sym) c.args.elf.now _ c.in-Ok.found (λ v o. shown_report (relocation_line r.index r.rel r.addend (symbol_string o links.strings.0 v))) _ _ c.args.outputs.now _
    c.in-Ok.ensures c.show_by.ensures)

pub returns-in-Err : goal.returns-in-Err
returns-in-Err g c =
    let r = c.args.entry in
    elf_learns_none g.S.Source g.O.Sink g.E.Sink (λ o. section_symbol o c.args.links.linked.0 r.rel.sym) c.args.elf.now _ c.in-Err.stop (λ o. shown_report (relocation_line r.index r.rel r.addend (relocation_name o c.args.s.0 r.rel.sym))) c.args.outputs.now c.in-Err.ensures

use Rattle.elf_object.specs.Strings as strings
use Rattle.tool_output.specs.Reports.{shown_report}
use Rattle.tool_objects.proofs.ElfSteps.{elf_says, elf_unread}
use Rattle.readelf_tables.specs.Blocks.RelocationLines.{relocation_line}
use Rattle.tool_objects.proofs.LearnLemmas.{elf_read}
use Rattle.readelf_tables.proofs.relocations.show_named.Goals as goal

pub returns-in-Ok : goal.returns-in-Ok
returns-in-Ok g c =
    let r = c.args.entry in
    elf_says g.S.Source g.O.Sink g.E.Sink (λ o. shown_report (relocation_line r.index r.rel r.addend (strings.readable (strings.string_answer o c.args.names.0 c.args.symbol.name)))) _ c.args.elf.now _ c.args.outputs.now _
    (elf_read g.S.Source _ _ c.args.elf.now _ c.in-Ok.is c.string_at.follows.holds-at-none) (λ told. rw (← c.from.ensures, ← c.in-Ok.ensures.value told) c.show.ensures.reports) c.show.ensures.leaves

pub returns-in-Err : goal.returns-in-Err
returns-in-Err g c =
    let r = c.args.entry in
    elf_unread g.S.Source g.O.Sink g.E.Sink _ c.in-Err.stop (λ o. shown_report (relocation_line r.index r.rel r.addend (strings.readable (strings.string_answer o c.args.names.0 c.args.symbol.name)))) c.args.elf.now _ c.args.outputs.now
    (rw c.in-Err.is at c.string_at.follows.holds-at-none)

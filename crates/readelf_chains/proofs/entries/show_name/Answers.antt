use Rattle.elf_object.specs.Strings as strings
use Rattle.tool_output.specs.Reports.{shown_report}
use Rattle.tool_objects.proofs.ElfSteps.{elf_says, elf_unread}
use Rattle.tool_objects.proofs.LearnLemmas.{elf_read}
use Rattle.readelf_chains.proofs.entries.show_name.Goals as goal

pub returns-in-Ok : goal.returns-in-Ok
returns-in-Ok g c =
    let aux = g.A.Aux in
    let x = c.args.aux in
    elf_says g.S.Source g.O.Sink g.E.Sink (λ o. shown_report (aux.line x (strings.readable (strings.string_answer o c.args.linked.0 (aux.string x))))) _ c.args.elf.now _ c.args.outputs.now _
    (elf_read g.S.Source _ _ c.args.elf.now _ c.in-Ok.is c.string_at.follows.holds-at-none) (λ told. rw (← c.string.ensures, ← c.from.ensures, ← c.in-Ok.ensures.value told) c.show.ensures.reports) c.show.ensures.leaves

pub returns-in-Err : goal.returns-in-Err
returns-in-Err g c =
    let aux = g.A.Aux in
    let x = c.args.aux in
    elf_unread g.S.Source g.O.Sink g.E.Sink _ c.in-Err.stop (λ o. shown_report (aux.line x (strings.readable (strings.string_answer o c.args.linked.0 (aux.string x))))) c.args.elf.now _ c.args.outputs.now
    (rw c.in-Err.is at c.string_at.follows.holds-at-none)

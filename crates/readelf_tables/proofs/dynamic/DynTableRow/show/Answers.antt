use Rattle.std.proofs.Common.{sym, ap, ◌∙◌}
use Rattle.elf_object.specs.Strings as strings
use Rattle.tool_output.specs.Reports.{shown_report}
use Rattle.tool_objects.proofs.ElfSteps.{elf_left, elf_as, elf_says}
use Rattle.readelf_tables.specs.Dynamic.{dyn_name_line, dyn_row}
use Rattle.readelf_rows.proofs.LinkLemmas.{linked_is}
use Rattle.readelf_tables.proofs.DynamicLemmas.{row_named, row_valued}
use Rattle.readelf_tables.proofs.dynamic.DynTableRow.show.Goals as goal

pub returns-then-names_string : goal.returns-then-names_string
returns-then-names_string g c =
    let s = c.args.s.0 in
    let x = c.args.self in
    elf_as g.S.Source g.O.Sink g.E.Sink (λ o. shown_report (dyn_name_line c.args.i x (strings.readable (strings.string_answer o c.args.links.linked.0 x.val)))) (λ o. shown_report (dyn_row o s c.args.i x)) _
    c.args.elf.now _ c.args.outputs.now _
    (λ told. ap shown_report (row_named c.args.elf.now.o s x c.args.i (sym c.names_string.ensures ∙ c.if-names_string.true)
    ∙ ap (dyn_name_line c.args.i x) (linked_is c.args.elf.now.o s x.val c.args.links.linked.0 c.requires.fits.linked))) c.show_name.ensures

pub returns : goal.returns
returns g c =
    let s = c.args.s.0 in
    let x = c.args.self in
    elf_says g.S.Source g.O.Sink g.E.Sink (λ o. shown_report (dyn_row o s c.args.i x)) _ c.args.elf.now _ c.args.outputs.now _ (elf_left g.S.Source c.args.elf.now)
    (λ told. rw (row_valued c.args.elf.now.o s x c.args.i (sym c.names_string.ensures ∙ c.if-names_string.false)) c.show.ensures.reports) c.show.ensures.leaves

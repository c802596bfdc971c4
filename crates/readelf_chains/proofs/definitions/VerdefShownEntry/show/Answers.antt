use Rattle.std.proofs.lemmas.Result.{err_from_is_err_and}
use Rattle.tool_objects.specs.gelf_view.Chains.{verdauxs, first_aux}
use Rattle.tool_output.specs.Reports.{shown_report}
use Rattle.tool_objects.proofs.ElfSteps.{elf_left, elf_says, elf_stop, elf_shown_then}
use Rattle.readelf_rows.specs.Links.{linked_string}
use Rattle.readelf_chains.specs.Chains.{chain_report}
use Rattle.readelf_chains.specs.Entries.{entry_report}
use Rattle.readelf_chains.specs.Definitions.{verdef_line, verdaux_line, verdef_report}
use Rattle.readelf_chains.proofs.definitions.VerdefShownEntry.show.Goals as goal

pub returns-in_err-show : goal.returns-in_err-show
unfolding verdef_report entry_report
returns-in_err-show g c =
    let s = c.args.s.0 in
    let name = c.args.name.now in
    let x = c.args.self.now in
    let p = err_from_is_err_and c.from_residual.result c.from_residual.ensures.1 in
    rw (p.1, p.2) (elf_stop g.S.Source g.O.Sink g.E.Sink (λ o. shown_report (verdef_line x))
    (λ o. chain_report name s (λ y. shown_report (verdaux_line y (linked_string o s y.name))) (verdauxs o s 0 (first_aux c.args.at x.aux x.cnt))) c.args.elf.now _ c.args.outputs.now _ _
    (elf_says g.S.Source g.O.Sink g.E.Sink (λ o. shown_report (verdef_line x)) _ c.args.elf.now _ c.args.outputs.now _ (elf_left g.S.Source c.args.elf.now)
    (λ told. c.in_err-show.ensures.reports) c.in_err-show.ensures.leaves))

pub returns : goal.returns
unfolding verdef_report entry_report
returns g c =
    let s = c.args.s.0 in
    let name = c.args.name.now in
    let x = c.args.self.now in
    elf_shown_then g.S.Source g.O.Sink g.E.Sink (λ o. verdef_line x)
    (λ o. chain_report name s (λ y. shown_report (verdaux_line y (linked_string o s y.name))) (verdauxs o s 0 (first_aux c.args.at x.aux x.cnt))) c.show_names.result _ c.args.elf.now _ _ c.args.outputs.now _ _
    (elf_says g.S.Source g.O.Sink g.E.Sink (λ o. shown_report (verdef_line x)) _ c.args.elf.now _ c.args.outputs.now _ (elf_left g.S.Source c.args.elf.now)
    (λ told. c.in_ok-show.ensures.reports) c.in_ok-show.ensures.leaves)
    (rw c.first_aux-first.ensures at c.show_names.ensures)

use Rattle.std.proofs.Common.{◌≡◌, ℕ, List, Option, sym, ap, subst}
use Rattle.std.proofs.lemmas.Result.{err_from_is_err_and}
use Rattle.elf_object.specs.Object.{Object, section_at}
use Rattle.tool_objects.specs.gelf_view.Chains.{vernauxs, first_aux}
use Rattle.tool_output.specs.Reports.{shown_report}
use Rattle.tool_objects.proofs.ElfSteps.{elf_as, elf_stop, elf_shown_then}
use Rattle.readelf_rows.specs.Links.{linked_string}
use Rattle.readelf_chains.specs.Chains.{chain_report}
use Rattle.readelf_chains.specs.Entries.{entry_report}
use Rattle.readelf_chains.specs.Needs.{verneed_line, vernaux_line, verneed_report}
use Rattle.readelf_rows.proofs.LinkLemmas.{linked_is}
use Rattle.readelf_chains.proofs.needs.VerneedShownEntry.show.Goals as goal

pub show_names-requires : goal.show_names-requires
show_names-requires g c =
    subst (λ (o : Object). c.links_of.result.linked.0 ≡ (section_at o c.args.s.0).header.link) (sym c.in_ok-show_file.ensures.elf.object) c.links_of.ensures.linked

pub returns-in_err-show_file : goal.returns-in_err-show_file
unfolding verneed_report entry_report
returns-in_err-show_file g c =
    let s = c.args.s.0 in
    let name = c.args.name.now in
    let x = c.args.self.now in
    let p = err_from_is_err_and c.from_residual.result c.from_residual.ensures.1 in
    rw (p.1, p.2) (elf_stop g.S.Source g.O.Sink g.E.Sink (λ o. shown_report (verneed_line (linked_string o s x.file)))
    (λ o. chain_report name s (λ y. shown_report (vernaux_line y (linked_string o s y.name))) (vernauxs o s 0 (first_aux c.args.at x.aux x.cnt))) c.args.elf.now _ c.args.outputs.now _ _
    (elf_as g.S.Source g.O.Sink g.E.Sink _ (λ o. shown_report (verneed_line (linked_string o s x.file))) _ c.args.elf.now _ c.args.outputs.now _
    (λ told. ap (λ (n : Option (List ℕ)). shown_report (verneed_line n)) (linked_is c.args.elf.now.o s x.file c.links_of.result.linked.0 c.links_of.ensures.linked)) c.in_err-show_file.ensures))

pub returns : goal.returns
unfolding verneed_report entry_report
returns g c =
    let s = c.args.s.0 in
    let name = c.args.name.now in
    let x = c.args.self.now in
    elf_shown_then g.S.Source g.O.Sink g.E.Sink (λ o. verneed_line (linked_string o s x.file))
    (λ o. chain_report name s (λ y. shown_report (vernaux_line y (linked_string o s y.name))) (vernauxs o s 0 (first_aux c.args.at x.aux x.cnt))) c.show_names.result _ c.args.elf.now _ _ c.args.outputs.now _ _
    (elf_as g.S.Source g.O.Sink g.E.Sink _ (λ o. shown_report (verneed_line (linked_string o s x.file))) _ c.args.elf.now _ c.args.outputs.now _
    (λ told. ap (λ (n : Option (List ℕ)). shown_report (verneed_line n)) (linked_is c.args.elf.now.o s x.file c.links_of.result.linked.0 c.links_of.ensures.linked)) c.in_ok-show_file.ensures)
    (rw c.first_aux-first.ensures at c.show_names.ensures)

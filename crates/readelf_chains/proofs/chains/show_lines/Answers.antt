use Rattle.std.proofs.Common.{ℕ, List, sym, ap, subst}
use Rattle.std.proofs.lemmas.Result.{err_from_is_err_and}
use Rattle.elf_object.specs.Object.{Object}
use Rattle.elf_object.specs.Strings as strings
use Rattle.tool_output.specs.Reports.{shown_report}
use Rattle.tool_objects.proofs.ElfSteps.{elf_as, elf_stop, elf_shown_then}
use Rattle.readelf_chains.specs.Chains.{HasRecords, chain_title, chain_lines}
use Rattle.readelf_chains.proofs.chains.show_lines.Goals as goal

pub show-requires : goal.show-requires
show-requires g c = subst (λ (o : Object). HasRecords o c.args.s.0 c.args.first) (sym c.in_ok-show_title.ensures.elf.object) c.requires

pub returns-in_err-show_title : goal.returns-in_err-show_title
unfolding chain_lines
returns-in_err-show_title g c =
    let s = c.args.s.0 in
    let records = g.R.Records in
    let p = err_from_is_err_and c.from_residual.result c.from_residual.ensures.1 in
    rw (p.1, p.2) (elf_stop g.S.Source g.O.Sink g.E.Sink (λ o. shown_report (chain_title records.title s (strings.section_name o s))) (λ o. records.report c.args.name.now o s) c.args.elf.now _ c.args.outputs.now _ _
    (elf_as g.S.Source g.O.Sink g.E.Sink _ (λ o. shown_report (chain_title records.title s (strings.section_name o s))) _ c.args.elf.now _ c.args.outputs.now _
    (λ told. ap (λ (t : List ℕ). shown_report (chain_title t s (strings.section_name c.args.elf.now.o s))) (sym c.title.ensures)) c.in_err-show_title.ensures))

pub returns : goal.returns
unfolding chain_lines
returns g c =
    let s = c.args.s.0 in
    let records = g.R.Records in
    elf_shown_then g.S.Source g.O.Sink g.E.Sink (λ o. chain_title records.title s (strings.section_name o s)) (λ o. records.report c.args.name.now o s) c.show.result _ c.args.elf.now _ _ c.args.outputs.now _ _
    (elf_as g.S.Source g.O.Sink g.E.Sink _ (λ o. shown_report (chain_title records.title s (strings.section_name o s))) _ c.args.elf.now _ c.args.outputs.now _
    (λ told. ap (λ (t : List ℕ). shown_report (chain_title t s (strings.section_name c.args.elf.now.o s))) (sym c.title.ensures)) c.in_ok-show_title.ensures)
    c.show.ensures

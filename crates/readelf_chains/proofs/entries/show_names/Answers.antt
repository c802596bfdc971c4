use Rattle.std.proofs.Common.{◌≡◌, ℕ, List, Option, false, Ok, refl, sym, ap, subst}
use Rattle.std.proofs.lemmas.Result.{err_from_is_err_and}
use Rattle.elf_types.specs.Text.{error_text}
use Rattle.elf_object.specs.Object.{Object, section_at}
use Rattle.tool_output.specs.Messages.{section_message}
use Rattle.tool_output.specs.Reports.{no_report, shown_report, joined_reports}
use Rattle.tool_objects.proofs.ElfSteps.{elf_begins, elf_stops_at, elf_says_none, elf_refuses, elf_after}
use Rattle.tool_objects.proofs.AnswerLemmas.{led_broken}
use Rattle.tool_objects.proofs.QueryLemmas.{queried, looked_by}
use Rattle.tool_objects.proofs.OnceReads.{once_read}
use Rattle.readelf_rows.specs.Data.{readelf_refusal}
use Rattle.readelf_rows.specs.Links.{linked_string}
use Rattle.readelf_chains.specs.Chains.{chain_report}
use Rattle.readelf_rows.proofs.LinkLemmas.{linked_is}
use Rattle.readelf_chains.proofs.ChainLemmas.{at_start, elf_line_shown, elf_ends_with, chain_leading, chain_ended, chain_broken}
use Rattle.readelf_chains.proofs.entries.show_names.Goals as goal

pub names-init : goal.names-init
names-init g c = elf_begins g.S.Source g.O.Sink g.E.Sink c.args.elf.now c.args.outputs.now _

pub names-preserved : goal.names-preserved
names-preserved g c =
    let s = c.args.s.0 in
    let name = c.args.name.now in
    let aux = g.A.Aux in
    let x = c.in-Ok-Some.aux in
    let chain = rw c.in-Ok-Some.field-0-is at c.in-Ok-Some.ensures.chain in
    let linked = subst (λ (o : Object). c.args.linked.0 ≡ (section_at o s).header.link) (sym c.names.invariant.elf.object) c.requires in
    elf_line_shown c.names.invariant (λ o. aux.line x (linked_string o s (aux.string x)))
    (λ o. chain_report name s (λ y. shown_report (aux.line y (linked_string o s (aux.string y)))) (g.A.VersionName.names o s 0 c.next_of.new.place))
    (λ told. chain_leading name s (λ y. shown_report (aux.line y (linked_string c.names.elf.o s (aux.string y)))) x _ _ (chain told))
    (elf_after g.S.Source g.O.Sink g.E.Sink _ (λ o. shown_report (aux.line x (linked_string o s (aux.string x)))) _ c.names.elf _ _ c.names.outputs _
    (queried g.S.Source _ _ _ c.names.elf _ c.in-Ok-Some.ensures.queries (once_read _ _ _ _)) c.in_ok-show_name-in-Ok-Some.ensures
    (λ told. ap (λ (n : Option (List ℕ)). shown_report (aux.line x n)) (linked_is c.names.elf.o s (aux.string x) c.args.linked.0 linked)))

pub names-smaller : goal.names-smaller
names-smaller g c = rw c.in-Ok-Some.field-0-is at c.in-Ok-Some.ensures.fewer

pub returns-in_err-show_name-in-Ok-Some : goal.returns-in_err-show_name-in-Ok-Some
returns-in_err-show_name-in-Ok-Some g c =
    let s = c.args.s.0 in
    let name = c.args.name.now in
    let aux = g.A.Aux in
    let x = c.in-Ok-Some.aux in
    let chain = rw c.in-Ok-Some.field-0-is at c.in-Ok-Some.ensures.chain in
    let linked = subst (λ (o : Object). c.args.linked.0 ≡ (section_at o s).header.link) (sym c.names.invariant.elf.object) c.requires in
    let p = err_from_is_err_and c.from_residual.result c.from_residual.ensures.1 in
    rw (p.1, p.2) (elf_stops_at c.names.invariant (λ o. shown_report (aux.line x (linked_string o s (aux.string x))))
    (λ o. chain_report name s (λ y. shown_report (aux.line y (linked_string o s (aux.string y)))) (g.A.VersionName.names o s 0 c.next_of.new.place))
    (at_start c.names.invariant
    (λ (o : Object). chain_report name s (λ y. shown_report (aux.line y (linked_string o s (aux.string y)))) (g.A.VersionName.names o s 0 c.names.place)
    ≡ joined_reports (shown_report (aux.line x (linked_string o s (aux.string x)))) (chain_report name s (λ y. shown_report (aux.line y (linked_string o s (aux.string y)))) (g.A.VersionName.names o s 0 c.next_of.new.place)))
    (λ told. chain_leading name s (λ y. shown_report (aux.line y (linked_string c.names.elf.o s (aux.string y)))) x _ _ (chain told)))
    (elf_after g.S.Source g.O.Sink g.E.Sink _ (λ o. shown_report (aux.line x (linked_string o s (aux.string x)))) _ c.names.elf _ _ c.names.outputs _
    (queried g.S.Source _ _ _ c.names.elf _ c.in-Ok-Some.ensures.queries (once_read _ _ _ _)) c.in_err-show_name-in-Ok-Some.ensures
    (λ told. ap (λ (n : Option (List ℕ)). shown_report (aux.line x n)) (linked_is c.names.elf.o s (aux.string x) c.args.linked.0 linked))))

pub returns-in-Ok-None : goal.returns-in-Ok-None
returns-in-Ok-None g c =
    let s = c.args.s.0 in
    let name = c.args.name.now in
    let aux = g.A.Aux in
    let chain = rw c.in-Ok-None.field-0-is at c.in-Ok-None.ensures.chain in
    elf_ends_with c.names.invariant (Ok false) (λ o. no_report)
    (λ told. chain_ended name s (λ y. shown_report (aux.line y (linked_string c.names.elf.o s (aux.string y)))) _ (chain told))
    (elf_says_none g.S.Source g.O.Sink g.E.Sink (λ o. no_report) c.names.elf _ c.names.outputs (queried g.S.Source _ _ _ c.names.elf _ c.in-Ok-None.ensures.queries (once_read _ _ _ _)) (λ told. refl))

pub returns-in-Err : goal.returns-in-Err
returns-in-Err g c =
    let looked = looked_by g.S.Source _ _ _ c.names.elf _ c.in-Err.ensures.queries (once_read _ _ _ _) in
    let s = c.args.s.0 in
    let name = c.args.name.now in
    let aux = g.A.Aux in
    elf_ends_with c.names.invariant _ (λ o. chain_report name s (λ y. shown_report (aux.line y (linked_string o s (aux.string y)))) (g.A.VersionName.names o s 0 c.names.place)) (λ told. refl)
    (elf_refuses g.S.Source g.O.Sink g.E.Sink (λ o. chain_report name s (λ y. shown_report (aux.line y (linked_string o s (aux.string y)))) (g.A.VersionName.names o s 0 c.names.place))
    (Option g.row.A.Denot) c.in-Err.e (readelf_refusal name (section_message s (error_text c.in-Err.e))) _ c.names.elf _ c.names.outputs _
    looked.elf looked.read
    (λ told none. chain_broken name s (λ y. shown_report (aux.line y (linked_string c.names.elf.o s (aux.string y)))) c.in-Err.e _ (led_broken c.in-Err.e _ _ (c.in-Err.ensures.chain told) none))
    c.refuse_records.ensures.reports c.refuse_records.ensures.stops c.refuse_records.ensures.leaves)

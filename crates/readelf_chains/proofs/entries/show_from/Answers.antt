use Rattle.std.proofs.Common.{◌<◌, length, refl, sym, ap, ◌∙◌, subst, arith}
use Rattle.std.specs.Prelude.{Ok}
use Rattle.std.proofs.lemmas.Result.{err_from_is_err_and}
use Rattle.elf_types.specs.Text.{error_text}
use Rattle.elf_object.specs.Object.{Object}
use Rattle.elf_object.specs.Answers.{count_at}
use Rattle.tool_output.specs.Messages.{section_message}
use Rattle.tool_objects.proofs.ElfSteps.{elf_begins, elf_refuses}
use Rattle.tool_objects.proofs.AnswerLemmas.{led_broken}
use Rattle.tool_objects.proofs.QueryLemmas.{queried, looked_by}
use Rattle.tool_objects.proofs.OnceReads.{once_read}
use Rattle.readelf_rows.specs.Data.{readelf_refusal}
use Rattle.readelf_chains.specs.Entries.{entries_report}
use Rattle.readelf_chains.proofs.ChainLemmas.{elf_ends_with}
use Rattle.tool_objects.proofs.gelf_view.ChainLemmas.{next_behind}
use Rattle.readelf_chains.proofs.EntryLemmas.{entries_broken, entry_stopped, entry_ends, entry_last, entry_goes}
use Rattle.readelf_chains.proofs.entries.show_from.Goals as goal

pub entries-init : goal.entries-init
entries-init g c = elf_begins g.S.Source g.O.Sink g.E.Sink c.args.elf.now c.args.outputs.now _

pub show-requires-clause-section : goal.show-requires-clause-section
show-requires-clause-section g c =
    subst (λ (o : Object). c.args.s.0 < length o.sections) (sym (c.in-Ok.ensures.queries.object ∙ c.entries.invariant.elf.object)) c.requires

pub returns-in_err-ended-in-Ok : goal.returns-in_err-ended-in-Ok
returns-in_err-ended-in-Ok g c =
    let s = c.args.s.0 in
    let name = c.args.name.now in
    let entry = g.R.ShownEntry in
    let p = err_from_is_err_and c.from_residual.result c.from_residual.ensures.1 in
    rw (p.1, p.2) (entry_stopped name s (λ o. entry.report name o s) (λ o. g.R.VersionEntry.entries o s 0) c.entries.at (g.R.VersionEntry.behind c.in-Ok.entry) c.in-Ok.entry c.entries.invariant _ (queried g.S.Source _ _ _ c.entries.elf _ c.in-Ok.ensures.queries (once_read _ _ _ _)) c.in-Ok.ensures.chain
    c.in_err-ended-in-Ok.ensures)

pub returns-then-ended : goal.returns-then-ended
returns-then-ended g c =
    let s = c.args.s.0 in
    let name = c.args.name.now in
    let entry = g.R.ShownEntry in
    entry_ends name s (λ o. entry.report name o s) (λ o. g.R.VersionEntry.entries o s 0) c.entries.at (g.R.VersionEntry.behind c.in-Ok.entry) c.in-Ok.entry c.entries.invariant _ (queried g.S.Source _ _ _ c.entries.elf _ c.in-Ok.ensures.queries (once_read _ _ _ _)) c.in-Ok.ensures.chain
    _ c.in_ok-ended-in-Ok.ensures (ap Ok c.if-ended.true)

pub returns-in-None : goal.returns-in-None
returns-in-None g c =
    let s = c.args.s.0 in
    let name = c.args.name.now in
    let entry = g.R.ShownEntry in
    entry_last name s (λ o. entry.report name o s) (λ o. g.R.VersionEntry.entries o s 0) c.entries.at (g.R.VersionEntry.behind c.in-Ok.entry) c.in-Ok.entry c.entries.invariant _ (queried g.S.Source _ _ _ c.entries.elf _ c.in-Ok.ensures.queries (once_read _ _ _ _)) c.in-Ok.ensures.chain
    _ c.in_ok-ended-in-Ok.ensures (ap Ok c.if-ended.false) c.in-None.ensures

pub entries-preserved : goal.entries-preserved
entries-preserved g c =
    let s = c.args.s.0 in
    let name = c.args.name.now in
    let entry = g.R.ShownEntry in
    entry_goes name s (λ o. entry.report name o s) (λ o. g.R.VersionEntry.entries o s 0) c.entries.at (g.R.VersionEntry.behind c.in-Ok.entry) c.in-Ok.entry c.entries.invariant _ (queried g.S.Source _ _ _ c.entries.elf _ c.in-Ok.ensures.queries (once_read _ _ _ _)) c.in-Ok.ensures.chain
    _ c.in_ok-ended-in-Ok.ensures c.in-Some.next (ap Ok c.if-ended.false) c.in-Some.ensures

pub entries-smaller : goal.entries-smaller
entries-smaller g c =
    let same = ap (λ (o : Object). count_at o c.args.s.0 0) c.entries.invariant.elf.object in
    let before = c.in-Ok.ensures.within.0 in
    let later = next_behind c.entries.at _ c.in-Some.next c.in-Some.ensures in
    omega (arith, before, later, same)

pub returns-in-Err : goal.returns-in-Err
returns-in-Err g c =
    let looked = looked_by g.S.Source _ _ _ c.entries.elf _ c.in-Err.ensures.queries (once_read _ _ _ _) in
    let s = c.args.s.0 in
    let name = c.args.name.now in
    let entry = g.R.ShownEntry in
    elf_ends_with c.entries.invariant _ (λ o. entries_report name s (entry.report name o s) (g.R.VersionEntry.entries o s 0 c.entries.at)) (λ told. refl)
    (elf_refuses g.S.Source g.O.Sink g.E.Sink (λ o. entries_report name s (entry.report name o s) (g.R.VersionEntry.entries o s 0 c.entries.at)) g.row.R.Denot c.in-Err.e (readelf_refusal name (section_message s (error_text c.in-Err.e))) _ c.entries.elf _ c.entries.outputs _
    looked.elf looked.read
    (λ told none. entries_broken name s (entry.report name c.entries.elf.o s) c.in-Err.e _ (led_broken c.in-Err.e _ _ (c.in-Err.ensures.chain told) none))
    c.refuse_records.ensures.reports c.refuse_records.ensures.stops c.refuse_records.ensures.leaves)

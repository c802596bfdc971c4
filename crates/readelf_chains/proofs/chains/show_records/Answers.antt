use Rattle.std.proofs.Common.{ℕ, Option, sym, subst, refl, true}
use Rattle.elf_types.specs.declared.records.Kind.TheVariants as kinds
use Rattle.elf_types.specs.Text.{error_text}
use Rattle.elf_object.specs.Object.{Object}
use Rattle.elf_object.specs.Answers.{lend_refusal}
use Rattle.tool_objects.specs.gelf_view.Calls.{first_entry_answer}
use Rattle.tool_objects.proofs.ElfSteps.{elf_refuses, elf_after}
use Rattle.tool_objects.proofs.QueryLemmas.{queried}
use Rattle.tool_objects.proofs.AnswerLemmas.{answers_stated}
use Rattle.readelf_rows.specs.Data.{readelf_refusal}
use Rattle.readelf_chains.specs.Chains.{HasRecords, chain_lines, bytes_report}
use Rattle.readelf_rows.proofs.DataLemmas.{told_lines, told_refused}
use Rattle.readelf_chains.proofs.ChainLemmas.{first_there, first_refused}
use Rattle.tool_objects.proofs.OnceReads.{once_read}
use Rattle.readelf_chains.proofs.chains.show_records.Goals as goal

pub show_lines-requires : goal.show_lines-requires
show_lines-requires g c =
    let there = first_there c.args.elf.now.o c.args.s.0 c.in-Ok.first (c.in-Ok.ensures.answer.1 refl) in
    subst (λ (o : Object). HasRecords o c.args.s.0 c.in-Ok.first) (sym c.in-Ok.ensures.queries.object) (record { section = c.requires; passed = there.0; place = there.1 })

pub returns-in-Ok : goal.returns-in-Ok
unfolding bytes_report
returns-in-Ok g c =
    let s = c.args.s.0 in
    let name = c.args.name.now in
    let records = g.R.Records in
    elf_after g.S.Source g.O.Sink g.E.Sink (λ o. chain_lines records.title o s (records.report name o s)) (λ o. bytes_report records.title name o s (records.report name o s)) _ c.args.elf.now _ _ c.args.outputs.now _
    (queried g.S.Source _ _ _ c.args.elf.now _ c.in-Ok.ensures.queries (once_read _ _ _ _)) c.show_lines.ensures
    (λ told. told_lines name _ (lend_refusal c.args.elf.now.o kinds.Bytes s 0) (first_there c.args.elf.now.o s c.in-Ok.first (c.in-Ok.ensures.answer.1 refl)).0)

pub returns-in-Err : goal.returns-in-Err
unfolding bytes_report
returns-in-Err g c =
    let s = c.args.s.0 in
    let name = c.args.name.now in
    let records = g.R.Records in
    let o = c.args.elf.now.o in
    elf_refuses g.S.Source g.O.Sink g.E.Sink (λ o. bytes_report records.title name o s (records.report name o s)) (Option ℕ) c.in-Err.e (readelf_refusal name (error_text c.in-Err.e)) _ c.args.elf.now _ c.args.outputs.now _
    (queried g.S.Source _ _ _ c.args.elf.now _ c.in-Err.ensures.queries (once_read _ _ _ _)) c.in-Err.ensures.queries.reads.source.read
    (λ told none. told_refused name (chain_lines records.title o s (records.report name o s)) (lend_refusal o kinds.Bytes s 0) c.in-Err.e
    (first_refused o s c.in-Err.e (answers_stated true _ c.in-Err.e (first_entry_answer o s 0) c.in-Err.ensures.answer none)))
    c.refuse_by.ensures.reports c.refuse_by.ensures.stops c.refuse_by.ensures.leaves

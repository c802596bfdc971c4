use Rattle.std.proofs.Common.{arith}
use Rattle.elf_descriptor.specs.elf_object.Answers.{count_at}
use Rattle.gelf_view.proofs.ChainCalls.{found_lies}
use Rattle.std.proofs.Common.{true, [], sym, ap, ◌∙◌, subst}
use Rattle.elf_types.specs.declared.records.Order.{Order}
use Rattle.elf_types.specs.declared.records.Kind.TheVariants as kinds
use Rattle.elf_descriptor.specs.elf_object.Words.{result_map}
use Rattle.elf_descriptor.specs.elf_object.Object.{Object}
use Rattle.elf_descriptor.specs.elf_object.Answers.{lend_refusal}
use Rattle.elf_descriptor.specs.Reads.{Queries, wanted}
use Rattle.elf_descriptor.proofs.Refusals.{answers_passed}
use Rattle.gelf_view.specs.Calls.{bytes, in_bytes, record_found}
use Rattle.gelf_view.specs.Records.{record_at}
use Rattle.gelf_view.proofs.FoundLemmas.{at_hand, record_step, record_is_found, found_queries, found_queries_err, found_refused}
use Rattle.gelf_view.proofs.version_calls.read_record.Goals as goal

pub bytes_there-requires-clause-passed : goal.bytes_there-requires-clause-passed
bytes_there-requires-clause-passed g c =
    ap (λ (o : Object). lend_refusal o kinds.Bytes c.args.d.section c.args.d.piece) c.in-Ok.ensures.queries.object
    ∙ answers_passed true (wanted (bytes c.args.d.section c.args.d.piece) c.args.elf.now) _ (tt {0}) (tt {0}) c.in-Ok.ensures.answer

pub returns-in-Ok-clause-answer : goal.returns-in-Ok-clause-answer
returns-in-Ok-clause-answer g c =
    record_step c.args.elf.now c.args.d.section c.args.d.piece c.args.at g.R.Record.size g.R.Record.of c.bytes_there.result.now c.read_in.result c.order.result
    (at_hand g.S.Source c.args.elf.now c.fetch_bytes.new.elf c.args.d.section c.args.d.piece c.bytes_there.result.now
    (answers_passed true (wanted (bytes c.args.d.section c.args.d.piece) c.args.elf.now) _ (tt {0}) (tt {0}) c.in-Ok.ensures.answer)
    c.in-Ok.ensures.queries c.bytes_there.ensures.exact c.bytes_there.ensures.count)
    (c.order.ensures ∙ ap (λ (o : Object). o.header.order) c.in-Ok.ensures.queries.object) c.read_in.ensures

pub returns-in-Ok-clause-queries : goal.returns-in-Ok-clause-queries
returns-in-Ok-clause-queries g c =
    let found = record_found g.R.Record.size g.R.Record.of c.args.at in
    subst (λ r. Queries g.S.Source (in_bytes c.args.d.section c.args.d.piece found) [] r c.args.elf.now c.fetch_bytes.new.elf)
    (sym (c.read_in.ensures ∙ ap (λ (d : Order). result_map (g.R.Record.of d) (record_at g.R.Record.size c.bytes_there.result.now c.args.at)) c.order.ensures))
    (found_queries g.S.Source c.args.elf.now c.fetch_bytes.new.elf c.args.d.section c.args.d.piece c.args.at found
    (λ o l. record_is_found g.R.Record.size c.args.at (g.R.Record.of o.header.order) l) c.bytes_there.result.now c.fetch_bytes.new.elf.o c.in-Ok.ensures.queries)

pub returns-in-Err-clause-answer : goal.returns-in-Err-clause-answer
returns-in-Err-clause-answer g c =
    found_refused g.S.Source c.args.elf.now c.fetch_bytes.new.elf c.args.d.section c.args.d.piece c.args.at (record_found g.R.Record.size g.R.Record.of c.args.at)
    (λ o l. record_is_found g.R.Record.size c.args.at (g.R.Record.of o.header.order) l) c.in-Err.e c.in-Err.ensures.answer

pub returns-in-Err-clause-queries : goal.returns-in-Err-clause-queries
returns-in-Err-clause-queries g c =
    found_queries_err g.S.Source c.args.elf.now c.fetch_bytes.new.elf c.args.d.section c.args.d.piece c.args.at (record_found g.R.Record.size g.R.Record.of c.args.at)
    (λ o l. record_is_found g.R.Record.size c.args.at (g.R.Record.of o.header.order) l) c.in-Err.e c.in-Err.ensures.queries

pub returns-in-Ok-clause-within : goal.returns-in-Ok-clause-within
returns-in-Ok-clause-within g c =
    found_lies (g.R.Record.of c.order.result) g.R.Record.size c.args.at (count_at c.args.elf.now.o c.args.d.section c.args.d.piece) c.bytes_there.result.now c.read_in.result c.read_in.ensures
    (c.bytes_there.ensures.count ∙ ap (λ (o : Object). count_at o c.args.d.section c.args.d.piece) c.in-Ok.ensures.queries.object) (omega (arith, c.bytes_there.type_inv.1))

use Rattle.std.proofs.Common.{true, Err, ℕ, [], ◌≡◌, ◌==◌, IfOk, IfSome, sym, ap, ◌∙◌, subst}
use Rattle.std.specs.Prelude.{is_none}
use Rattle.elf_types.specs.declared.records.Order.{Order}
use Rattle.elf_types.specs.declared.records.Kind.TheVariants as kinds
use Rattle.elf_descriptor.specs.elf_object.Object.{Object, section_at}
use Rattle.elf_descriptor.specs.elf_object.Answers.{lend_refusal, no_section, count_at}
use Rattle.elf_descriptor.proofs.elf_object.AnswerLaws.{lend_passed}
use Rattle.elf_descriptor.specs.Reads.{Queries, wanted}
use Rattle.elf_descriptor.proofs.Refusals.{answers_passed}
use Rattle.gelf_view.specs.Calls.{bytes, note, note_found, note_answer, note_refusals}
use Rattle.gelf_view.specs.Chains.{note_then, notes}
use Rattle.gelf_view.proofs.ChainLemmas.{led_read}
use Rattle.gelf_view.proofs.ChainCalls.{notes_of_piece}
use Rattle.gelf_view.specs.Notes.{note_align, note_at, IsNoteWithin}
use Rattle.gelf_view.proofs.FoundLemmas.{at_hand, found_queries, found_queries_err}
use Rattle.gelf_view.proofs.NoteAnswers.{note_is_found, note_step, note_refused}
use Rattle.gelf_view.proofs.note_calls.note.Goals as goal

pub bytes_there-requires-clause-passed : goal.bytes_there-requires-clause-passed
bytes_there-requires-clause-passed g c =
    ap (λ (o : Object). lend_refusal o kinds.Bytes c.args.d.section c.args.d.piece) c.in-Ok.ensures.queries.object
    ∙ answers_passed true (wanted (bytes c.args.d.section c.args.d.piece) c.args.elf.now) _ (tt {0}) (tt {0}) c.in-Ok.ensures.answer

pub alignment-requires : goal.alignment-requires
alignment-requires g c =
    ap (λ (o : Object). no_section o c.args.d.section) c.in-Ok.ensures.queries.object
    ∙ (lend_passed c.args.elf.now.o kinds.Bytes c.args.d.section c.args.d.piece (answers_passed true (wanted (bytes c.args.d.section c.args.d.piece) c.args.elf.now) _ (tt {0}) (tt {0}) c.in-Ok.ensures.answer)).0

pub returns-in-Ok-clause-answer : goal.returns-in-Ok-clause-answer
returns-in-Ok-clause-answer g c =
    note_step c.args.elf.now c.args.d.section c.args.d.piece c.args.at c.bytes_there.result.now c.note_in.result c.order.result c.alignment.result
    (at_hand g.S.Source c.args.elf.now c.fetch_bytes.new.elf c.args.d.section c.args.d.piece c.bytes_there.result.now
    (answers_passed true (wanted (bytes c.args.d.section c.args.d.piece) c.args.elf.now) _ (tt {0}) (tt {0}) c.in-Ok.ensures.answer)
    c.in-Ok.ensures.queries c.bytes_there.ensures.exact c.bytes_there.ensures.count)
    (c.order.ensures ∙ ap (λ (o : Object). o.header.order) c.in-Ok.ensures.queries.object)
    (c.alignment.ensures ∙ ap (λ (o : Object). note_align (section_at o c.args.d.section).header.addralign) c.in-Ok.ensures.queries.object) c.note_in.ensures.value

pub returns-in-Ok-clause-ended : goal.returns-in-Ok-clause-ended
returns-in-Ok-clause-ended g c =
    subst (λ (n : ℕ). IfOk c.note_in.result (λ found. is_none found ≡ (c.args.at == n)))
    (c.bytes_there.ensures.count ∙ ap (λ (o : Object). count_at o c.args.d.section c.args.d.piece) c.in-Ok.ensures.queries.object) c.note_in.ensures.ended

pub returns-in-Ok-clause-within : goal.returns-in-Ok-clause-within
returns-in-Ok-clause-within g c =
    subst (λ (n : ℕ). IfOk c.note_in.result (λ found. IfSome found (IsNoteWithin n c.args.at)))
    (c.bytes_there.ensures.count ∙ ap (λ (o : Object). count_at o c.args.d.section c.args.d.piece) c.in-Ok.ensures.queries.object) c.note_in.ensures.within

pub returns-in-Ok-clause-queries : goal.returns-in-Ok-clause-queries
unfolding note_answer
returns-in-Ok-clause-queries g c =
    subst (λ r. Queries g.S.Source (note c.args.d.section c.args.d.piece c.args.at) [] r c.args.elf.now c.fetch_bytes.new.elf)
    (sym (c.note_in.ensures.value ∙ ap (λ (d : Order). note_at d c.alignment.result c.bytes_there.result.now c.args.at) c.order.ensures
    ∙ ap (λ (n : ℕ). note_at c.fetch_bytes.new.elf.o.header.order n c.bytes_there.result.now c.args.at) c.alignment.ensures))
    (found_queries g.S.Source c.args.elf.now c.fetch_bytes.new.elf c.args.d.section c.args.d.piece c.args.at (note_found c.args.d.section c.args.at)
    (λ o l. note_is_found o.header.order (note_align (section_at o c.args.d.section).header.addralign) l c.args.at) c.bytes_there.result.now c.fetch_bytes.new.elf.o c.in-Ok.ensures.queries)

pub returns-in-Err-clause-answer : goal.returns-in-Err-clause-answer
returns-in-Err-clause-answer g c =
    note_refused g.S.Source c.args.elf.now c.fetch_bytes.new.elf c.args.d.section c.args.d.piece c.args.at c.in-Err.e c.in-Err.ensures.answer

pub returns-in-Err-clause-queries : goal.returns-in-Err-clause-queries
unfolding note_answer
returns-in-Err-clause-queries g c =
    found_queries_err g.S.Source c.args.elf.now c.fetch_bytes.new.elf c.args.d.section c.args.d.piece c.args.at (note_found c.args.d.section c.args.at)
    (λ o l. note_is_found o.header.order (note_align (section_at o c.args.d.section).header.addralign) l c.args.at) c.in-Err.e c.in-Err.ensures.queries

pub returns-in-Ok-clause-chain : goal.returns-in-Ok-clause-chain
returns-in-Ok-clause-chain g c = λ told.
    led_read c.args.elf.now.told (wanted (note c.args.d.section c.args.d.piece c.args.at) c.args.elf.now) (note_refusals c.args.elf.now.o c.args.d.section c.args.d.piece c.args.at) c.note_in.result
    (note_answer c.args.elf.now.o c.args.d.section c.args.d.piece c.args.at) (note_then (notes c.args.elf.now.o c.args.d.section c.args.d.piece))
    (notes c.args.elf.now.o c.args.d.section c.args.d.piece c.args.at) told (returns-in-Ok-clause-answer g c) (notes_of_piece c.args.elf.now.o c.args.d.section c.args.d.piece c.args.at)

pub returns-in-Err-clause-chain : goal.returns-in-Err-clause-chain
returns-in-Err-clause-chain g c = λ told.
    led_read c.args.elf.now.told (wanted (note c.args.d.section c.args.d.piece c.args.at) c.args.elf.now) (note_refusals c.args.elf.now.o c.args.d.section c.args.d.piece c.args.at) (Err c.in-Err.e)
    (note_answer c.args.elf.now.o c.args.d.section c.args.d.piece c.args.at) (note_then (notes c.args.elf.now.o c.args.d.section c.args.d.piece))
    (notes c.args.elf.now.o c.args.d.section c.args.d.piece c.args.at) told (returns-in-Err-clause-answer g c) (notes_of_piece c.args.elf.now.o c.args.d.section c.args.d.piece c.args.at)

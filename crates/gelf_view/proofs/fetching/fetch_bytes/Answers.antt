use Rattle.std.proofs.Common.{true, Err, sym}
use Rattle.elf_types.specs.declared.records.Kind.TheVariants as kinds
use Rattle.elf_descriptor.proofs.elf_outside.AskLemmas.{read_rose_refused}
use Rattle.elf_descriptor.specs.elf_object.Answers.{lend_refusal}
use Rattle.elf_descriptor.proofs.elf_object.AnswerLaws.{answered_value, answered_refusal, answers_refused}
use Rattle.elf_descriptor.specs.Reads.{wanted}
use Rattle.gelf_view.specs.Calls.{bytes}
use Rattle.gelf_view.proofs.FetchLemmas.{kind_refuses, queries_nothing}
use Rattle.gelf_view.proofs.fetching.fetch_bytes.Goals as goal

pub fetch_home-requires-clause-kind : goal.fetch_home-requires-clause-kind
fetch_home-requires-clause-kind g c = (answered_value _ _ c.in-Ok.own (sym c.in-Ok.ensures.answer)).0

pub fetch_home-requires-clause-own : goal.fetch_home-requires-clause-own
fetch_home-requires-clause-own g c = (answered_value _ _ c.in-Ok.own (sym c.in-Ok.ensures.answer)).1

pub returns-in-Err-clause-answer : goal.returns-in-Err-clause-answer
returns-in-Err-clause-answer g c =
    answers_refused true (wanted (bytes c.args.d.section c.args.d.piece) c.args.elf.now) (lend_refusal c.args.elf.now.o kinds.Bytes c.args.d.section c.args.d.piece) (tt {0}) c.in-Err.e c.in-Err.ensures.err
    (kind_refuses c.args.elf.now.o c.args.d.section c.args.d.piece c.in-Err.e (answered_refusal _ _ c.in-Err.e (sym c.in-Err.ensures.answer)))

pub returns-in-Err-clause-queries : goal.returns-in-Err-clause-queries
returns-in-Err-clause-queries g c =
    queries_nothing g.S.Source (bytes c.args.d.section c.args.d.piece) (Err c.in-Err.e) c.args.elf.now (read_rose_refused (Unit {0}) c.in-Err.e _ _ c.in-Err.ensures.err)

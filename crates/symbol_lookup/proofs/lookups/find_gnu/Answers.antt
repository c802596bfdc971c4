use Rattle.std.proofs.Common.{sym, ap, ◌∙◌}
use Rattle.elf_types.specs.declared.records.Kind.TheVariants as kinds
use Rattle.hash_model.specs.elf_object.Object.{Object}
use Rattle.hash_model.specs.elf_object.Answers.{no_section}
use Rattle.hash_model.proofs.elf_object.AnswerLaws.{lend_passed}
use Rattle.symbol_lookup.specs.Lookups.{linked_refusal, gnu_needs}
use Rattle.symbol_lookup.proofs.NeedLaws.{gnu_bytes}
use Rattle.symbol_lookup.proofs.HashLaws.{gnu_answers, gnu_looks, gnu_linked_refused, gnu_linked_looks, gnu_bytes_refused, gnu_bytes_looks, gnu_later_follows, gnu_later_searches}
use Rattle.symbol_lookup.proofs.lookups.find_gnu.Goals as goal

pub table_of-requires : goal.table_of-requires
table_of-requires g c =
    let first = c.in-Ok.ensures.searches c.in-Ok.ensures.passed (gnu_needs c.args.elf.now.o c.args.h.0) (gnu_bytes c.args.elf.now.o c.args.h.0) in
    ap (λ (o : Object). no_section o c.args.h.0) first.object ∙ (lend_passed c.args.elf.now.o kinds.Bytes c.args.h.0 0 c.in-Ok.ensures.passed).0

pub returns-in-Ok-table_of-clause-answer : goal.returns-in-Ok-table_of-clause-answer
returns-in-Ok-table_of-clause-answer g c =
    let first = c.in-Ok.ensures.searches c.in-Ok.ensures.passed (gnu_needs c.args.elf.now.o c.args.h.0) (gnu_bytes c.args.elf.now.o c.args.h.0) in
    gnu_answers g.S.Source c.args.elf.now c.args.h.0 c.args.name.now c.find_by_bytes.result c.find_by_bytes.new.elf c.in-Ok.ensures.passed
    (ap (λ (o : Object). linked_refusal o c.args.h.0) (sym first.object) ∙ c.in-Ok-table_of.ensures.passed)
    (gnu_later_follows g.S.Source c.args.elf.now c.fetch.new.elf c.find_by_bytes.new.elf c.args.h.0 c.args.name.now c.find_by_bytes.result first c.find_by_bytes.ensures.follows)
    (gnu_later_searches g.S.Source c.args.elf.now c.fetch.new.elf c.find_by_bytes.new.elf c.args.h.0 c.args.name.now c.find_by_bytes.result first c.find_by_bytes.ensures.searches)

pub returns-in-Ok-table_of-clause-looks : goal.returns-in-Ok-table_of-clause-looks
returns-in-Ok-table_of-clause-looks g c =
    let first = c.in-Ok.ensures.searches c.in-Ok.ensures.passed (gnu_needs c.args.elf.now.o c.args.h.0) (gnu_bytes c.args.elf.now.o c.args.h.0) in
    gnu_looks g.S.Source c.args.elf.now c.args.h.0 c.args.name.now c.find_by_bytes.result c.find_by_bytes.new.elf c.in-Ok.ensures.passed
    (gnu_later_searches g.S.Source c.args.elf.now c.fetch.new.elf c.find_by_bytes.new.elf c.args.h.0 c.args.name.now c.find_by_bytes.result first c.find_by_bytes.ensures.searches)

pub returns-in-Err-table_of-clause-answer : goal.returns-in-Err-table_of-clause-answer
returns-in-Err-table_of-clause-answer g c =
    let first = c.in-Ok.ensures.searches c.in-Ok.ensures.passed (gnu_needs c.args.elf.now.o c.args.h.0) (gnu_bytes c.args.elf.now.o c.args.h.0) in
    gnu_linked_refused g.S.Source c.args.elf.now c.args.h.0 c.args.name.now c.in-Err-table_of.e c.in-Err-table_of.ensures.err c.in-Ok.ensures.passed
    (ap (λ (o : Object). linked_refusal o c.args.h.0) (sym first.object) ∙ c.in-Err-table_of.ensures.refused)

pub returns-in-Err-table_of-clause-looks : goal.returns-in-Err-table_of-clause-looks
returns-in-Err-table_of-clause-looks g c =
    gnu_linked_looks g.S.Source c.args.elf.now c.args.h.0 c.args.name.now c.in-Err-table_of.e c.fetch.new.elf c.in-Err-table_of.ensures.err c.in-Ok.ensures.passed
    (c.in-Ok.ensures.searches c.in-Ok.ensures.passed (gnu_needs c.args.elf.now.o c.args.h.0) (gnu_bytes c.args.elf.now.o c.args.h.0))

pub returns-in-Err-clause-answer : goal.returns-in-Err-clause-answer
returns-in-Err-clause-answer g c =
    gnu_bytes_refused g.S.Source c.args.elf.now c.args.h.0 c.args.name.now c.in-Err.e c.fetch.new.elf c.in-Err.ensures.refused
    (λ passed. c.in-Err.ensures.searches passed (gnu_needs c.args.elf.now.o c.args.h.0) (gnu_bytes c.args.elf.now.o c.args.h.0))

pub returns-in-Err-clause-looks : goal.returns-in-Err-clause-looks
returns-in-Err-clause-looks g c =
    gnu_bytes_looks g.S.Source c.args.elf.now c.args.h.0 c.args.name.now c.in-Err.e c.fetch.new.elf c.in-Err.ensures.refused c.in-Err.ensures.queries
    (λ passed. c.in-Err.ensures.searches passed (gnu_needs c.args.elf.now.o c.args.h.0) (gnu_bytes c.args.elf.now.o c.args.h.0))

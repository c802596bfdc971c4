use Rattle.std.proofs.Common.{ℕ, length, subst}
use Rattle.std.specs.Prelude.{IfOk}
use Rattle.symbol_lookup.specs.elf_object.Words.{Answers}
use Rattle.symbol_lookup.proofs.elf_object.AnswerLaws.{answers_refused}
use Rattle.symbol_lookup.specs.elf_descriptor.Reads.{Looks, wanted}
use Rattle.symbol_lookup.specs.hash_model.BuiltHashes.{gnu_order_answer, gnu_order_of, hash_refusal}
use Rattle.symbol_lookup.specs.hash_model.Listed.{listed_names}
use Rattle.hash_build.specs.Calls.{gnu_order}
use Rattle.hash_build.specs.Rows.{IsOrder}
use Rattle.hash_build.proofs.CallLaws.{hash_answers, hash_looks, refused_looks}
use Rattle.hash_build.proofs.OrderLaws.{order_stated}
use Rattle.hash_build.proofs.order.gnu_order.Goals as goal

pub returns-in-Ok-clause-answer : goal.returns-in-Ok-clause-answer
returns-in-Ok-clause-answer g c =
    let old = c.args.elf.now in
    let s = c.in-Ok.t.section.0 in
    let n = c.args.nbuckets in
    subst (λ (k : ℕ). Answers old.told (wanted (gnu_order k n) old) c.order_for.result
    ((gnu_order k n).answer old.o)) c.in-Ok.ensures.section
    (hash_answers old s (λ o. gnu_order_answer o s n)
    (gnu_order_of n (listed_names old.o s)) c.order_for.result
    (order_stated old.o s n) c.in-Ok.ensures.table.passed c.order_for.ensures.told
    c.order_for.ensures.reads.ended)

pub returns-in-Ok-clause-looks : goal.returns-in-Ok-clause-looks
returns-in-Ok-clause-looks g c =
    let old = c.args.elf.now in
    let s = c.in-Ok.t.section.0 in
    let n = c.args.nbuckets in
    subst (λ (k : ℕ). Looks g.S.Source (gnu_order k n) c.order_for.result old
    c.order_for.new.elf) c.in-Ok.ensures.section
    (hash_looks old s (λ o. gnu_order_answer o s n) g.S.Source c.order_for.result
    c.order_for.new.elf c.in-Ok.ensures.table.passed c.order_for.ensures.reads)

pub returns-in-Ok-clause-whole : goal.returns-in-Ok-clause-whole
returns-in-Ok-clause-whole g c =
    subst (λ (k : ℕ). IfOk c.order_for.result (λ order.
    IsOrder order (length (listed_names c.args.elf.now.o k))))
    c.in-Ok.ensures.section c.order_for.ensures.whole

pub returns-in-Err-clause-answer : goal.returns-in-Err-clause-answer
unfolding gnu_order_answer
returns-in-Err-clause-answer g c =
    answers_refused c.args.elf.now.told _ (hash_refusal c.args.elf.now.o c.args.s.0) _ c.in-Err.e
    c.in-Err.ensures.err c.in-Err.ensures.refused

pub returns-in-Err-clause-looks : goal.returns-in-Err-clause-looks
returns-in-Err-clause-looks g c =
    refused_looks g.S.Source (gnu_order c.args.s.0 c.args.nbuckets) c.args.elf.now c.in-Err.e
    c.in-Err.ensures.err

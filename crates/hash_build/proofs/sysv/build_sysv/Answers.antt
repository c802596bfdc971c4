use Rattle.std.proofs.Common.{◌≡◌, ◌+◌, ℕ, length, subst}
use Rattle.std.specs.Prelude.{IfOk}
use Rattle.symbol_lookup.specs.elf_object.Words.{Answers}
use Rattle.symbol_lookup.proofs.elf_object.AnswerLaws.{answers_refused}
use Rattle.symbol_lookup.specs.elf_descriptor.Reads.{Looks, wanted}
use Rattle.symbol_lookup.specs.hash_model.BuiltHashes.{build_sysv_answer, hash_refusal, sysv_built}
use Rattle.symbol_lookup.specs.hash_model.HashSections.{sysv_words}
use Rattle.symbol_lookup.specs.hash_model.Listed.{listed_names}
use Rattle.hash_build.specs.Calls.{build_sysv}
use Rattle.hash_build.proofs.CallLaws.{hash_answers, hash_looks, refused_looks}
use Rattle.hash_build.proofs.SysvLaws.{sysv_stated}
use Rattle.hash_build.proofs.sysv.build_sysv.Goals as goal

pub returns-in-Ok-clause-answer : goal.returns-in-Ok-clause-answer
returns-in-Ok-clause-answer g c =
    let old = c.args.elf.now in
    let s = c.in-Ok.t.section.0 in
    let n = c.args.nbucket in
    subst (λ (k : ℕ). Answers old.told (wanted (build_sysv k n) old) c.words_for.result
    ((build_sysv k n).answer old.o)) c.in-Ok.ensures.section
    (hash_answers old s (λ o. build_sysv_answer o s n)
    (sysv_words (sysv_built n (listed_names old.o s))) c.words_for.result
    (sysv_stated old.o s n) c.in-Ok.ensures.table.passed c.words_for.ensures.told
    c.words_for.ensures.reads.ended)

pub returns-in-Ok-clause-looks : goal.returns-in-Ok-clause-looks
returns-in-Ok-clause-looks g c =
    let old = c.args.elf.now in
    let s = c.in-Ok.t.section.0 in
    let n = c.args.nbucket in
    subst (λ (k : ℕ). Looks g.S.Source (build_sysv k n) c.words_for.result old
    c.words_for.new.elf) c.in-Ok.ensures.section
    (hash_looks old s (λ o. build_sysv_answer o s n) g.S.Source c.words_for.result
    c.words_for.new.elf c.in-Ok.ensures.table.passed c.words_for.ensures.reads)

pub returns-in-Ok-clause-long : goal.returns-in-Ok-clause-long
returns-in-Ok-clause-long g c =
    subst (λ (k : ℕ). IfOk c.words_for.result (λ words.
    length words ≡ 2 + c.args.nbucket + length (listed_names c.args.elf.now.o k)))
    c.in-Ok.ensures.section c.words_for.ensures.long

pub returns-in-Err-clause-answer : goal.returns-in-Err-clause-answer
unfolding build_sysv_answer
returns-in-Err-clause-answer g c =
    answers_refused c.args.elf.now.told _ (hash_refusal c.args.elf.now.o c.args.s.0) _ c.in-Err.e
    c.in-Err.ensures.err c.in-Err.ensures.refused

pub returns-in-Err-clause-looks : goal.returns-in-Err-clause-looks
returns-in-Err-clause-looks g c =
    refused_looks g.S.Source (build_sysv c.args.s.0 c.args.nbucket) c.args.elf.now c.in-Err.e
    c.in-Err.ensures.err

use Rattle.std.proofs.Common.{ℕ, subst}
use Rattle.symbol_lookup.specs.elf_object.Words.{AnswersRead}
use Rattle.symbol_lookup.specs.elf_descriptor.Reads.{Looks, wanted}
use Rattle.symbol_lookup.specs.hash_model.BuiltHashes.{build_gnu_answer, hash_refusal}
use Rattle.hash_build.specs.declared.hashing.Hashing.TheVariants.{Gnu}
use Rattle.hash_build.specs.Calls.{build_gnu, order_refusals, stated}
use Rattle.hash_build.specs.Hashed.{listed_hashes}
use Rattle.hash_build.specs.Gnu.{gnu_answer}
use Rattle.hash_build.proofs.CallLaws.{order_answers, order_looks, order_refused, refused_looks}
use Rattle.hash_build.proofs.GnuLaws.{gnu_stated, gnu_refused}
use Rattle.hash_build.proofs.gnu.build_gnu.Goals as goal

pub returns-in-Ok-clause-answer : goal.returns-in-Ok-clause-answer
returns-in-Ok-clause-answer g c =
    let old = c.args.elf.now in
    let s = c.in-Ok.t.section.0 in
    let shape = c.args.shape in
    subst (λ (k : ℕ). AnswersRead old.told (wanted (build_gnu k shape) old)
    (order_refusals (hash_refusal old.o k)) c.section_for.result
    ((build_gnu k shape).answer old.o)) c.in-Ok.ensures.section
    (order_answers old s (λ o. build_gnu_answer o s (stated shape))
    (gnu_answer old.o.header.class old.o.header.order shape (listed_hashes Gnu old.o s))
    c.section_for.result (gnu_stated old.o s shape c.in-Ok.ensures.table.passed)
    c.in-Ok.ensures.table.passed c.section_for.ensures.told c.section_for.ensures.reads.ended)

pub returns-in-Ok-clause-looks : goal.returns-in-Ok-clause-looks
returns-in-Ok-clause-looks g c =
    let old = c.args.elf.now in
    let s = c.in-Ok.t.section.0 in
    let shape = c.args.shape in
    subst (λ (k : ℕ). Looks g.S.Source (build_gnu k shape) c.section_for.result old
    c.section_for.new.elf) c.in-Ok.ensures.section
    (order_looks old s (λ o. build_gnu_answer o s (stated shape)) g.S.Source
    c.section_for.result c.section_for.new.elf c.in-Ok.ensures.table.passed
    c.section_for.ensures.reads)

pub returns-in-Err-clause-answer : goal.returns-in-Err-clause-answer
returns-in-Err-clause-answer g c =
    order_refused c.args.elf.now c.args.s.0
    (λ o. build_gnu_answer o c.args.s.0 (stated c.args.shape)) c.in-Err.e c.in-Err.ensures.err
    c.in-Err.ensures.refused
    (gnu_refused c.args.elf.now.o c.args.s.0 c.args.shape c.in-Err.e c.in-Err.ensures.refused)

pub returns-in-Err-clause-looks : goal.returns-in-Err-clause-looks
returns-in-Err-clause-looks g c =
    refused_looks g.S.Source (build_gnu c.args.s.0 c.args.shape) c.args.elf.now c.in-Err.e
    c.in-Err.ensures.err

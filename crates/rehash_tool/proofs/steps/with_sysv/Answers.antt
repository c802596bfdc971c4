use Rattle.std.proofs.Common.{Err}
use Rattle.elf_types.specs.Answers.{◌>>=◌}
use Rattle.rebuild_model.specs.Rehashed.{with_sysv}
use Rattle.rehash_tool.specs.Steps.{kept_nbucket, built_sysv}
use Rattle.rehash_tool.proofs.StepLemmas.{turns_then, turns_end, turns_of, turns_as}
use Rattle.rehash_tool.proofs.CallLemmas.{with_sysv_is}
use Rattle.rehash_tool.proofs.steps.with_sysv.Goals as goal

pub build_words-requires : goal.build_words-requires
build_words-requires g c = c.in-Ok.ensures.some

pub returns-in-Ok : goal.returns-in-Ok
returns-in-Ok g c =
    let old = c.args.elf.now in
    let s = c.args.s.0 in
    let n = c.args.n in
    let came = c.in-Ok.ensures.gives in
    turns_as g.S.Source (kept_nbucket old.o n >>= λ nbucket. built_sysv old.o s n nbucket)
    (with_sysv old.o s n) c.build_words.result old c.build_words.new.elf
    (with_sysv_is old.o s n)
    (turns_then g.S.Source (λ x. x) (kept_nbucket old.o n)
    (λ nbucket. built_sysv old.o s n nbucket) c.in-Ok.nbucket c.build_words.result old
    c.kept_nbucket.new.elf c.build_words.new.elf came
    (turns_of g.S.Source (λ p. built_sysv p s n c.in-Ok.nbucket) old.o c.build_words.result
    c.kept_nbucket.new.elf c.build_words.new.elf came.object c.build_words.ensures))

pub returns-in-Err : goal.returns-in-Err
returns-in-Err g c =
    let old = c.args.elf.now in
    let s = c.args.s.0 in
    let n = c.args.n in
    turns_as g.S.Source {T = Unit {0}} (kept_nbucket old.o n >>= λ nbucket. built_sysv old.o s n
    nbucket)
    (with_sysv old.o s n) (Err c.in-Err.e) old c.kept_nbucket.new.elf
    (with_sysv_is old.o s n)
    (turns_end g.S.Source (λ x. x) (kept_nbucket old.o n)
    (λ nbucket. built_sysv old.o s n nbucket) c.in-Err.e old c.kept_nbucket.new.elf
    c.in-Err.ensures.gives)

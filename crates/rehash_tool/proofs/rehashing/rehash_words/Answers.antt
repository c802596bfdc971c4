use Rattle.std.proofs.Common.{Ok}
use Rattle.rebuild_model.specs.Rehashed.{with_sysv, where_there, laid_out}
use Rattle.rehash_tool.proofs.StepLemmas.{object_end}
use Rattle.rehash_tool.proofs.RehashLemmas.{turns_laid_out}
use Rattle.rehash_tool.proofs.rehashing.rehash_words.Goals as goal

pub returns-in-Ok : goal.returns-in-Ok
returns-in-Ok g c =
    let o = c.args.elf.now.o in
    turns_laid_out g.S.Source
    (where_there (λ p n. with_sysv p c.args.s.0 n) c.args.words o) (tt {0}) c.args.elf.now
    c.with_sysv_there.new.elf c.lay_out.new.elf c.lay_out.ensures c.in-Ok.ensures

pub returns-in-Err : goal.returns-in-Err
returns-in-Err g c =
    let o = c.args.elf.now.o in
    object_end g.S.Source
    (where_there (λ p n. with_sysv p c.args.s.0 n) c.args.words o) (λ q. Ok (laid_out q))
    {T = Unit {0}} c.in-Err.e c.args.elf.now c.with_sysv_there.new.elf c.in-Err.ensures

use Rattle.rebuild_model.specs.Rehashed.{with_gnu, where_there}
use Rattle.rehash_tool.specs.Steps.{words_laid_out}
use Rattle.rehash_tool.proofs.StepLemmas.{object_then, object_end}
use Rattle.rehash_tool.proofs.rehashing.rehash_both.Goals as goal

pub returns-in-Ok : goal.returns-in-Ok
returns-in-Ok g c =
    let s = c.args.s.0 in
    object_then g.S.Source
    (where_there (λ p n. with_gnu p s n) c.args.gnu c.args.elf.now.o)
    (λ p. words_laid_out p s c.args.words) (tt {0}) c.rehash_words.result c.args.elf.now
    c.with_gnu_there.new.elf c.rehash_words.new.elf c.in-Ok.ensures c.rehash_words.ensures

pub returns-in-Err : goal.returns-in-Err
returns-in-Err g c =
    let s = c.args.s.0 in
    object_end g.S.Source
    (where_there (λ p n. with_gnu p s n) c.args.gnu c.args.elf.now.o)
    (λ p. words_laid_out p s c.args.words) {T = Unit {0}} c.in-Err.e c.args.elf.now
    c.with_gnu_there.new.elf c.in-Err.ensures

use Rattle.std.proofs.Common.{Some, None, refl}
use Rattle.rebuild_numbers.proofs.SymLaws.{word_follows}
use Rattle.rebuild_numbers.proofs.words.followed_word.Goals as goal

pub returns-in-Some : goal.returns-in-Some
returns-in-Some c =
    word_follows c.args.numbering.now c.args.word c.moved_word.result
    (Some c.in-Some.number) c.in-Some.ensures.value c.moved_word.ensures

pub returns-in-None : goal.returns-in-None
returns-in-None c =
    word_follows c.args.numbering.now c.args.word 0 None c.in-None.ensures.value refl

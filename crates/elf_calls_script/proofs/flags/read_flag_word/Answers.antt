use Rattle.std.proofs.Common.{refl}
use Rattle.std.proofs.lemmas.Result.{err_from_is_err_and}
use Rattle.elf_calls_script.specs.Lines.{flag_words}
use Rattle.elf_calls_script.proofs.TextWords.{refused_words}
use Rattle.elf_calls_script.proofs.flags.read_flag_word.Goals as goal

pub returns-in_err-word : goal.returns-in_err-word
unfolding flag_words
returns-in_err-word c =
    let p = err_from_is_err_and c.from_residual.result c.from_residual.ensures.1 in
    rw (p.1, p.2) (refused_words flag_words c.args.words.now c.in_err-word.field-0.0 refl c.in_err-word.ensures.err)

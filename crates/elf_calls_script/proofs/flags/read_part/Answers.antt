use Rattle.std.proofs.Common.{refl}
use Rattle.std.proofs.lemmas.Result.{err_from_is_err_and}
use Rattle.elf_calls_script.specs.Lines.{object_parts}
use Rattle.elf_calls_script.proofs.TextWords.{refused_words}
use Rattle.elf_calls_script.proofs.flags.read_part.Goals as goal

pub returns-in_err-part : goal.returns-in_err-part
unfolding object_parts
returns-in_err-part c =
    let p = err_from_is_err_and c.from_residual.result c.from_residual.ensures.1 in
    rw (p.1, p.2) (refused_words object_parts c.args.words.now c.in_err-part.field-0.0 refl c.in_err-part.ensures.err)

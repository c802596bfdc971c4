use Rattle.std.proofs.lemmas.Result.{err_from_is_err_and}
use Rattle.elf_calls_script.specs.Fields.{item_fields}
use Rattle.elf_calls_script.proofs.TextWords.{refused_words, item_texts}
use Rattle.elf_calls_script.proofs.fields.read_item_field.Goals as goal

pub returns-in_err-field : goal.returns-in_err-field
returns-in_err-field c =
    let p = err_from_is_err_and c.from_residual.result c.from_residual.ensures.1 in
    rw (p.1, p.2) (refused_words (item_fields c.args.kind) c.args.words.now c.in_err-field.field-0.0 (item_texts c.args.kind) c.in_err-field.ensures.err)

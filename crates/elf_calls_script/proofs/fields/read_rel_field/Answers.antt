use Rattle.std.proofs.Common.{◌^◌, refl}
use Rattle.std.proofs.lemmas.Result.{err_from_is_err_and}
use Rattle.elf_types.specs.declared.records.Kind.TheVariants.{Rel}
use Rattle.elf_calls_script.specs.declared.calls.ItemSet.TheVariants as set
use Rattle.elf_calls_script.specs.Fields.{item_fields}
use Rattle.elf_calls_script.proofs.FieldTables.{no_number, refused_value, rel_refuse, value_said}
use Rattle.elf_calls_script.proofs.Tables.{in_other}
use Rattle.elf_calls_script.proofs.fields.read_rel_field.Goals as goal

pub returns-in_err-n : goal.returns-in_err-n
returns-in_err-n c =
    let p = err_from_is_err_and c.from_residual.result c.from_residual.ensures.1 in
    let why = c.in_err-n.ensures.why in
    rw (p.1, p.2)
    (refused_value (item_fields Rel) c.args.field.now c.args.words.now c.in_err-n.field-0.0 why
    (rel_refuse c.args.words.now (no_number c.args.words.now c.in_err-n.field-0.0 why c.in_err-n.ensures.xword)))

pub returns-in-offset : goal.returns-in-offset
unfolding item_fields
returns-in-offset c =
    let n = c.in_ok-n.n in
    value_said (item_fields Rel) c.args.field.now _ c.args.words.now c.read_number.new.self (2 ^ 64) set.RelOffset n.is_xword n.xword
    c.in-offset.is refl c.in_ok-n.ensures.xword

pub returns-in-sym : goal.returns-in-sym
unfolding item_fields
returns-in-sym c =
    let n = c.in_ok-n.n in
    value_said (item_fields Rel) c.args.field.now _ c.args.words.now c.read_number.new.self (2 ^ 32) set.RelSym n.is_word n.word
    c.in-sym.is refl c.in_ok-n.ensures.word

pub returns-in-type : goal.returns-in-type
unfolding item_fields
returns-in-type c =
    let n = c.in_ok-n.n in
    value_said (item_fields Rel) c.args.field.now _ c.args.words.now c.read_number.new.self (2 ^ 32) set.RelType n.is_word n.word
    c.in-type.is refl c.in_ok-n.ensures.word

pub returns-in_default : goal.returns-in_default
unfolding item_fields
returns-in_default c =
    let d = c.in_default in
    in_other (item_fields Rel) c.args.field.now c.args.words.now (d.not-offset, (d.not-sym, (d.not-type, tt)))

use Rattle.std.proofs.Common.{◌^◌, refl}
use Rattle.std.proofs.lemmas.Result.{err_from_is_err_and}
use Rattle.elf_types.specs.declared.records.Kind.TheVariants.{Sym}
use Rattle.elf_calls_script.specs.declared.calls.ItemSet.TheVariants as set
use Rattle.elf_calls_script.specs.Fields.{item_fields}
use Rattle.elf_calls_script.proofs.FieldTables.{no_number, refused_value, sym_refuse, value_said}
use Rattle.elf_calls_script.proofs.Tables.{in_other}
use Rattle.elf_calls_script.proofs.fields.read_sym_field.Goals as goal

pub returns-in_err-n : goal.returns-in_err-n
returns-in_err-n c =
    let p = err_from_is_err_and c.from_residual.result c.from_residual.ensures.1 in
    let why = c.in_err-n.ensures.why in
    rw (p.1, p.2)
    (refused_value (item_fields Sym) c.args.field.now c.args.words.now c.in_err-n.field-0.0 why
    (sym_refuse c.args.words.now (no_number c.args.words.now c.in_err-n.field-0.0 why c.in_err-n.ensures.xword)))

pub returns-in-name : goal.returns-in-name
unfolding item_fields
returns-in-name c =
    let n = c.in_ok-n.n in
    value_said (item_fields Sym) c.args.field.now _ c.args.words.now c.read_number.new.self (2 ^ 32) set.SymName n.is_word n.word
    c.in-name.is refl c.in_ok-n.ensures.word

pub returns-in-value : goal.returns-in-value
unfolding item_fields
returns-in-value c =
    let n = c.in_ok-n.n in
    value_said (item_fields Sym) c.args.field.now _ c.args.words.now c.read_number.new.self (2 ^ 64) set.SymValue n.is_xword n.xword
    c.in-value.is refl c.in_ok-n.ensures.xword

pub returns-in-size : goal.returns-in-size
unfolding item_fields
returns-in-size c =
    let n = c.in_ok-n.n in
    value_said (item_fields Sym) c.args.field.now _ c.args.words.now c.read_number.new.self (2 ^ 64) set.SymSize n.is_xword n.xword
    c.in-size.is refl c.in_ok-n.ensures.xword

pub returns-in-info : goal.returns-in-info
unfolding item_fields
returns-in-info c =
    let n = c.in_ok-n.n in
    value_said (item_fields Sym) c.args.field.now _ c.args.words.now c.read_number.new.self (2 ^ 8) set.SymInfo n.is_byte n.byte
    c.in-info.is refl c.in_ok-n.ensures.byte

pub returns-in-other : goal.returns-in-other
unfolding item_fields
returns-in-other c =
    let n = c.in_ok-n.n in
    value_said (item_fields Sym) c.args.field.now _ c.args.words.now c.read_number.new.self (2 ^ 8) set.SymOther n.is_byte n.byte
    c.in-other.is refl c.in_ok-n.ensures.byte

pub returns-in-shndx : goal.returns-in-shndx
unfolding item_fields
returns-in-shndx c =
    let n = c.in_ok-n.n in
    value_said (item_fields Sym) c.args.field.now _ c.args.words.now c.read_number.new.self (2 ^ 16) set.SymShndx n.is_half n.half
    c.in-shndx.is refl c.in_ok-n.ensures.half

pub returns-in_default : goal.returns-in_default
unfolding item_fields
returns-in_default c =
    let d = c.in_default in
    in_other (item_fields Sym) c.args.field.now c.args.words.now (d.not-name, (d.not-value, (d.not-size, (d.not-info, (d.not-other, (d.not-shndx, tt))))))

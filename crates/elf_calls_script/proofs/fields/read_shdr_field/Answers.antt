use Rattle.std.proofs.Common.{◌^◌, refl}
use Rattle.std.proofs.lemmas.Result.{err_from_is_err_and}
use Rattle.elf_calls_script.specs.declared.calls.ShdrSet.TheVariants as set
use Rattle.elf_calls_script.specs.Fields.{shdr_field_phrases}
use Rattle.elf_calls_script.proofs.FieldTables.{no_number, refused_field, shdr_refuse, field_said}
use Rattle.elf_calls_script.proofs.Tables.{one_other}
use Rattle.elf_calls_script.proofs.TextWords.{refused_words}
use Rattle.elf_calls_script.proofs.fields.read_shdr_field.Goals as goal

pub returns-in_err-field : goal.returns-in_err-field
unfolding shdr_field_phrases
returns-in_err-field c =
    let p = err_from_is_err_and c.from_residual.result c.from_residual.ensures.1 in
    rw (p.1, p.2) (refused_words shdr_field_phrases c.args.words.now c.in_err-field.field-0.0 refl c.in_err-field.ensures.err)

pub returns-in_err-n : goal.returns-in_err-n
returns-in_err-n c =
    let p = err_from_is_err_and c.from_residual-in_err-n.result c.from_residual-in_err-n.ensures.1 in
    let why = c.in_err-n.ensures.why in
    rw (p.1, p.2)
    (refused_field shdr_field_phrases c.args.words.now c.in_ok-field.field.now c.read_text.new.self c.in_err-n.field-0.0 c.in_ok-field.ensures.ok why
    (shdr_refuse c.read_text.new.self (no_number c.read_text.new.self c.in_err-n.field-0.0 why c.in_err-n.ensures.xword)))

pub returns-in-name : goal.returns-in-name
unfolding shdr_field_phrases
returns-in-name c =
    let n = c.in_ok-n.n in
    field_said shdr_field_phrases c.args.words.now c.in_ok-field.field.now _ c.read_text.new.self c.read_number.new.self (2 ^ 32) set.Name n.is_word n.word
    c.in_ok-field.ensures.ok c.in-name.is refl c.in_ok-n.ensures.word

pub returns-in-type : goal.returns-in-type
unfolding shdr_field_phrases
returns-in-type c =
    let n = c.in_ok-n.n in
    field_said shdr_field_phrases c.args.words.now c.in_ok-field.field.now _ c.read_text.new.self c.read_number.new.self (2 ^ 32) set.Stype n.is_word n.word
    c.in_ok-field.ensures.ok c.in-type.is refl c.in_ok-n.ensures.word

pub returns-in-flags : goal.returns-in-flags
unfolding shdr_field_phrases
returns-in-flags c =
    let n = c.in_ok-n.n in
    field_said shdr_field_phrases c.args.words.now c.in_ok-field.field.now _ c.read_text.new.self c.read_number.new.self (2 ^ 64) set.Flags n.is_xword n.xword
    c.in_ok-field.ensures.ok c.in-flags.is refl c.in_ok-n.ensures.xword

pub returns-in-addr : goal.returns-in-addr
unfolding shdr_field_phrases
returns-in-addr c =
    let n = c.in_ok-n.n in
    field_said shdr_field_phrases c.args.words.now c.in_ok-field.field.now _ c.read_text.new.self c.read_number.new.self (2 ^ 64) set.Addr n.is_xword n.xword
    c.in_ok-field.ensures.ok c.in-addr.is refl c.in_ok-n.ensures.xword

pub returns-in-offset : goal.returns-in-offset
unfolding shdr_field_phrases
returns-in-offset c =
    let n = c.in_ok-n.n in
    field_said shdr_field_phrases c.args.words.now c.in_ok-field.field.now _ c.read_text.new.self c.read_number.new.self (2 ^ 64) set.Offset n.is_xword n.xword
    c.in_ok-field.ensures.ok c.in-offset.is refl c.in_ok-n.ensures.xword

pub returns-in-size : goal.returns-in-size
unfolding shdr_field_phrases
returns-in-size c =
    let n = c.in_ok-n.n in
    field_said shdr_field_phrases c.args.words.now c.in_ok-field.field.now _ c.read_text.new.self c.read_number.new.self (2 ^ 64) set.Size n.is_xword n.xword
    c.in_ok-field.ensures.ok c.in-size.is refl c.in_ok-n.ensures.xword

pub returns-in-link : goal.returns-in-link
unfolding shdr_field_phrases
returns-in-link c =
    let n = c.in_ok-n.n in
    field_said shdr_field_phrases c.args.words.now c.in_ok-field.field.now _ c.read_text.new.self c.read_number.new.self (2 ^ 32) set.Link n.is_word n.word
    c.in_ok-field.ensures.ok c.in-link.is refl c.in_ok-n.ensures.word

pub returns-in-info : goal.returns-in-info
unfolding shdr_field_phrases
returns-in-info c =
    let n = c.in_ok-n.n in
    field_said shdr_field_phrases c.args.words.now c.in_ok-field.field.now _ c.read_text.new.self c.read_number.new.self (2 ^ 32) set.Info n.is_word n.word
    c.in_ok-field.ensures.ok c.in-info.is refl c.in_ok-n.ensures.word

pub returns-in-addralign : goal.returns-in-addralign
unfolding shdr_field_phrases
returns-in-addralign c =
    let n = c.in_ok-n.n in
    field_said shdr_field_phrases c.args.words.now c.in_ok-field.field.now _ c.read_text.new.self c.read_number.new.self (2 ^ 64) set.Addralign n.is_xword n.xword
    c.in_ok-field.ensures.ok c.in-addralign.is refl c.in_ok-n.ensures.xword

pub returns-in-entsize : goal.returns-in-entsize
unfolding shdr_field_phrases
returns-in-entsize c =
    let n = c.in_ok-n.n in
    field_said shdr_field_phrases c.args.words.now c.in_ok-field.field.now _ c.read_text.new.self c.read_number.new.self (2 ^ 64) set.Entsize n.is_xword n.xword
    c.in_ok-field.ensures.ok c.in-entsize.is refl c.in_ok-n.ensures.xword

pub returns-in_default : goal.returns-in_default
unfolding shdr_field_phrases
returns-in_default c =
    let d = c.in_default in
    one_other shdr_field_phrases c.args.words.now c.in_ok-field.field.now c.read_text.new.self c.in_ok-field.ensures.ok
    (d.not-name, (d.not-type, (d.not-flags, (d.not-addr, (d.not-offset, (d.not-size, (d.not-link, (d.not-info, (d.not-addralign, (d.not-entsize, tt))))))))))

use Rattle.std.proofs.Common.{◌^◌, refl}
use Rattle.std.proofs.lemmas.Result.{err_from_is_err_and}
use Rattle.elf_calls_script.specs.declared.calls.EhdrSet.TheVariants as set
use Rattle.elf_calls_script.specs.Fields.{ehdr_field_phrases}
use Rattle.elf_calls_script.proofs.FieldTables.{no_number, refused_field, ehdr_refuse, field_said}
use Rattle.elf_calls_script.proofs.Tables.{one_other}
use Rattle.elf_calls_script.proofs.TextWords.{refused_words}
use Rattle.elf_calls_script.proofs.fields.read_ehdr_field.Goals as goal

pub returns-in_err-field : goal.returns-in_err-field
unfolding ehdr_field_phrases
returns-in_err-field c =
    let p = err_from_is_err_and c.from_residual.result c.from_residual.ensures.1 in
    rw (p.1, p.2) (refused_words ehdr_field_phrases c.args.words.now c.in_err-field.field-0.0 refl c.in_err-field.ensures.err)

pub returns-in_err-n : goal.returns-in_err-n
returns-in_err-n c =
    let p = err_from_is_err_and c.from_residual-in_err-n.result c.from_residual-in_err-n.ensures.1 in
    let why = c.in_err-n.ensures.why in
    rw (p.1, p.2)
    (refused_field ehdr_field_phrases c.args.words.now c.in_ok-field.field.now c.read_text.new.self c.in_err-n.field-0.0 c.in_ok-field.ensures.ok why
    (ehdr_refuse c.read_text.new.self (no_number c.read_text.new.self c.in_err-n.field-0.0 why c.in_err-n.ensures.xword)))

pub returns-in-osabi : goal.returns-in-osabi
unfolding ehdr_field_phrases
returns-in-osabi c =
    let n = c.in_ok-n.n in
    field_said ehdr_field_phrases c.args.words.now c.in_ok-field.field.now _ c.read_text.new.self c.read_number.new.self (2 ^ 8) set.Osabi n.is_byte n.byte
    c.in_ok-field.ensures.ok c.in-osabi.is refl c.in_ok-n.ensures.byte

pub returns-in-abiversion : goal.returns-in-abiversion
unfolding ehdr_field_phrases
returns-in-abiversion c =
    let n = c.in_ok-n.n in
    field_said ehdr_field_phrases c.args.words.now c.in_ok-field.field.now _ c.read_text.new.self c.read_number.new.self (2 ^ 8) set.Abiversion n.is_byte n.byte
    c.in_ok-field.ensures.ok c.in-abiversion.is refl c.in_ok-n.ensures.byte

pub returns-in-type : goal.returns-in-type
unfolding ehdr_field_phrases
returns-in-type c =
    let n = c.in_ok-n.n in
    field_said ehdr_field_phrases c.args.words.now c.in_ok-field.field.now _ c.read_text.new.self c.read_number.new.self (2 ^ 16) set.Etype n.is_half n.half
    c.in_ok-field.ensures.ok c.in-type.is refl c.in_ok-n.ensures.half

pub returns-in-machine : goal.returns-in-machine
unfolding ehdr_field_phrases
returns-in-machine c =
    let n = c.in_ok-n.n in
    field_said ehdr_field_phrases c.args.words.now c.in_ok-field.field.now _ c.read_text.new.self c.read_number.new.self (2 ^ 16) set.Machine n.is_half n.half
    c.in_ok-field.ensures.ok c.in-machine.is refl c.in_ok-n.ensures.half

pub returns-in-entry : goal.returns-in-entry
unfolding ehdr_field_phrases
returns-in-entry c =
    let n = c.in_ok-n.n in
    field_said ehdr_field_phrases c.args.words.now c.in_ok-field.field.now _ c.read_text.new.self c.read_number.new.self (2 ^ 64) set.Entry n.is_xword n.xword
    c.in_ok-field.ensures.ok c.in-entry.is refl c.in_ok-n.ensures.xword

pub returns-in-phoff : goal.returns-in-phoff
unfolding ehdr_field_phrases
returns-in-phoff c =
    let n = c.in_ok-n.n in
    field_said ehdr_field_phrases c.args.words.now c.in_ok-field.field.now _ c.read_text.new.self c.read_number.new.self (2 ^ 64) set.Phoff n.is_xword n.xword
    c.in_ok-field.ensures.ok c.in-phoff.is refl c.in_ok-n.ensures.xword

pub returns-in-shoff : goal.returns-in-shoff
unfolding ehdr_field_phrases
returns-in-shoff c =
    let n = c.in_ok-n.n in
    field_said ehdr_field_phrases c.args.words.now c.in_ok-field.field.now _ c.read_text.new.self c.read_number.new.self (2 ^ 64) set.Shoff n.is_xword n.xword
    c.in_ok-field.ensures.ok c.in-shoff.is refl c.in_ok-n.ensures.xword

pub returns-in-flags : goal.returns-in-flags
unfolding ehdr_field_phrases
returns-in-flags c =
    let n = c.in_ok-n.n in
    field_said ehdr_field_phrases c.args.words.now c.in_ok-field.field.now _ c.read_text.new.self c.read_number.new.self (2 ^ 32) set.Flags n.is_word n.word
    c.in_ok-field.ensures.ok c.in-flags.is refl c.in_ok-n.ensures.word

pub returns-in-shstrndx : goal.returns-in-shstrndx
unfolding ehdr_field_phrases
returns-in-shstrndx c =
    let n = c.in_ok-n.n in
    field_said ehdr_field_phrases c.args.words.now c.in_ok-field.field.now _ c.read_text.new.self c.read_number.new.self (2 ^ 32) set.Shstrndx n.is_word n.word
    c.in_ok-field.ensures.ok c.in-shstrndx.is refl c.in_ok-n.ensures.word

pub returns-in_default : goal.returns-in_default
unfolding ehdr_field_phrases
returns-in_default c =
    let d = c.in_default in
    one_other ehdr_field_phrases c.args.words.now c.in_ok-field.field.now c.read_text.new.self c.in_ok-field.ensures.ok
    (d.not-osabi, (d.not-abiversion, (d.not-type, (d.not-machine, (d.not-entry, (d.not-phoff, (d.not-shoff, (d.not-flags, (d.not-shstrndx, tt)))))))))

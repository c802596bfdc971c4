use Rattle.std.proofs.Common.{◌^◌, refl}
use Rattle.std.proofs.lemmas.Result.{err_from_is_err_and}
use Rattle.elf_calls_script.specs.declared.calls.PhdrSet.TheVariants as set
use Rattle.elf_calls_script.specs.Fields.{phdr_field_phrases}
use Rattle.elf_calls_script.proofs.FieldTables.{no_number, refused_field, phdr_refuse, field_said}
use Rattle.elf_calls_script.proofs.Tables.{one_other}
use Rattle.elf_calls_script.proofs.TextWords.{refused_words}
use Rattle.elf_calls_script.proofs.fields.read_phdr_field.Goals as goal

pub returns-in_err-field : goal.returns-in_err-field
unfolding phdr_field_phrases
returns-in_err-field c =
    let p = err_from_is_err_and c.from_residual.result c.from_residual.ensures.1 in
    rw (p.1, p.2) (refused_words phdr_field_phrases c.args.words.now c.in_err-field.field-0.0 refl c.in_err-field.ensures.err)

pub returns-in_err-n : goal.returns-in_err-n
returns-in_err-n c =
    let p = err_from_is_err_and c.from_residual-in_err-n.result c.from_residual-in_err-n.ensures.1 in
    let why = c.in_err-n.ensures.why in
    rw (p.1, p.2)
    (refused_field phdr_field_phrases c.args.words.now c.in_ok-field.field.now c.read_text.new.self c.in_err-n.field-0.0 c.in_ok-field.ensures.ok why
    (phdr_refuse c.read_text.new.self (no_number c.read_text.new.self c.in_err-n.field-0.0 why c.in_err-n.ensures.xword)))

pub returns-in-type : goal.returns-in-type
unfolding phdr_field_phrases
returns-in-type c =
    let n = c.in_ok-n.n in
    field_said phdr_field_phrases c.args.words.now c.in_ok-field.field.now _ c.read_text.new.self c.read_number.new.self (2 ^ 32) set.Ptype n.is_word n.word
    c.in_ok-field.ensures.ok c.in-type.is refl c.in_ok-n.ensures.word

pub returns-in-flags : goal.returns-in-flags
unfolding phdr_field_phrases
returns-in-flags c =
    let n = c.in_ok-n.n in
    field_said phdr_field_phrases c.args.words.now c.in_ok-field.field.now _ c.read_text.new.self c.read_number.new.self (2 ^ 32) set.Flags n.is_word n.word
    c.in_ok-field.ensures.ok c.in-flags.is refl c.in_ok-n.ensures.word

pub returns-in-offset : goal.returns-in-offset
unfolding phdr_field_phrases
returns-in-offset c =
    let n = c.in_ok-n.n in
    field_said phdr_field_phrases c.args.words.now c.in_ok-field.field.now _ c.read_text.new.self c.read_number.new.self (2 ^ 64) set.Offset n.is_xword n.xword
    c.in_ok-field.ensures.ok c.in-offset.is refl c.in_ok-n.ensures.xword

pub returns-in-vaddr : goal.returns-in-vaddr
unfolding phdr_field_phrases
returns-in-vaddr c =
    let n = c.in_ok-n.n in
    field_said phdr_field_phrases c.args.words.now c.in_ok-field.field.now _ c.read_text.new.self c.read_number.new.self (2 ^ 64) set.Vaddr n.is_xword n.xword
    c.in_ok-field.ensures.ok c.in-vaddr.is refl c.in_ok-n.ensures.xword

pub returns-in-paddr : goal.returns-in-paddr
unfolding phdr_field_phrases
returns-in-paddr c =
    let n = c.in_ok-n.n in
    field_said phdr_field_phrases c.args.words.now c.in_ok-field.field.now _ c.read_text.new.self c.read_number.new.self (2 ^ 64) set.Paddr n.is_xword n.xword
    c.in_ok-field.ensures.ok c.in-paddr.is refl c.in_ok-n.ensures.xword

pub returns-in-filesz : goal.returns-in-filesz
unfolding phdr_field_phrases
returns-in-filesz c =
    let n = c.in_ok-n.n in
    field_said phdr_field_phrases c.args.words.now c.in_ok-field.field.now _ c.read_text.new.self c.read_number.new.self (2 ^ 64) set.Filesz n.is_xword n.xword
    c.in_ok-field.ensures.ok c.in-filesz.is refl c.in_ok-n.ensures.xword

pub returns-in-memsz : goal.returns-in-memsz
unfolding phdr_field_phrases
returns-in-memsz c =
    let n = c.in_ok-n.n in
    field_said phdr_field_phrases c.args.words.now c.in_ok-field.field.now _ c.read_text.new.self c.read_number.new.self (2 ^ 64) set.Memsz n.is_xword n.xword
    c.in_ok-field.ensures.ok c.in-memsz.is refl c.in_ok-n.ensures.xword

pub returns-in-align : goal.returns-in-align
unfolding phdr_field_phrases
returns-in-align c =
    let n = c.in_ok-n.n in
    field_said phdr_field_phrases c.args.words.now c.in_ok-field.field.now _ c.read_text.new.self c.read_number.new.self (2 ^ 64) set.Align n.is_xword n.xword
    c.in_ok-field.ensures.ok c.in-align.is refl c.in_ok-n.ensures.xword

pub returns-in_default : goal.returns-in_default
unfolding phdr_field_phrases
returns-in_default c =
    let d = c.in_default in
    one_other phdr_field_phrases c.args.words.now c.in_ok-field.field.now c.read_text.new.self c.in_ok-field.ensures.ok
    (d.not-type, (d.not-flags, (d.not-offset, (d.not-vaddr, (d.not-paddr, (d.not-filesz, (d.not-memsz, (d.not-align, tt))))))))

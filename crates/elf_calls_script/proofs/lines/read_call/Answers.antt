use Rattle.std.proofs.Common.{refl}
use Rattle.elf_calls_script.specs.declared.calls.Call.TheVariants as call
use Rattle.elf_calls_script.specs.Lines.{calls, phdr_call_line, shdr_line, pieces_line, data_line, raw_line, item_line, str_line, note_call_line, find_line, set_line, addall_line, newphdr_line, newdata_line, fill_line, replace_line, flag_line}
use Rattle.elf_calls_script.specs.Parts.{just}
use Rattle.elf_calls_script.proofs.Tables.{call_said, call_other}
use Rattle.elf_calls_script.proofs.TextWords.{no_call}
use Rattle.elf_calls_script.proofs.lines.read_call.Goals as goal

pub returns-in_default : goal.returns-in_default
returns-in_default c = no_call c.args.words.now c.in_default.ensures.err.1

pub returns-in-ehdr : goal.returns-in-ehdr
unfolding calls
returns-in-ehdr c = call_said c.args.words.now c.in-Ok.name.now _ c.read_text.new.self (just call.Ehdr) c.in-Ok.ensures.ok c.in-ehdr.is refl

pub returns-in-phdr : goal.returns-in-phdr
unfolding calls
returns-in-phdr c = rw (call_said c.args.words.now c.in-Ok.name.now _ c.read_text.new.self phdr_call_line c.in-Ok.ensures.ok c.in-phdr.is refl) c.read_phdr.ensures

pub returns-in-shdr : goal.returns-in-shdr
unfolding calls
returns-in-shdr c = rw (call_said c.args.words.now c.in-Ok.name.now _ c.read_text.new.self shdr_line c.in-Ok.ensures.ok c.in-shdr.is refl) c.read_shdr.ensures

pub returns-in-pieces : goal.returns-in-pieces
unfolding calls
returns-in-pieces c = rw (call_said c.args.words.now c.in-Ok.name.now _ c.read_text.new.self pieces_line c.in-Ok.ensures.ok c.in-pieces.is refl) c.read_pieces.ensures

pub returns-in-data : goal.returns-in-data
unfolding calls
returns-in-data c = rw (call_said c.args.words.now c.in-Ok.name.now _ c.read_text.new.self data_line c.in-Ok.ensures.ok c.in-data.is refl) c.read_data.ensures

pub returns-in-raw : goal.returns-in-raw
unfolding calls
returns-in-raw c = rw (call_said c.args.words.now c.in-Ok.name.now _ c.read_text.new.self raw_line c.in-Ok.ensures.ok c.in-raw.is refl) c.read_raw.ensures

pub returns-in-item : goal.returns-in-item
unfolding calls
returns-in-item c = rw (call_said c.args.words.now c.in-Ok.name.now _ c.read_text.new.self item_line c.in-Ok.ensures.ok c.in-item.is refl) c.read_item.ensures

pub returns-in-str : goal.returns-in-str
unfolding calls
returns-in-str c = rw (call_said c.args.words.now c.in-Ok.name.now _ c.read_text.new.self str_line c.in-Ok.ensures.ok c.in-str.is refl) c.read_str.ensures

pub returns-in-note : goal.returns-in-note
unfolding calls
returns-in-note c = rw (call_said c.args.words.now c.in-Ok.name.now _ c.read_text.new.self note_call_line c.in-Ok.ensures.ok c.in-note.is refl) c.read_note.ensures

pub returns-in-find : goal.returns-in-find
unfolding calls
returns-in-find c = rw (call_said c.args.words.now c.in-Ok.name.now _ c.read_text.new.self find_line c.in-Ok.ensures.ok c.in-find.is refl) c.read_find.ensures

pub returns-in-set : goal.returns-in-set
unfolding calls
returns-in-set c = rw (call_said c.args.words.now c.in-Ok.name.now _ c.read_text.new.self set_line c.in-Ok.ensures.ok c.in-set.is refl) c.read_set.ensures

pub returns-in-addall : goal.returns-in-addall
unfolding calls
returns-in-addall c = rw (call_said c.args.words.now c.in-Ok.name.now _ c.read_text.new.self addall_line c.in-Ok.ensures.ok c.in-addall.is refl) c.read_addall.ensures

pub returns-in-newscn : goal.returns-in-newscn
unfolding calls
returns-in-newscn c = call_said c.args.words.now c.in-Ok.name.now _ c.read_text.new.self (just call.NewScn) c.in-Ok.ensures.ok c.in-newscn.is refl

pub returns-in-newphdr : goal.returns-in-newphdr
unfolding calls
returns-in-newphdr c = rw (call_said c.args.words.now c.in-Ok.name.now _ c.read_text.new.self newphdr_line c.in-Ok.ensures.ok c.in-newphdr.is refl) c.read_newphdr.ensures

pub returns-in-newdata : goal.returns-in-newdata
unfolding calls
returns-in-newdata c = rw (call_said c.args.words.now c.in-Ok.name.now _ c.read_text.new.self newdata_line c.in-Ok.ensures.ok c.in-newdata.is refl) c.read_newdata.ensures

pub returns-in-fill : goal.returns-in-fill
unfolding calls
returns-in-fill c = rw (call_said c.args.words.now c.in-Ok.name.now _ c.read_text.new.self fill_line c.in-Ok.ensures.ok c.in-fill.is refl) c.read_fill.ensures

pub returns-in-replace : goal.returns-in-replace
unfolding calls
returns-in-replace c = rw (call_said c.args.words.now c.in-Ok.name.now _ c.read_text.new.self replace_line c.in-Ok.ensures.ok c.in-replace.is refl) c.read_replace.ensures

pub returns-in-flag : goal.returns-in-flag
unfolding calls
returns-in-flag c = rw (call_said c.args.words.now c.in-Ok.name.now _ c.read_text.new.self flag_line c.in-Ok.ensures.ok c.in-flag.is refl) c.read_flag.ensures

pub returns-in-null : goal.returns-in-null
unfolding calls
returns-in-null c = call_said c.args.words.now c.in-Ok.name.now _ c.read_text.new.self (just call.Null) c.in-Ok.ensures.ok c.in-null.is refl

pub returns-in_default-name : goal.returns-in_default-name
unfolding calls
returns-in_default-name c =
    let d = c.in_default-name in
    call_other c.args.words.now c.in-Ok.name.now c.read_text.new.self c.in-Ok.ensures.ok
    (d.not-ehdr, (d.not-phdr, (d.not-shdr, (d.not-pieces, (d.not-data, (d.not-raw, (d.not-item, (d.not-str, (d.not-note, (d.not-find, (d.not-set, (d.not-addall, (d.not-newscn, (d.not-newphdr, (d.not-newdata, (d.not-fill, (d.not-replace, (d.not-flag, (d.not-null, tt)))))))))))))))))))

use Rattle.std.proofs.Common.{refl}
use Rattle.std.proofs.lemmas.Result.{err_from_is_err_and}
use Rattle.elf_types.specs.declared.records.Kind.TheVariants as kinds
use Rattle.elf_calls_script.specs.declared.calls.Call.TheVariants as call
use Rattle.elf_calls_script.specs.Fields.{ehdr_field_phrases, phdr_field_phrases, shdr_field_phrases}
use Rattle.elf_calls_script.specs.Lines.{section, item_set, sets, set_line}
use Rattle.elf_calls_script.specs.Parts.{◌&◌, ◌⇒◌, one_of, u32}
use Rattle.elf_calls_script.proofs.Tables.{set_said, set_other}
use Rattle.elf_calls_script.proofs.TextWords.{refused_words}
use Rattle.elf_calls_script.proofs.sets.read_set.Goals as goal

pub returns-in_err-target : goal.returns-in_err-target
unfolding sets set_line
returns-in_err-target c =
    let p = err_from_is_err_and c.from_residual.result c.from_residual.ensures.1 in
    rw (p.1, p.2) (refused_words sets c.args.words.now c.in_err-target.field-0.0 refl c.in_err-target.ensures.err)

pub returns-in-ehdr : goal.returns-in-ehdr
unfolding sets
returns-in-ehdr c = rw (set_said c.args.words.now c.in_ok-target.target.now _ c.read_text.new.self (one_of ehdr_field_phrases ⇒ λ set. call.SetEhdr set) c.in_ok-target.ensures.ok c.in-ehdr.is refl) c.set_ehdr.ensures

pub returns-in-phdr : goal.returns-in-phdr
unfolding sets
returns-in-phdr c = rw (set_said c.args.words.now c.in_ok-target.target.now _ c.read_text.new.self (u32 & one_of phdr_field_phrases ⇒ λ (i, set). call.SetPhdr i set) c.in_ok-target.ensures.ok c.in-phdr.is refl) c.set_phdr.ensures

pub returns-in-shdr : goal.returns-in-shdr
unfolding sets
returns-in-shdr c = rw (set_said c.args.words.now c.in_ok-target.target.now _ c.read_text.new.self (section & one_of shdr_field_phrases ⇒ λ (s, set). call.SetShdr s set) c.in_ok-target.ensures.ok c.in-shdr.is refl) c.set_shdr.ensures

pub returns-in-half : goal.returns-in-half
unfolding sets
returns-in-half c = rw (set_said c.args.words.now c.in_ok-target.target.now _ c.read_text.new.self (item_set kinds.Half) c.in_ok-target.ensures.ok c.in-half.is refl) c.set_item.ensures

pub returns-in-word : goal.returns-in-word
unfolding sets
returns-in-word c = rw (set_said c.args.words.now c.in_ok-target.target.now _ c.read_text.new.self (item_set kinds.Word) c.in_ok-target.ensures.ok c.in-word.is refl) c.set_item-in-word.ensures

pub returns-in-addr : goal.returns-in-addr
unfolding sets
returns-in-addr c = rw (set_said c.args.words.now c.in_ok-target.target.now _ c.read_text.new.self (item_set kinds.Addr) c.in_ok-target.ensures.ok c.in-addr.is refl) c.set_item-in-addr.ensures

pub returns-in-sym : goal.returns-in-sym
unfolding sets
returns-in-sym c = rw (set_said c.args.words.now c.in_ok-target.target.now _ c.read_text.new.self (item_set kinds.Sym) c.in_ok-target.ensures.ok c.in-sym.is refl) c.set_item-in-sym.ensures

pub returns-in-rel : goal.returns-in-rel
unfolding sets
returns-in-rel c = rw (set_said c.args.words.now c.in_ok-target.target.now _ c.read_text.new.self (item_set kinds.Rel) c.in_ok-target.ensures.ok c.in-rel.is refl) c.set_item-in-rel.ensures

pub returns-in-rela : goal.returns-in-rela
unfolding sets
returns-in-rela c = rw (set_said c.args.words.now c.in_ok-target.target.now _ c.read_text.new.self (item_set kinds.Rela) c.in_ok-target.ensures.ok c.in-rela.is refl) c.set_item-in-rela.ensures

pub returns-in-dyn : goal.returns-in-dyn
unfolding sets
returns-in-dyn c = rw (set_said c.args.words.now c.in_ok-target.target.now _ c.read_text.new.self (item_set kinds.Dyn) c.in_ok-target.ensures.ok c.in-dyn.is refl) c.set_item-in-dyn.ensures

pub returns-in_default : goal.returns-in_default
unfolding sets
returns-in_default c =
    let d = c.in_default in
    set_other c.args.words.now c.in_ok-target.target.now c.read_text.new.self c.in_ok-target.ensures.ok
    (d.not-ehdr, (d.not-phdr, (d.not-shdr, (d.not-half, (d.not-word, (d.not-addr, (d.not-sym, (d.not-rel, (d.not-rela, (d.not-dyn, tt))))))))))

use Rattle.std.proofs.Common.{◌≡◌, ◌+◌, ◌*◌, ℕ, take, drop, subst}
use Rattle.std.specs.Prelude.{min}
use Rattle.std.proofs.lemmas.Result.{IfOk-weaker}
use Rattle.elf_types.specs.declared.records.Kind.TheVariants as kinds
use Rattle.elf_xlate.specs.Translation.{between}
use Rattle.rebuild_image.specs.elf_object.Answers.{words_of}
use Rattle.rebuild_keep.specs.Homes.{decoded_items}
use Rattle.rebuild_tables.specs.Rows.{items_within, words_in_base}
use Rattle.rebuild_tables.proofs.ReadLaws.{words_read}
use Rattle.rebuild_tables.proofs.reading.read_words.Goals as goal

pub returns-in-Ok-clause-told : goal.returns-in-Ok-clause-told
returns-in-Ok-clause-told g c = λ told.
    let x = c.args.x in
    let base = c.args.elf.now.o.base in
    IfOk-weaker c.words_from.result
    (λ l. l ≡ words_of (decoded_items kinds.Word x.class x.order c.as_slice.result.now))
    (λ l. l ≡ between c.args.from c.args.to (words_in_base base x))
    (λ l is. words_read x c.args.from c.args.to base c.as_slice.result.now c.in-Ok.bytes l
    c.requires.order c.requires.inside c.as_slice.ensures
    (subst (λ (n : ℕ). c.in-Ok.bytes ≡ take (items_within x.words c.args.from c.args.to * n)
    (drop (x.words.at + min c.args.from x.words.count * n) base)) c.item_size.ensures
    (c.in-Ok.ensures.bytes told)) is) c.words_from.ensures.ok

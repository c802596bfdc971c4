use Rattle.std.proofs.Common.{◌≡◌, ◌+◌, ◌*◌, ℕ, take, drop, subst}
use Rattle.std.specs.Prelude.{min}
use Rattle.std.proofs.lemmas.Result.{IfOk-weaker}
use Rattle.elf_types.specs.declared.records.Kind.TheVariants as kinds
use Rattle.elf_xlate.specs.Translation.{between}
use Rattle.rebuild_image.specs.elf_object.Answers.{syms_of}
use Rattle.rebuild_keep.specs.Homes.{decoded_items}
use Rattle.rebuild_tables.specs.Rows.{items_within, syms_in_base}
use Rattle.rebuild_tables.proofs.ReadLaws.{syms_read}
use Rattle.rebuild_tables.proofs.reading.read_syms.Goals as goal

pub returns-in-Ok-clause-told : goal.returns-in-Ok-clause-told
returns-in-Ok-clause-told g c = λ told.
    let x = c.args.x in
    let base = c.args.elf.now.o.base in
    IfOk-weaker c.syms_from.result
    (λ l. l ≡ syms_of (decoded_items kinds.Sym x.class x.order c.as_slice.result.now))
    (λ l. l ≡ between c.args.from c.args.to (syms_in_base base x))
    (λ l is. syms_read x c.args.from c.args.to base c.as_slice.result.now c.in-Ok.bytes l
    c.requires.order c.requires.inside c.as_slice.ensures
    (subst (λ (n : ℕ). c.in-Ok.bytes ≡ take (items_within x.syms c.args.from c.args.to * n)
    (drop (x.syms.at + min c.args.from x.syms.count * n) base)) c.item_size.ensures
    (c.in-Ok.ensures.bytes told)) is) c.syms_from.ensures.ok

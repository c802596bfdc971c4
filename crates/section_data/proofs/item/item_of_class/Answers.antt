use Rattle.std.proofs.Common.{◌≡◌, ℕ, ◌*◌, ◌/◌, ◌%◌, ◌<◌, length, take, drop, sym, ap, ◌∙◌, subst, Ok}
use Rattle.elf_object.specs.elf_xlate.Items.{item_size}
use Rattle.section_data.proofs.Items.{entry_there, whole_kind}
use Rattle.section_data.proofs.item.item_of_class.Goals as goal

pub returns-in-Some-clause-value : goal.returns-in-Some-clause-value
returns-in-Some-clause-value g c =
    let kind = g.T.Listed.kind in
    let size = c.size.ensures in
    let whole = whole_kind kind c.args.class (length c.args.bytes.now) (subst (λ (n : ℕ). length c.args.bytes.now % n ≡ 0) size c.in-Some.ensures.whole) in
    let inside = subst (λ (n : ℕ). c.args.i < length c.args.bytes.now / n) size c.in-Some.ensures.inside in
    let bytes = subst (λ (n : ℕ). c.in-Some.item.now ≡ take n (drop (c.args.i * n) c.args.bytes.now)) size c.in-Some.ensures.there in
    let there = entry_there g.T.Listed.variant g.T.Listed.list_of g.met.T.Listed.back (g.T.Item.item_of c.args.class c.args.order)
    (item_size kind c.args.class) c.args.i c.args.bytes.now kind c.args.class c.args.order
    (g.met.T.Item.listed_in c.args.class c.args.order c.args.bytes.now) whole inside in
    there ∙ ap Ok (sym (c.get.ensures ∙ ap (g.T.Item.item_of c.args.class c.args.order) bytes))

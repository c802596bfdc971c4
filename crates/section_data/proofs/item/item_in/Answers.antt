use Rattle.std.proofs.Common.{◌≡◌, ℕ, ◌*◌, ◌/◌, ◌%◌, ◌<◌, ◌≤◌, length, take, drop, sym, ap, ◌∙◌, subst, Ok}
use Rattle.elf_object.specs.elf_xlate.Items.{item_size}
use Rattle.section_data.proofs.Items.{entry_there, entry_past, kind_whole}
use Rattle.section_data.proofs.item.item_in.Goals as goal

pub bytes_of_item-requires : goal.bytes_of_item-requires
bytes_of_item-requires g c = rw c.size-size.ensures (g.met.T.Item.sized c.args.class)

pub nonzero_div-result : goal.nonzero_div-result
nonzero_div-result g c = rw c.size-size.ensures (g.met.T.Item.sized c.args.class)

pub returns-in-Some : goal.returns-in-Some
returns-in-Some g c =
    let size = c.size-size.ensures in
    let inside : c.args.i < length c.args.bytes.now / item_size g.T.Listed.kind c.args.class = subst (λ (n : ℕ). c.args.i < length c.args.bytes.now / n) size c.in-Some.ensures.inside in
    let bytes = subst (λ (n : ℕ). c.in-Some.item.now ≡ take n (drop (c.args.i * n) c.args.bytes.now)) size c.in-Some.ensures.there in
    let there = entry_there g.T.Listed.variant g.T.Listed.list_of g.met.T.Listed.back (g.T.Item.item_of c.args.class c.args.order)
    (item_size g.T.Listed.kind c.args.class) c.args.i c.args.bytes.now g.T.Listed.kind c.args.class c.args.order
    (g.met.T.Item.listed_in c.args.class c.args.order c.args.bytes.now) c.requires inside in
    ap Ok (c.get.ensures ∙ ap (g.T.Item.item_of c.args.class c.args.order) bytes) ∙ sym there

pub returns-in-None : goal.returns-in-None
returns-in-None g c =
    let size = c.size-size.ensures in
    let even = kind_whole g.T.Listed.kind c.args.class (length c.args.bytes.now) (g.met.T.Item.sized c.args.class) c.requires in
    let past = subst (λ (n : ℕ). length c.args.bytes.now % n ≡ 0 → length c.args.bytes.now / n ≤ c.args.i) size (c.bytes_of_item.ensures.past c.in-None.is) even in
    let none = entry_past g.T.Listed.variant g.T.Listed.list_of g.met.T.Listed.back (g.T.Item.item_of c.args.class c.args.order)
    (item_size g.T.Listed.kind c.args.class) c.args.i c.args.bytes.now g.T.Listed.kind c.args.class c.args.order
    (g.met.T.Item.listed_in c.args.class c.args.order c.args.bytes.now) c.requires past in
    rw size (sym none)

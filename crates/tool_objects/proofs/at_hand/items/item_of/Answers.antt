use Rattle.std.proofs.Common.{◌≡◌, ◌≤◌, ◌<◌, ◌*◌, ◌/◌, ℕ, None, Some, length, take, drop, sym, ap, ◌∙◌, subst}
use Rattle.gelf_view.specs.elf_xlate.Items.{item_size}
use Rattle.gelf_view.proofs.elf_object.AnswerLaws.{entry_value}
use Rattle.gelf_view.proofs.section_data.Items.{entry_there, entry_past}
use Rattle.tool_objects.proofs.at_hand.HeldItems.{no_entry_at}
use Rattle.tool_objects.proofs.at_hand.items.item_of.Goals as goal

pub returns-in-Some : goal.returns-in-Some
returns-in-Some g c =
    let size = c.size.ensures in
    let inside = subst (λ (n : ℕ). c.args.i < length c.args.bytes.now / n) size c.in-Some.ensures.inside in
    let bytes = subst (λ (n : ℕ). c.in-Some.item.now ≡ take n (drop (c.args.i * n) c.args.bytes.now)) size c.in-Some.ensures.there in
    let there = entry_there g.T.Listed.variant g.T.Listed.list_of g.met.T.Listed.back (g.T.Item.item_of c.args.class c.args.order)
    (item_size g.T.Listed.kind c.args.class) c.args.i c.args.bytes.now g.T.Listed.kind c.args.class c.args.order
    (g.met.T.Item.listed_in c.args.class c.args.order c.args.bytes.now) c.requires inside in
    ap Some (c.get.ensures ∙ ap (g.T.Item.item_of c.args.class c.args.order) bytes) ∙ sym (entry_value None _ c.args.i _ there).1

pub returns-in-None : goal.returns-in-None
returns-in-None g c =
    let past = subst (λ (n : ℕ). length c.args.bytes.now / n ≤ c.args.i) c.size.ensures (c.bytes_of_item.ensures.past c.in-None.is) in
    sym (no_entry_at _ c.args.i _ (entry_past g.T.Listed.variant g.T.Listed.list_of g.met.T.Listed.back (g.T.Item.item_of c.args.class c.args.order)
    (item_size g.T.Listed.kind c.args.class) c.args.i c.args.bytes.now g.T.Listed.kind c.args.class c.args.order
    (g.met.T.Item.listed_in c.args.class c.args.order c.args.bytes.now) c.requires past))

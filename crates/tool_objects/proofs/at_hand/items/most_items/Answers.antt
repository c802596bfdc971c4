use Rattle.std.proofs.Common.{◌/◌, ◌<◌, ℕ, length, ap, ◌∙◌, arith}
use Rattle.std.proofs.Math.Nat.{div-lt_iff_lt-mul}
use Rattle.gelf_view.specs.elf_xlate.Items.{item_size}
use Rattle.gelf_view.proofs.section_data.Items.{entry_past}
use Rattle.tool_objects.proofs.at_hand.HeldItems.{all_before, no_entry_at}
use Rattle.tool_objects.proofs.at_hand.items.most_items.Goals as goal

pub returns-clause-items : goal.returns-clause-items
returns-clause-items g c =
    let count = c.count_bytes-count.result / c.size.result in
    let same = ap (λ (m : ℕ). m / c.size.result) c.count_bytes-count.ensures.exact ∙ ap (λ (n : ℕ). length c.args.bytes.now / n) c.size.ensures in
    all_before _ count (no_entry_at _ count _ (entry_past g.T.Listed.variant g.T.Listed.list_of g.met.T.Listed.back (g.T.Item.item_of c.args.class c.args.order)
    (item_size g.T.Listed.kind c.args.class) count c.args.bytes.now g.T.Listed.kind c.args.class c.args.order
    (g.met.T.Item.listed_in c.args.class c.args.order c.args.bytes.now) c.requires (omega (arith, same))))

pub returns-clause-small : goal.returns-clause-small
returns-clause-small g c =
    let some : 0 < c.size.result = rw c.size.ensures (g.met.T.Item.sized c.args.class) in
    (div-lt_iff_lt-mul some).1 (omega (arith, some, c.count_bytes-count.ensures.small))

use Rattle.std.proofs.Common.{◌<◌, length, Ok, subst, arith}
use Rattle.std.specs.Prelude.{IfSome}
use Rattle.section_table.specs.elf_object.Words.{Answers}
use Rattle.section_table.specs.elf_xlate.Items.{item_size}
use Rattle.section_table.specs.section_data.Held.{TellsItem}
use Rattle.section_table.specs.section_data.Views.{CellView}
use Rattle.elf_descriptor.specs.State.{State}
use Rattle.elf_descriptor.specs.Entries.{entry}
use Rattle.elf_descriptor.proofs.HandEntries.{told_entry}
use Rattle.elf_descriptor.proofs.descriptor.Elf.item_at_hand.Goals as goal

pub returns-in-Some : goal.returns-in-Some
returns-in-Some g c = λ wants.
    let body = c.self.inside.body in
    let there : c.args.d.section < length body.sections =
    omega (arith, c.if-d-self.false, c.self.invariant.counts.shnum) in
    let tells =
    subst (λ (x : CellView).
    IfSome c.item_at_hand.result
    (TellsItem g.T.Listed.kind g.T.Listed.list_of body.header.class body.header.order x
    c.args.d.piece c.args.i))
    c.in-Some.ensures.some c.item_at_hand.ensures in
    subst (λ (st : State g.row.S.Denot). IfSome c.item_at_hand.result (λ item. Answers st.told wants (Ok item)
    ((entry g.T.Listed.kind g.T.Listed.list_of c.args.d.section c.args.d.piece c.args.i).answer st.o))) c.self.view_is
    (told_entry _ _ body g.T.Listed.kind g.T.Listed.variant g.T.Listed.list_of g.met.T.Listed.back (g.T.Item.item_of body.header.class body.header.order)
    (item_size g.T.Listed.kind body.header.class) c.args.d.section c.args.d.piece c.args.i (g.met.T.Item.listed_in body.header.class body.header.order)
    wants c.item_at_hand.result c.self.invariant there tells)

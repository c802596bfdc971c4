use Rattle.std.proofs.Common.{◌≡◌, ◌<◌, length, None, sym, ◌∙◌, subst}
use Rattle.std.specs.Prelude.{IsTrue, is_some, ◌||◌}
use Rattle.section_table.specs.elf_object.Words.{Answers}
use Rattle.section_table.specs.elf_object.Object.{piece_at}
use Rattle.section_table.specs.elf_object.Answers.{lend_refusal, items_at, entry_at}
use Rattle.section_table.specs.elf_object.Due.{is_loaded}
use Rattle.section_table.specs.elf_xlate.Items.{item_size}
use Rattle.section_table.specs.section_data.Views.{CellView, IsCell}
use Rattle.section_table.specs.section_data.Held.{kind_in, is_at_hand, items_in}
use Rattle.elf_descriptor.specs.State.{State}
use Rattle.elf_descriptor.specs.Views.{scn_at}
use Rattle.elf_descriptor.proofs.ListedCells.{list_passed}
use Rattle.elf_descriptor.proofs.PieceCalls.{lend_refusal_is}
use Rattle.elf_descriptor.proofs.EntryCalls.{hand_there, entry_stated, entry_refusal, lists_alike}
use Rattle.elf_descriptor.proofs.descriptor.Elf.entry.Goals as goal

pub cell_at-at-requires : goal.cell_at-at-requires
cell_at-at-requires g c =
    let passed = subst (λ (st : State g.row.S.Denot). lend_refusal st.o g.T.Listed.kind c.args.d.section c.args.d.piece ≡ None) (sym c.self.view_is) c.requires.passed in
    (list_passed c.self.inside.body g.T.Listed.kind c.args.d.section c.args.d.piece (sym (lend_refusal_is _ _ c.self.inside.body g.T.Listed.kind c.args.d.section c.args.d.piece c.self.invariant) ∙ passed)).0

pub item-requires-clause-piece : goal.item-requires-clause-piece
item-requires-clause-piece g c =
    let passed = subst (λ (st : State g.row.S.Denot). lend_refusal st.o g.T.Listed.kind c.args.d.section c.args.d.piece ≡ None) (sym c.self.view_is) c.requires.passed in
    subst (λ (x : CellView). c.args.d.piece < length x.pieces)
    (sym (c.cell.ensures ∙ c.cell_at-at.ensures))
    (list_passed c.self.inside.body g.T.Listed.kind c.args.d.section c.args.d.piece (sym (lend_refusal_is _ _ c.self.inside.body g.T.Listed.kind c.args.d.section c.args.d.piece c.self.invariant) ∙ passed)).1

pub item-requires-clause-kind : goal.item-requires-clause-kind
item-requires-clause-kind g c =
    let passed = subst (λ (st : State g.row.S.Denot). lend_refusal st.o g.T.Listed.kind c.args.d.section c.args.d.piece ≡ None) (sym c.self.view_is) c.requires.passed in
    subst (λ (x : CellView). kind_in x c.args.d.piece ≡ g.T.Listed.kind)
    (sym (c.cell.ensures ∙ c.cell_at-at.ensures))
    (list_passed c.self.inside.body g.T.Listed.kind c.args.d.section c.args.d.piece (sym (lend_refusal_is _ _ c.self.inside.body g.T.Listed.kind c.args.d.section c.args.d.piece c.self.invariant) ∙ passed)).2

pub item-requires-clause-there : goal.item-requires-clause-there
item-requires-clause-there g c =
    let passed = subst (λ (st : State g.row.S.Denot). lend_refusal st.o g.T.Listed.kind c.args.d.section c.args.d.piece ≡ None) (sym c.self.view_is) c.requires.passed in
    let hand = subst (λ (st : State g.row.S.Denot). IsTrue (is_some (piece_at st.o c.args.d.section c.args.d.piece).own || is_loaded st.loaded c.args.d.section)) (sym c.self.view_is) c.requires.hand in
    let past = list_passed c.self.inside.body g.T.Listed.kind c.args.d.section c.args.d.piece (sym (lend_refusal_is _ _ c.self.inside.body g.T.Listed.kind c.args.d.section c.args.d.piece c.self.invariant) ∙ passed) in
    subst (λ (x : CellView). IsTrue (is_at_hand c.self.inside.body.header.class x c.args.d.piece))
    (sym (c.cell.ensures ∙ c.cell_at-at.ensures))
    (hand_there _ _ c.self.inside.body c.args.d.section c.args.d.piece past.3 hand)

pub returns-clause-answer : goal.returns-clause-answer
returns-clause-answer g c = λ wants.
    let body = c.self.inside.body in
    let passed = subst (λ (st : State g.row.S.Denot). lend_refusal st.o g.T.Listed.kind c.args.d.section c.args.d.piece ≡ None) (sym c.self.view_is) c.requires.passed in
    let hand = subst (λ (st : State g.row.S.Denot). IsTrue (is_some (piece_at st.o c.args.d.section c.args.d.piece).own || is_loaded st.loaded c.args.d.section)) (sym c.self.view_is) c.requires.hand in
    let past = list_passed body g.T.Listed.kind c.args.d.section c.args.d.piece (sym (lend_refusal_is _ _ body g.T.Listed.kind c.args.d.section c.args.d.piece c.self.invariant) ∙ passed) in
    let cell =
    subst (λ (x : CellView). IsCell x) (c.cell.ensures ∙ c.cell_at-at.ensures)
    c.item.ensures.cell in
    let alike = lists_alike _ _ body g.T.Listed.kind g.T.Listed.variant g.T.Listed.list_of g.met.T.Listed.back (g.T.Item.item_of body.header.class body.header.order)
    (item_size g.T.Listed.kind body.header.class) c.args.d.section c.args.d.piece (g.met.T.Item.listed_in body.header.class body.header.order) c.self.invariant past.0 cell past.2 past.3
    (hand_there _ _ body c.args.d.section c.args.d.piece past.3 hand) in
    let value =
    subst (λ (x : CellView).
    c.item.result
    ≡ entry_at (g.T.Listed.list_of (items_in body.header.class body.header.order x c.args.d.piece))
    c.args.i) (c.cell.ensures ∙ c.cell_at-at.ensures) c.item.ensures.value in
    subst (λ (st : State g.row.S.Denot). Answers st.told wants c.item.result (entry_at (g.T.Listed.list_of (items_at st.o c.args.d.section c.args.d.piece)) c.args.i)) c.self.view_is
    (entry_stated _ wants (g.T.Listed.list_of (items_in body.header.class body.header.order (scn_at body c.args.d.section).cell c.args.d.piece)) _ c.args.i c.item.result value alike.0 alike.1)

pub returns-clause-err : goal.returns-clause-err
returns-clause-err g c = entry_refusal _ c.args.i c.item.result c.item.ensures.value

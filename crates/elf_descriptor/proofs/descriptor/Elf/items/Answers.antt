use Rattle.std.proofs.Common.{◌≡◌, ◌<◌, length, Some, None, true≢false, sym, ◌∙◌, subst}
use Rattle.std.specs.Prelude.{IsTrue}
use Rattle.section_table.specs.elf_object.Words.{AlikeItems}
use Rattle.section_table.specs.elf_object.Answers.{items_at, data_refusal}
use Rattle.section_table.specs.elf_object.Due.{holds_items}
use Rattle.section_table.specs.section_data.Views.{CellView, IsCell}
use Rattle.section_table.specs.section_data.Held.{piece_holds_items, ready}
use Rattle.section_table.proofs.AsOpened.{opened_unready}
use Rattle.elf_descriptor.specs.State.{State}
use Rattle.elf_descriptor.proofs.ListedCells.{items_passed}
use Rattle.elf_descriptor.proofs.PieceCalls.{data_refusal_is, holds_is}
use Rattle.elf_descriptor.proofs.DataCalls.{ready_items}
use Rattle.elf_descriptor.proofs.descriptor.Elf.items.Goals as goal

pub held_cell-requires-clause-there : goal.held_cell-requires-clause-there
held_cell-requires-clause-there g c =
    let passed = subst (λ (st : State g.row.S.Denot). data_refusal st.o c.args.d.section c.args.d.piece ≡ None) (sym c.self.view_is) c.requires.passed in
    (items_passed c.self.inside.body c.args.d.section c.args.d.piece (sym (data_refusal_is _ _ c.self.inside.body c.args.d.section c.args.d.piece c.self.invariant) ∙ passed)).0

pub held_cell-requires-clause-held : goal.held_cell-requires-clause-held
held_cell-requires-clause-held g c = λ opened.
    let holds =
    subst (λ (st : State g.row.S.Denot).
    IsTrue (holds_items st.o st.held c.args.d.section c.args.d.piece)) (sym c.self.view_is)
    c.requires.holds in
    true≢false
    (sym holds ∙ holds_is _ _ c.self.inside.body c.args.d.section c.args.d.piece
    ∙ opened_unready _ c.args.d.piece opened)

pub items-requires-clause-piece : goal.items-requires-clause-piece
items-requires-clause-piece g c =
    let passed = subst (λ (st : State g.row.S.Denot). data_refusal st.o c.args.d.section c.args.d.piece ≡ None) (sym c.self.view_is) c.requires.passed in
    subst (λ (x : CellView). c.args.d.piece < length x.pieces) (sym c.held_cell.ensures)
    (items_passed c.self.inside.body c.args.d.section c.args.d.piece (sym (data_refusal_is _ _ c.self.inside.body c.args.d.section c.args.d.piece c.self.invariant) ∙ passed)).1

pub items-requires-clause-holds : goal.items-requires-clause-holds
items-requires-clause-holds g c =
    let holds = subst (λ (st : State g.row.S.Denot). IsTrue (holds_items st.o st.held c.args.d.section c.args.d.piece)) (sym c.self.view_is) c.requires.holds in
    subst (λ (x : CellView). IsTrue (piece_holds_items x c.args.d.piece)) (sym c.held_cell.ensures)
    (sym (holds_is _ _ c.self.inside.body c.args.d.section c.args.d.piece) ∙ holds)

pub returns-clause-exact : goal.returns-clause-exact
returns-clause-exact g c =
    let passed = subst (λ (st : State g.row.S.Denot). data_refusal st.o c.args.d.section c.args.d.piece ≡ None) (sym c.self.view_is) c.requires.passed in
    let past = items_passed c.self.inside.body c.args.d.section c.args.d.piece (sym (data_refusal_is _ _ c.self.inside.body c.args.d.section c.args.d.piece c.self.invariant) ∙ passed) in
    subst (λ (st : State g.row.S.Denot). IsTrue st.told → c.items.result.now ≡ items_at st.o c.args.d.section c.args.d.piece) c.self.view_is
    (ready_items _ _ c.self.inside.body c.args.d.section c.args.d.piece c.items.result.now
    c.self.invariant past.0
    (subst (λ (x : CellView). IsCell x) c.held_cell.ensures c.items.ensures.cell) past.2
    (subst (λ (x : CellView). ready x c.args.d.piece ≡ Some c.items.result.now) c.held_cell.ensures
    c.items.ensures.value)).0

pub returns-clause-alike : goal.returns-clause-alike
returns-clause-alike g c =
    let passed = subst (λ (st : State g.row.S.Denot). data_refusal st.o c.args.d.section c.args.d.piece ≡ None) (sym c.self.view_is) c.requires.passed in
    let past = items_passed c.self.inside.body c.args.d.section c.args.d.piece (sym (data_refusal_is _ _ c.self.inside.body c.args.d.section c.args.d.piece c.self.invariant) ∙ passed) in
    subst (λ (st : State g.row.S.Denot). AlikeItems c.items.result.now (items_at st.o c.args.d.section c.args.d.piece)) c.self.view_is
    (ready_items _ _ c.self.inside.body c.args.d.section c.args.d.piece c.items.result.now
    c.self.invariant past.0
    (subst (λ (x : CellView). IsCell x) c.held_cell.ensures c.items.ensures.cell) past.2
    (subst (λ (x : CellView). ready x c.args.d.piece ≡ Some c.items.result.now) c.held_cell.ensures
    c.items.ensures.value)).1

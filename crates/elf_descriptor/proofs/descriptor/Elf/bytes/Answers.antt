use Rattle.std.proofs.Common.{◌≡◌, ℕ, List, length, Option, Some, true≢false, is_some, sym, ap, ◌∙◌, subst}
use Rattle.std.specs.Prelude.{IsTrue}
use Rattle.section_table.specs.elf_object.Words.{AlikeBytes}
use Rattle.section_table.specs.elf_object.Object.{section_at}
use Rattle.section_table.specs.elf_object.Due.{is_loaded}
use Rattle.section_table.specs.section_data.Views.{CellView, IsCell}
use Rattle.section_table.specs.section_data.Held.{cell_is_loaded}
use Rattle.elf_descriptor.specs.State.{State}
use Rattle.elf_descriptor.proofs.Loaded.{loaded_is, loaded_there, raw_alike, raw_exact, raw_is}
use Rattle.elf_descriptor.proofs.descriptor.Elf.bytes.Goals as goal

pub held_cell-requires-clause-there : goal.held_cell-requires-clause-there
held_cell-requires-clause-there g c =
    loaded_there c.self.inside.body c.args.s (subst (λ (st : State g.row.S.Denot). IsTrue (is_loaded st.loaded c.args.s)) (sym c.self.view_is) c.requires)

pub held_cell-requires-clause-held : goal.held_cell-requires-clause-held
held_cell-requires-clause-held g c = λ opened.
    let loaded =
    subst (λ (st : State g.row.S.Denot). IsTrue (is_loaded st.loaded c.args.s)) (sym c.self.view_is)
    c.requires in
    true≢false
    (sym loaded ∙ loaded_is c.self.inside.body c.args.s
    ∙ ap (λ (r : Option (List ℕ)). is_some r) opened.raw)

pub bytes-requires : goal.bytes-requires
bytes-requires g c =
    let loaded = subst (λ (st : State g.row.S.Denot). IsTrue (is_loaded st.loaded c.args.s)) (sym c.self.view_is) c.requires in
    ap (λ (x : CellView). cell_is_loaded x) c.held_cell.ensures
    ∙ sym (loaded_is c.self.inside.body c.args.s) ∙ loaded

pub returns-clause-exact : goal.returns-clause-exact
returns-clause-exact g c =
    let value =
    subst (λ (x : CellView). x.raw ≡ Some c.bytes.result.now) c.held_cell.ensures
    c.bytes.ensures.value in
    subst (λ (st : State g.row.S.Denot). IsTrue st.told → c.bytes.result.now ≡ (section_at st.o c.args.s).raw) c.self.view_is
    (λ told. raw_exact _ _ c.bytes.result.now value told ∙ sym (raw_is _ _ c.self.inside.body c.args.s))

pub returns-clause-alike : goal.returns-clause-alike
returns-clause-alike g c =
    let value =
    subst (λ (x : CellView). x.raw ≡ Some c.bytes.result.now) c.held_cell.ensures
    c.bytes.ensures.value in
    let cell = subst (λ (x : CellView). IsCell x) c.held_cell.ensures c.bytes.ensures.cell in
    subst (λ (st : State g.row.S.Denot). AlikeBytes c.bytes.result.now (section_at st.o c.args.s).raw) c.self.view_is
    (raw_alike _ _ c.bytes.result.now cell value ∙ sym (ap length (raw_is _ _ c.self.inside.body c.args.s)))

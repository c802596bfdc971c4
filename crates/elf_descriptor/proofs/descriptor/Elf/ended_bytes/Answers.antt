use Rattle.std.proofs.Common.{ℕ, List, Option, true≢false, is_some, sym, ap, ◌∙◌, subst}
use Rattle.std.specs.Prelude.{IsTrue, IfSome}
use Rattle.section_table.specs.elf_object.Object.{section_at}
use Rattle.section_table.specs.elf_object.Due.{is_loaded}
use Rattle.section_table.specs.section_data.Views.{CellView}
use Rattle.section_table.specs.section_data.Held.{cell_is_loaded}
use Rattle.section_table.specs.section_data.Nuls.{IsEndedFront}
use Rattle.elf_descriptor.specs.State.{State}
use Rattle.elf_descriptor.specs.Views.{scn_at}
use Rattle.elf_descriptor.proofs.Loaded.{loaded_is, loaded_there, raw_ended, raw_is}
use Rattle.elf_descriptor.proofs.descriptor.Elf.ended_bytes.Goals as goal

pub held_cell-requires-clause-there : goal.held_cell-requires-clause-there
held_cell-requires-clause-there g c =
    let s = c.args.s.0 in
    loaded_there c.self.inside.body s
    (subst (λ (st : State g.row.S.Denot). IsTrue (is_loaded st.loaded s)) (sym c.self.view_is)
    c.requires)

pub held_cell-requires-clause-held : goal.held_cell-requires-clause-held
held_cell-requires-clause-held g c = λ opened.
    let s = c.args.s.0 in
    let loaded =
    subst (λ (st : State g.row.S.Denot). IsTrue (is_loaded st.loaded s)) (sym c.self.view_is)
    c.requires in
    true≢false
    (sym loaded
    ∙ loaded_is c.self.inside.body s
    ∙ ap (λ (r : Option (List ℕ)). is_some r) opened.raw)

pub ended_bytes-requires : goal.ended_bytes-requires
ended_bytes-requires g c =
    let s = c.args.s.0 in
    let loaded =
    subst (λ (st : State g.row.S.Denot). IsTrue (is_loaded st.loaded s)) (sym c.self.view_is)
    c.requires in
    ap (λ (x : CellView). cell_is_loaded x) c.held_cell.ensures
    ∙ sym (loaded_is c.self.inside.body s)
    ∙ loaded

pub returns : goal.returns
returns g c =
    let s = c.args.s.0 in
    let b = c.self.inside.body in
    let image = g.S.Source.holds c.self.inside.src in
    let front = c.ended_bytes.result.now in
    let loaded =
    subst (λ (st : State g.row.S.Denot). IsTrue (is_loaded st.loaded s)) (sym c.self.view_is)
    c.requires in
    let value =
    subst (λ (x : CellView). IfSome x.raw (λ bytes. IsEndedFront bytes front)) c.held_cell.ensures
    c.ended_bytes.ensures in
    subst
    (λ (st : State g.row.S.Denot). IsTrue st.told → IsEndedFront (section_at st.o s).raw front)
    c.self.view_is
    (λ told.
    subst (λ (l : List ℕ). IsEndedFront l front)
    (sym (raw_is image (g.S.Source.size c.self.inside.src) b s))
    (raw_ended image (scn_at b s).cell front value (sym (loaded_is b s) ∙ loaded) told))

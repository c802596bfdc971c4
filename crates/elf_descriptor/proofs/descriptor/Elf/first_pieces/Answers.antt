use Rattle.std.proofs.Common.{◌≡◌, ◌∙◌, None, sym, subst}
use Rattle.section_table.specs.elf_object.Answers.{no_section}
use Rattle.section_table.specs.section_data.Views.{CellView}
use Rattle.section_table.specs.section_data.Spans.{AreFirstIn}
use Rattle.elf_descriptor.specs.State.{State}
use Rattle.elf_descriptor.specs.FirstPieces.{AreFirst}
use Rattle.elf_descriptor.proofs.FirstPieces.{section_there, first_is}
use Rattle.elf_descriptor.proofs.descriptor.Elf.first_pieces.Goals as goal

pub cell_at-at-requires : goal.cell_at-at-requires
cell_at-at-requires g c =
    section_there (g.S.Source.holds c.self.inside.src) (g.S.Source.size c.self.inside.src)
    c.self.inside.body c.args.s.0
    (subst (λ (st : State g.row.S.Denot). no_section st.o c.args.s.0 ≡ None) (sym c.self.view_is)
    c.requires)

pub returns-clause-first : goal.returns-clause-first
returns-clause-first g c =
    let image = g.S.Source.holds c.self.inside.src in
    let size = g.S.Source.size c.self.inside.src in
    let b = c.self.inside.body in
    let s = c.args.s.0 in
    let count = c.first_pieces.result.count in
    let end = c.first_pieces.result.end in
    let there =
    section_there image size b s
    (subst (λ (st : State g.row.S.Denot). no_section st.o s ≡ None) (sym c.self.view_is)
    c.requires) in
    subst (λ (st : State g.row.S.Denot). AreFirst st.o s count end) c.self.view_is
    (first_is image size b s count end c.self.invariant there
    (subst (λ (x : CellView). AreFirstIn x count end) (c.cell.ensures ∙ c.cell_at-at.ensures)
    c.first_pieces.ensures.first))

use Rattle.std.proofs.Common.{refl, sym, ap, ◌∙◌}
use Rattle.std.specs.List.{list_any}
use Rattle.section_table.specs.elf_object.Object.{Piece}
use Rattle.section_table.specs.section_data.Views.{CellView}
use Rattle.section_table.proofs.AsOpened.{opened_unmarked}
use Rattle.elf_descriptor.specs.Views.{scn_at}
use Rattle.elf_descriptor.proofs.Marks.{header_dirty, pieces_dirty}
use Rattle.elf_descriptor.proofs.body.Body.is_scn_dirty.Goals as goal

pub returns-then-marked_at : goal.returns-then-marked_at
returns-then-marked_at c =
    header_dirty (scn_at c.args.self.now c.args.s) (sym c.marked_at.ensures ∙ c.if-marked_at.true)

pub returns-in-Some : goal.returns-in-Some
returns-in-Some c =
    pieces_dirty (scn_at c.args.self.now c.args.s) c.some_piece_marked.result
    (sym c.marked_at.ensures ∙ c.if-marked_at.false)
    (c.some_piece_marked.ensures
    ∙ ap (λ (x : CellView). list_any (λ (p : Piece). p.marked) x.pieces) c.in-Some.ensures.some)

pub returns-in-None : goal.returns-in-None
returns-in-None c =
    pieces_dirty (scn_at c.args.self.now c.args.s) _
    (sym c.marked_at.ensures ∙ c.if-marked_at.false)
    (sym (opened_unmarked (scn_at c.args.self.now c.args.s).cell (c.in-None.ensures.none refl)))

use Rattle.std.proofs.Common.{ap, ◌∙◌}
use Rattle.section_table.specs.section_data.Views.{CellView}
use Rattle.elf_descriptor.specs.Rooms.{can_forget, can_let_go}
use Rattle.elf_descriptor.proofs.body.Body.can_let_go.Goals as goal

pub returns : goal.returns
unfolding can_let_go
returns c =
    c.can_forget.ensures
    ∙ ap (λ (x : CellView). can_forget c.args.base x) (c.cell.ensures ∙ c.cell_at-at.ensures)

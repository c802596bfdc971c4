use Rattle.std.proofs.Common.{List, length, sym, ap, ◌∙◌}
use Rattle.section_table.specs.Sections.{SectionView}
use Rattle.section_table.proofs.Views.{view_length}
use Rattle.section_table.proofs.sections.Sections.count.Goals as goal

pub returns : goal.returns
returns c =
    let inside = c.self.inside in
    c.len.ensures
    ∙ sym (view_length inside.form.size inside.headers inside.marks.items inside.slots.items
    inside.cells.items)
    ∙ ap (λ (l : List SectionView). length l) c.self.view_is

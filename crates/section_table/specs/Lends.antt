-- The cell of a section, lent for writing.
use Rattle.std.specs.Prelude.{ℕ, List, slice_set}
use Rattle.std.specs.Borrow.{Lends, Fml}
use denote.Ref.{MutBor}
use Rattle.section_data.specs.contracts.cell.Cell.{the_row as cell_row}
use Rattle.section_data.specs.Views.{CellView}
use Rattle.section_table.specs.contracts.sections.Sections.{the_row}
use Rattle.section_table.specs.Sections.{SectionView, section_in}

-- what the borrower leaves stands in its place
abbrev pub LendsCellAt : ℕ → MutBor (List SectionView) → MutBor CellView → Fml
LendsCellAt s sections r =
    Lends the_row cell_row sections r
    (λ left. slice_set sections.now s (record (section_in sections.now s) { cell = left }))

-- What a call that reads at the first use leaves of what the program keeps.
use Rattle.std.specs.Prelude.{◌≡◌, ℕ, List, slice_set, Option}
use Rattle.section_table.specs.section_data.Views.{CellView}
use Rattle.section_table.specs.section_data.Held.{HeldIs}
use Rattle.section_table.specs.section_data.Leaves.{Warms}
use Rattle.elf_descriptor.specs.declared.body.Body.{Body}
use Rattle.elf_descriptor.specs.Views.{scn_at}

-- the data of one section may have been read and translated; all else is as before
pub record Warmed (image : Option (List ℕ)) (old new : Body) (s : ℕ) : Type 0 where
  pub cell : CellView
  pub rest : new ≡ record old { sections = new.sections }
  pub sections : new.sections
      ≡ slice_set old.sections s (record (scn_at old s) { cell = cell })
  pub warms : Warms image (scn_at old s).cell cell
  pub items : HeldIs old.header.class old.header.order (scn_at old s).cell
      → HeldIs old.header.class old.header.order cell

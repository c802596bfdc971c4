use Rattle.std.proofs.Common.{subst}
use Rattle.std.specs.Prelude.{IfSome}
use Rattle.section_data.specs.Views.{CellView}
use Rattle.section_data.specs.Nuls.{IsEndedFront}
use Rattle.section_data.proofs.LastNuls.{front_held}
use Rattle.section_data.proofs.cell.Cell.ended_bytes.Goals as goal

pub returns : goal.returns
returns c =
    let front = c.ended_bytes.result.now in
    subst (λ (v : CellView). IfSome v.raw (λ bytes. IsEndedFront bytes front)) c.self.view_is
    (front_held c.self.inside.kept.raw front c.ended_bytes.ensures)

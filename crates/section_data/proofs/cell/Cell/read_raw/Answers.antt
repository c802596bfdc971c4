use Rattle.std.proofs.Common.{ap, ◌∙◌}
use Rattle.section_data.specs.Views.{CellView}
use Rattle.section_data.proofs.Loading.{kept_from}
use Rattle.section_data.proofs.cell.Cell.read_raw.Goals as goal

pub returns-clause-bytes : goal.returns-clause-bytes
returns-clause-bytes g c =
    kept_from _ c.args.self.now.home c.keep_bytes.new.self.raw c.in_ok-bytes.bytes c.home.result.at c.home.result.len c.requires.inside
    (c.home.ensures.at ∙ ap (λ (v : CellView). v.home.at) c.self.view_is)
    (c.home.ensures.len ∙ ap (λ (v : CellView). v.home.len) c.self.view_is)
    (ap (λ (v : CellView). v.raw) c.in_default.ensures.ok) c.in_ok-bytes.ensures.len c.in_ok-bytes.ensures.bytes

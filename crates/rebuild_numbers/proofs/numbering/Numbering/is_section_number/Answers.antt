use Rattle.std.proofs.Common.{ap, ◌∙◌}
use Rattle.rebuild_select.specs.rebuild_model.Followed.{Renumbering, is_section_number}
use Rattle.rebuild_numbers.proofs.numbering.Numbering.is_section_number.Goals as goal

pub returns : goal.returns
returns c =
    c.is_numbered.ensures
    ∙ ap (λ (m : Renumbering). is_section_number m c.args.n) c.self.view_is

use Rattle.std.proofs.Common.{[], ◌∷◌, ℕ, List, ap, ◌∙◌}
use Rattle.elf_object.specs.Refusal.{refusal}
use Rattle.rebuild_model.specs.Generated.{generated_and_shifted}
use Rattle.tool_output.specs.Made.{made_file, outcome_with}
use Rattle.tool_output.specs.Outcomes.{Does}
use Rattle.tool_output.specs.Reports.{no_report}
use Rattle.tool_output.specs.Statuses.{refused_status}
use Rattle.selftest_tool.proofs.FileLemmas.{image_told, left_unread}
use Rattle.selftest_tool.proofs.selftest.write_shifted.Goals as goal

pub write_image-requires : goal.write_image-requires
write_image-requires g c =
    let bounded = c.requires.bounded in
    let law = c.selftest_law.ensures c.args.out.now c.args.n bounded.0 bounded.1 in
    ap refusal c.requires.made.object ∙ law.updated

pub returns-clause-does : goal.returns-clause-does
returns-clause-does g c = λ tells.
    image_told (λ (bytes : List ℕ). Does g.F.Files g.O.Sink g.E.Sink refused_status
    (outcome_with no_report (made_file c.args.out.now bytes ∷ [])) c.write_image.result
    c.args.files.now c.write_image.new.files c.args.outputs.now c.write_image.new.outputs)
    c.args.elf (generated_and_shifted c.args.n) c.requires.made
    (c.write_image.ensures.does tells)

pub returns-clause-leaves : goal.returns-clause-leaves
returns-clause-leaves g c =
    left_unread g.F.Files g.O.Sink g.E.Sink c.args.files.now c.write_image.new.files
    c.args.files.now c.args.outputs.now c.write_image.new.outputs c.args.outputs.now
    c.write_image.result c.write_image.ensures.leaves

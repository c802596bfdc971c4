use Rattle.std.proofs.Common.{ap, ◌∙◌}
use Rattle.c_handles.specs.declared.layout.planned.PlannedLayout.{PlannedLayout}
use Rattle.elfkit_c.proofs.LayoutLaws.{keeps_layout}
use Rattle.elfkit_c.proofs.layout.elfkit_layout_length.Goals as goal

pub returns-clause-length : goal.returns-clause-length
returns-clause-length c =
    ap (λ (x : PlannedLayout). x.end) (c.as_ref.ensures ∙ c.take-layout.ensures.layout)

pub returns-clause-keeps : goal.returns-clause-keeps
returns-clause-keeps c =
    keeps_layout c.args.l.now c.put.new.self c.take-layout.result.value
    c.take-layout.ensures.layout c.put.ensures

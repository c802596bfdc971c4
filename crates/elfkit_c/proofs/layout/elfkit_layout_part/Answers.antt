use Rattle.std.proofs.Common.{subst, ◌∙◌}
use Rattle.c_handles.specs.declared.layout.planned.PlannedLayout.{PlannedLayout}
use Rattle.c_records.specs.Gives.{GivesInCForm}
use Rattle.c_calls.specs.Layout.Parts.{part_record, part_at}
use Rattle.elfkit_c.proofs.LayoutLaws.{keeps_layout}
use Rattle.elfkit_c.proofs.layout.elfkit_layout_part.Goals as goal

pub returns-clause-gives : goal.returns-clause-gives
returns-clause-gives c =
    subst (λ (x : PlannedLayout). GivesInCForm (part_record x) (part_at x.parts c.args.i)
    c.give_part-number.result c.args.out.now c.give_part-number.new.out)
    (c.as_ref.ensures ∙ c.take-layout.ensures.layout) c.give_part-number.ensures

pub returns-clause-keeps : goal.returns-clause-keeps
returns-clause-keeps c =
    keeps_layout c.args.l.now c.put.new.self c.take-layout.result.value
    c.take-layout.ensures.layout c.put.ensures

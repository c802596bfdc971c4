use Rattle.std.proofs.Common.{◌≡◌, length, IfSome, sym, subst, ◌∙◌}
use Rattle.c_handles.specs.declared.layout.planned.PlannedLayout.{PlannedLayout}
use Rattle.c_calls.specs.Layout.Parts.{front_at}
use Rattle.elfkit_c.proofs.LayoutLaws.{keeps_layout}
use Rattle.elfkit_c.proofs.layout.elfkit_layout_bytes.Goals as goal

pub give_part_bytes-requires : goal.give_part_bytes-requires
give_part_bytes-requires c =
    subst (λ (x : PlannedLayout). IfSome (front_at x c.args.i)
    (λ bytes. length c.args.out.now ≡ length bytes))
    (sym (c.as_ref.ensures ∙ c.take-layout.ensures.layout)) c.requires.room

pub returns-clause-bytes : goal.returns-clause-bytes
returns-clause-bytes c =
    subst (λ (x : PlannedLayout). IfSome (front_at x c.args.i)
    (λ bytes. c.give_part_bytes.new.out ≡ bytes))
    (c.as_ref.ensures ∙ c.take-layout.ensures.layout) c.give_part_bytes.ensures

pub returns-clause-keeps : goal.returns-clause-keeps
returns-clause-keeps c =
    keeps_layout c.args.l.now c.put.new.self c.take-layout.result.value
    c.take-layout.ensures.layout c.put.ensures

use Rattle.std.proofs.Common.{sym, ap, ◌∙◌}
use Rattle.rebuild_plan.specs.rebuild_image.declared.ranges.ranges.ByteRange.{ByteRange}
use Rattle.rebuild_copy.specs.Rows.{held_in}
use Rattle.rebuild_copy.proofs.NameLaws.{no_names, held_names}
use Rattle.rebuild_copy.proofs.tables.table_of.Goals as goal

pub returns-then-not-has_strings : goal.returns-then-not-has_strings
returns-then-not-has_strings c =
    no_names c.args.x.now (sym c.has_strings.ensures ∙ c.if-not-has_strings.true)

pub returns : goal.returns
returns c =
    held_names c.args.x.now (held_in c.args.x.now c.range_of.result)
    (sym c.has_strings.ensures ∙ c.if-not-has_strings.false)
    (ap (λ (r : ByteRange). held_in c.args.x.now r) c.range_of.ensures)

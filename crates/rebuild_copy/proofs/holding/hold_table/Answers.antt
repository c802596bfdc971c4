use Rattle.std.proofs.Common.{sym, ◌∙◌}
use Rattle.rebuild_copy.proofs.HoldLaws.{no_table}
use Rattle.rebuild_copy.proofs.holding.hold_table.Goals as goal

pub returns-then-not-has_strings : goal.returns-then-not-has_strings
returns-then-not-has_strings g c =
    no_table g.S.Source c.args.x.now c.args.elf.now
    (sym c.has_strings.ensures ∙ c.if-not-has_strings.true)

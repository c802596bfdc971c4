use Rattle.std.proofs.Common.{sym, ◌∙◌}
use Rattle.rebuild_edits.specs.Texts.{all_texts}
use Rattle.rebuild_edits.proofs.TableLaws.{built_naming}
use Rattle.rebuild_copy.proofs.naming.plan_names.Goals as goal

pub returns-then-not-changes_names-clause-naming : goal.returns-then-not-changes_names-clause-naming
returns-then-not-changes_names-clause-naming c = λ o p is.
    sym c.changes_names.ensures ∙ c.if-not-changes_names.true

pub returns-then-not-renewed-clause-naming : goal.returns-then-not-renewed-clause-naming
returns-then-not-renewed-clause-naming c = λ o p is.
    (sym c.changes_names.ensures ∙ c.if-not-changes_names.false, c.if-not-renewed.true)

pub returns-clause-naming : goal.returns-clause-naming
returns-clause-naming c = λ o p is.
    built_naming (all_texts p c.args.marks.now c.args.changes.now) _ c.args.renewed
    c.build_table.result (sym c.changes_names.ensures ∙ c.if-not-changes_names.false)
    c.if-not-renewed.false (c.build_table.ensures.built o p is)

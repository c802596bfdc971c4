use Rattle.std.proofs.Common.{sym, ap, ◌∙◌, subst}
use Rattle.elf_object.specs.Object.{Object, is_dirty}
use Rattle.rebuild_edits.specs.rebuild_select.Steps.{IsRemovable}
use Rattle.rebuild_changes.specs.Stated.{stated_changes}
use Rattle.rebuild_copy.proofs.PlanLaws.{copied_arranged, copied_unarranged}
use Rattle.rebuild_copy.proofs.planning.arrange_copied.Goals as goal

pub arrange_without-requires-clause-clean : goal.arrange_without-requires-clause-clean
arrange_without-requires-clause-clean g c =
    ap is_dirty c.in-Ok.ensures.queries.object ∙ c.requires.clean

pub arrange_without-requires-clause-removable : goal.arrange_without-requires-clause-removable
arrange_without-requires-clause-removable g c =
    subst (λ (o : Object). IsRemovable o c.in-Ok.removed)
    (sym c.in-Ok.ensures.queries.object) c.in-Ok.ensures.removable

pub returns-in-Ok : goal.returns-in-Ok
returns-in-Ok g c =
    copied_arranged g.S.Source (stated_changes c.args.changes.now) c.args.elf.now
    c.removed_by_name.new.elf c.in-Ok.removed c.arrange_without.result
    c.arrange_without.new.elf c.in-Ok.ensures.answer.1
    c.in-Ok.ensures.removable c.in-Ok.ensures.queries c.arrange_without.ensures

pub returns-in-Err : goal.returns-in-Err
returns-in-Err g c =
    copied_unarranged g.S.Source (stated_changes c.args.changes.now) c.args.elf.now
    c.removed_by_name.new.elf c.in-Err.e _ c.in-Err.ensures.answer c.in-Err.ensures.queries

use Rattle.rebuild_files.specs.elf_descriptor.Reads.{wanted}
use Rattle.rebuild_files.specs.rebuild_plan.rebuild_select.Calls as calls
use Rattle.rebuild_files.proofs.rebuild_plan.rebuild_keep.WholeLaws.{clean_stays, removable_stays}
use Rattle.strip_tool.proofs.StripLemmas.{planned_without, unplanned}
use Rattle.strip_tool.proofs.planning.plan_stripped.Goals as goal

pub plan_rebuilt-requires-clause-clean : goal.plan_rebuilt-requires-clause-clean
plan_rebuilt-requires-clause-clean g c =
    clean_stays c.args.elf.now c.removed.new.elf c.in-Ok.ensures.queries.object
    c.in-Ok.ensures.queries.reads.told c.requires.clean

pub plan_rebuilt-requires-clause-removable : goal.plan_rebuilt-requires-clause-removable
plan_rebuilt-requires-clause-removable g c =
    removable_stays c.args.elf.now c.removed.new.elf c.in-Ok.ensures.queries.object
    c.in-Ok.ensures.queries.reads.told c.in-Ok.set c.in-Ok.ensures.removable

pub returns-in-Ok : goal.returns-in-Ok
returns-in-Ok g c =
    planned_without g.S.Source c.args.debug_only c.args.names.now
    (wanted (calls.removed c.args.debug_only c.args.names.now) c.args.elf.now) c.args.elf.now
    c.removed.new.elf c.plan_rebuilt.new.elf c.in-Ok.set c.plan_rebuilt.result _
    c.in-Ok.ensures.answer c.in-Ok.ensures.queries c.plan_rebuilt.ensures

pub returns-in-Err : goal.returns-in-Err
returns-in-Err g c =
    unplanned g.S.Source c.args.debug_only c.args.names.now
    (wanted (calls.removed c.args.debug_only c.args.names.now) c.args.elf.now) c.args.elf.now
    c.removed.new.elf c.in-Err.e c.in-Err.ensures.answer c.in-Err.ensures.queries

use Rattle.std.proofs.Common.{inl}
use Rattle.rebuild_tables.proofs.elf_update_plan.PlacingLaws.{passed_from, refused_from}
use Rattle.rebuild_plan.specs.Checks.{index_beyond}
use Rattle.rebuild_plan.proofs.CheckLaws.{last_checked}
use Rattle.rebuild_plan.proofs.checks.check_last.Goals as goal

pub returns-in-Err : goal.returns-in-Err
returns-in-Err c =
    inl (refused_from (index_beyond c.args.s c.args.count) c.in-Err.e c.in-Err.ensures.answer)

pub returns : goal.returns
returns c =
    last_checked c.args.names.now c.args.s c.args.count c.check_names.result
    (passed_from (index_beyond c.args.s c.args.count) c.in_default.ensures.answer)
    c.check_names.ensures

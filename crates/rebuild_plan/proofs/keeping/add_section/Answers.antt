use Rattle.std.proofs.Common.{refl}
use Rattle.rebuild_plan.proofs.KeepingLaws.{section_added, section_refused}
use Rattle.rebuild_plan.proofs.keeping.add_section.Goals as goal

pub returns-in-Ok : goal.returns-in-Ok
returns-in-Ok g c =
    section_added g.S.Source c.args.keeper.now c.args.s.0 c.args.elf.now c.find_range.new.elf
    c.args.contents.now _ _ c.header-header.result c.kept_size.result c.in-Ok.range
    c.kind-kind.result c.push.result c.header-header.ensures c.kind-kind.ensures
    c.kept_size.ensures c.in-Ok.ensures refl refl refl refl
    c.push.ensures.pushed c.push.ensures.err

pub returns-in-Err : goal.returns-in-Err
returns-in-Err g c =
    section_refused g.S.Source c.args.keeper.now c.args.s.0 c.args.elf.now c.find_range.new.elf
    c.args.contents.now (record c.args.contents.now { held = c.find_range.new.held })
    (record c.args.contents.now { held = c.find_range.new.held }) c.in-Err.e c.in-Err.ensures

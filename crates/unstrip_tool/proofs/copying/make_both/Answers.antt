use Rattle.unstrip_tool.proofs.CopyLemmas.{first_unmade, second_made}
use Rattle.unstrip_tool.proofs.copying.make_both.Goals as goal

pub returns-in-Ok : goal.returns-in-Ok
returns-in-Ok g c =
    second_made g.S.Source g.F.Files c.args.names.now c.args.plans c.args.src c.args.files.now
    c.make_plan-src.result.1 c.make_plan.result.1 c.make_plan-src.result.0 c.make_plan.result.0
    c.make_plan-src.new.files c.make_plan.new.files c.in-Ok.is c.make_plan-src.ensures
    c.make_plan.ensures

pub returns-in-Err : goal.returns-in-Err
returns-in-Err g c =
    first_unmade g.S.Source g.F.Files c.args.names.now c.args.plans c.args.src
    c.args.files.now c.in-Err.stop c.make_plan-src.result.1 c.make_plan-src.result.0
    c.make_plan-src.new.files c.in-Err.is c.make_plan-src.ensures

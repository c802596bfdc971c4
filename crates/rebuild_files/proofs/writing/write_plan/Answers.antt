use Rattle.rebuild_files.specs.Writing.{plan_text}
use Rattle.rebuild_files.proofs.WritingLemmas.{unput_image, made_image}
use Rattle.rebuild_files.proofs.writing.write_plan.Goals as goal

pub returns-in-Err : goal.returns-in-Err
returns-in-Err g c =
    unput_image g.S.Source g.F.Files g.O.Sink g.E.Sink c.args.out.now
    (plan_text g.S.Source c.args.src c.args.plan) c.args.src c.args.files.now
    c.args.outputs.now _ c.in-Err.stop c.in-Err.ensures.writes c.in-Err.ensures.leaves

pub returns : goal.returns
returns g c =
    made_image g.S.Source g.F.Files g.O.Sink g.E.Sink c.args.out.now
    (plan_text g.S.Source c.args.src c.args.plan) c.args.src c.args.files.now
    c.args.outputs.now _ c.in_default.ensures.writes c.in_default.ensures.leaves
    c.make_plan-src.result.0 c.make_plan-src.new.files c.make_plan-src.result.1
    c.not_refused.result c.not_refused.ensures c.make_plan-src.ensures

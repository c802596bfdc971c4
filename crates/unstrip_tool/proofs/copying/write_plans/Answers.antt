use Rattle.unstrip_tool.proofs.CopyLemmas.{unput_halves, halves_made}
use Rattle.unstrip_tool.proofs.copying.write_plans.Goals as goal

pub returns-in-Err : goal.returns-in-Err
returns-in-Err g c =
    unput_halves g.S.Source g.F.Files g.O.Sink g.E.Sink c.args.names.now c.args.plans
    c.args.src c.args.files.now c.args.outputs.now _ c.in-Err.stop c.in-Err.ensures.writes
    c.in-Err.ensures.leaves

pub returns : goal.returns
returns g c =
    halves_made g.S.Source g.F.Files g.O.Sink g.E.Sink c.args.names.now c.args.plans
    c.args.src c.args.files.now c.args.outputs.now _ c.in_default.ensures.writes
    c.in_default.ensures.leaves c.make_both-src.result.0 c.make_both-src.new.files
    c.make_both-src.result.1 c.not_refused.result c.not_refused.ensures c.make_both-src.ensures

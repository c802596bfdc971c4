use Rattle.calls_tool.proofs.FileLemmas.{calls_shown, calls_asked, calls_refused, front_asked}
use Rattle.calls_tool.proofs.files.show_calls_on.Goals as goal

pub returns-in-Ok-clause-reports : goal.returns-in-Ok-clause-reports
returns-in-Ok-clause-reports g c =
    rw c.end.ensures (calls_shown g.S.Source g.O.Sink g.E.Sink c.args.calls.now c.args.name.now _ c.args.src c.in-Ok.elf _ c.args.outputs.now _ _
    c.in-Ok.ensures.asks c.in-Ok.ensures.answer c.in-Ok.ensures.told c.show_calls-shown.ensures)

pub returns-in-Ok-clause-asks : goal.returns-in-Ok-clause-asks
returns-in-Ok-clause-asks g c =
    rw c.end.ensures (calls_asked g.S.Source g.O.Sink g.E.Sink c.args.calls.now c.args.name.now _ c.args.src c.in-Ok.elf _ c.args.outputs.now _ _
    c.in-Ok.ensures.asks c.in-Ok.ensures.answer c.in-Ok.ensures.told c.show_calls-shown.ensures c.in-Ok.ensures.bound)

pub returns-in-Err-clause-reports : goal.returns-in-Err-clause-reports
returns-in-Err-clause-reports g c =
    calls_refused g.S.Source g.O.Sink g.E.Sink c.args.calls.now c.args.name.now _ c.args.src _ c.args.outputs.now _ _ _
    c.in-Err.ensures.asks c.in-Err.ensures.answer c.refuse_image-refused.ensures

pub returns-in-Err-clause-asks : goal.returns-in-Err-clause-asks
returns-in-Err-clause-asks g c =
    front_asked g.S.Source g.O.Sink g.E.Sink c.args.calls.now c.args.name.now (g.S.Source.holds c.args.src) _ _ c.in-Err.ensures.bound

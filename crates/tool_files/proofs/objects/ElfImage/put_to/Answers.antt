use Rattle.tool_files.proofs.ObjectLemmas.{image_put, image_front, sink_used, sink_stopped, source_used, source_stopped, update_stops}
use Rattle.tool_files.proofs.objects.ElfImage.put_to.Goals as goal

pub returns-in-Ok-clause-puts : goal.returns-in-Ok-clause-puts
returns-in-Ok-clause-puts g c =
    image_put g.S.Source g.K.Sink c.args.self.now _ c.args.sink.now _ _ c.in-Ok.ensures

pub returns-in-Ok-clause-sink : goal.returns-in-Ok-clause-sink
returns-in-Ok-clause-sink g c =
    sink_used g.S.Source g.K.Sink c.args.self.now _ c.args.sink.now _ _ c.in-Ok.ensures

pub returns-in-Ok-clause-source : goal.returns-in-Ok-clause-source
returns-in-Ok-clause-source g c =
    source_used g.S.Source g.K.Sink c.args.self.now _ c.args.sink.now _ _ c.in-Ok.ensures

pub returns-in-Err-clause-puts : goal.returns-in-Err-clause-puts
returns-in-Err-clause-puts g c =
    image_front g.S.Source g.K.Sink c.args.self.now _ c.args.sink.now _ _ c.in-Err.ensures

pub returns-in-Err-clause-sink : goal.returns-in-Err-clause-sink
returns-in-Err-clause-sink g c =
    sink_stopped g.S.Source g.K.Sink c.args.self.now _ c.args.sink.now _ _ c.in-Err.ensures

pub returns-in-Err-clause-source : goal.returns-in-Err-clause-source
returns-in-Err-clause-source g c =
    source_stopped g.S.Source g.K.Sink c.args.self.now _ c.args.sink.now _ _ c.in-Err.ensures

pub returns-in-Err-clause-stops : goal.returns-in-Err-clause-stops
returns-in-Err-clause-stops g c =
    update_stops c.args.self.now.o _ c.requires c.in-Err.ensures.answer

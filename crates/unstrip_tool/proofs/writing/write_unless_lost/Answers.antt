use Rattle.unstrip_tool.proofs.WriteLemmas.{lost_said, none_lost}
use Rattle.unstrip_tool.proofs.writing.write_unless_lost.Goals as goal

pub returns-in-Some : goal.returns-in-Some
returns-in-Some g c =
    rw c.end.ensures (lost_said g.S.Source g.F.Files g.O.Sink g.E.Sink c.args.file.now
    c.args.names.now c.args.removed.now c.args.elf c.in-Some.s
    c.refuse_allocated-refused.result c.args.files.now c.args.outputs.now _ c.in-Some.ensures
    c.refuse_allocated-refused.ensures.reports c.refuse_allocated-refused.ensures.leaves)

pub returns-in-None : goal.returns-in-None
returns-in-None g c =
    none_lost g.S.Source g.F.Files g.O.Sink g.E.Sink c.args.file.now c.args.names.now
    c.args.removed.now c.args.elf c.write_split.result.0 c.write_split.result.1
    c.args.files.now _ c.args.outputs.now _ c.in-None.ensures c.write_split.ensures

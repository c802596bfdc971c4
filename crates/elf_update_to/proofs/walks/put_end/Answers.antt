use Rattle.elf_update_to.proofs.EmitLaws.{emits_flushed}
use Rattle.elf_update_to.proofs.walks.put_end.Goals as goal

pub returns-clause-emits : goal.returns-clause-emits
returns-clause-emits g c =
    emits_flushed g.P.ImageParts g.K.Sink c.flush.result c.args.parts.now c.put_gap.new.parts
    c.args.sink.now c.put_gap.new.sink c.flush.new.sink
    c.args.page.now c.put_gap.new.page c.flush.new.self _ _ c.flush.ensures.err c.in_default.ensures
    c.flush.ensures.flows

use Rattle.rebuild_edits.specs.gelf_view.Records.{string_front}
use Rattle.rebuild_copy.proofs.IndexLaws.{string_put, string_passed}
use Rattle.rebuild_copy.proofs.indexing.put_string.Goals as goal

pub returns-in-Some-clause-put : goal.returns-in-Some-clause-put
returns-in-Some-clause-put c =
    string_put c.args.index.now c.put.new.self c.in-Some.name.now
    (string_front c.args.bytes.now) c.args.s c.put.result c.in-Some.ensures c.put.ensures.ok

pub returns-in-None-clause-put : goal.returns-in-None-clause-put
returns-in-None-clause-put c =
    string_passed c.args.index.now (string_front c.args.bytes.now) c.args.s c.in-None.ensures

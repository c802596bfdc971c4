use Rattle.std.proofs.Common.{sym}
use Rattle.rebuild_object.proofs.ItemLaws.{bytes_whole, bytes_fit}
use Rattle.rebuild_object.proofs.reading.items_of.Goals as goal

pub returns-in-Bytes-clause-ok : goal.returns-in-Bytes-clause-ok
returns-in-Bytes-clause-ok c =
    rw c.in-Bytes.is (sym (bytes_whole c.args.class c.args.order c.args.bytes))

pub returns-in-Bytes-clause-fits : goal.returns-in-Bytes-clause-fits
returns-in-Bytes-clause-fits c = bytes_fit c.args.class c.args.bytes

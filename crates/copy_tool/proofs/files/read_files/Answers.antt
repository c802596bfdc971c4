use Rattle.std.proofs.Common.{Ok}
use Rattle.copy_tool.specs.Files.{pairs, file_names, list_if_all_found}
use Rattle.copy_tool.proofs.NameLemmas.{all_filled, all_named}
use Rattle.copy_tool.proofs.FillLemmas.{none_before_read}
use Rattle.copy_tool.proofs.files.read_files.Goals as goal

pub returns-in-Ok-clause-reads : goal.returns-in-Ok-clause-reads
returns-in-Ok-clause-reads g c =
    rw (c.where_all.ensures, ← all_filled c.in-Ok.there c.fill_files.new.read)
    (none_before_read g.F.Files g.O.Sink g.E.Sink c.args.named.now
    (list_if_all_found (Ok c.in-Ok.there) (pairs c.fill_files.new.read)) c.args.files.now _
    c.args.outputs.now _ (rw c.new-read.ensures at c.in-Ok.ensures.reads))

pub returns-in-Ok-clause-names : goal.returns-in-Ok-clause-names
returns-in-Ok-clause-names g c =
    rw c.where_all.ensures (all_named c.in-Ok.there c.fill_files.new.read
    (file_names c.args.named.now) (rw c.new-read.ensures at c.in-Ok.ensures.names))

pub returns-in-Err-clause-reads : goal.returns-in-Err-clause-reads
returns-in-Err-clause-reads g c =
    none_before_read g.F.Files g.O.Sink g.E.Sink c.args.named.now _ c.args.files.now _
    c.args.outputs.now _ (rw c.new-read.ensures at c.in-Err.ensures.reads)

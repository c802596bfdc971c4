use Rattle.rehash_tool.proofs.WriteLemmas.{rehashed_written, rehashed_refused}
use Rattle.rehash_tool.proofs.writing.write_rehashed.Goals as goal

pub returns-in-Ok : goal.returns-in-Ok
returns-in-Ok g c =
    rehashed_written g.S.Source g.F.Files g.O.Sink g.E.Sink c.args.file.now c.args.out.now
    c.args.elf.now c.rehash.new.elf _ c.in-Ok.done c.write_done.result c.args.files.now _
    c.args.outputs.now _ c.in-Ok.ensures c.write_done.ensures

pub returns-in-Err : goal.returns-in-Err
returns-in-Err g c =
    rehashed_refused g.S.Source g.F.Files g.O.Sink g.E.Sink c.args.file.now c.args.out.now
    c.args.elf.now c.rehash.new.elf c.in-Err.e c.refuse_for.result c.args.files.now
    c.args.outputs.now _ c.in-Err.ensures c.refuse_for.ensures

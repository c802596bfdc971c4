use Rattle.rehash_tool.proofs.WriteLemmas.{absent_said}
use Rattle.rehash_tool.proofs.writing.write_done.Goals as goal

pub returns-then-done : goal.returns-then-done
returns-then-done g c = rw c.if-done.true c.write_object.ensures

pub returns : goal.returns
returns g c =
    rw c.if-done.false (absent_said g.S.Source g.F.Files g.O.Sink g.E.Sink c.args.file.now
    c.args.out.now c.args.elf.now c.refuse_absent.result c.args.files.now c.args.outputs.now _
    c.refuse_absent.ensures.reports c.refuse_absent.ensures.leaves)

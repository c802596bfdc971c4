use Rattle.std.proofs.Common.{arith}
use Rattle.strtab_shared.proofs.bytes.CopyLaws.{copied_more}
use Rattle.strtab_shared.proofs.bytes.bytes.SharedBytes.copy_more.Goals as goal

pub returns-clause-copied : goal.returns-clause-copied
returns-clause-copied c =
    copied_more c.args.self.now c.piece_at-piece.result.now c.args.buf.now c.put_at.new.buf
    c.args.at c.args.done c.min-n.result c.piece_at-piece.ensures
    (omega (arith, c.min-n.ensures)) (omega (arith, c.min-n.ensures, c.requires.more))
    c.requires.same c.put_at.ensures

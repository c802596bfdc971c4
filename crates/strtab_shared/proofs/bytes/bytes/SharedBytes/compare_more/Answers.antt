use Rattle.std.proofs.Common.{sym, ◌∙◌, arith}
use Rattle.std.proofs.lemmas.Slice.Eq.{bytes_eq-Decides}
use Rattle.strtab_shared.proofs.bytes.CopyLaws.{compared_more, differs}
use Rattle.strtab_shared.proofs.bytes.bytes.SharedBytes.compare_more.Goals as goal

pub returns-then-eq : goal.returns-then-eq
returns-then-eq c =
    let some = c.piece_at-piece.ensures.some in (
      omega (arith, c.min-n.ensures, c.requires.more, some),
      omega (arith, c.min-n.ensures, c.requires.more),
      compared_more c.args.self.now c.piece_at-piece.result.now c.args.bytes.now c.args.at
          c.args.done c.min-n.result c.piece_at-piece.ensures (omega (arith, c.min-n.ensures))
          c.requires.same ((bytes_eq-Decides _ _).0 (sym c.eq.ensures ∙ c.if-eq.true)),
    )

pub returns : goal.returns
returns c =
    differs c.args.self.now c.piece_at-piece.result.now c.args.bytes.now c.args.at c.args.done
    c.min-n.result c.piece_at-piece.ensures (omega (arith, c.min-n.ensures))
    (omega (arith, c.min-n.ensures, c.requires.more)) (sym c.eq.ensures ∙ c.if-eq.false)

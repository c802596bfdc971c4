use Rattle.std.proofs.Common.{length, refl, sym, ◌∙◌, arith}
use Rattle.strtab_shared.proofs.bytes.ShareLaws.{stands_is}
use Rattle.strtab_shared.proofs.bytes.sharing.stands_at.Goals as goal

pub returns-clause-inside : goal.returns-clause-inside
returns-clause-inside c = λ is.
    omega (arith, c.if-at-held.false, c.if-len-held.false)

pub returns-clause-same : goal.returns-clause-same
returns-clause-same c = λ is.
    stands_is c.args.text.now c.args.bytes.now c.args.at (length c.args.bytes.now) refl
    (sym c.eq.ensures ∙ is)

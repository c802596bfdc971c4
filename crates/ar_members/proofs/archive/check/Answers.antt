use Rattle.std.proofs.Common.{sym, ◌∙◌, arith}
use Rattle.std.proofs.lemmas.Option.{IfSome_then}
use Rattle.ar_members.proofs.Told.{told_both}
use Rattle.ar_members.proofs.MagicLemmas.{begun_short, begun_other, begun_large, begun_first}
use Rattle.ar_members.proofs.archive.check.Goals as goal

pub returns-then-size-lt-FIRST-clause-begun : goal.returns-then-size-lt-FIRST-clause-begun
returns-then-size-lt-FIRST-clause-begun g c =
    IfSome_then _ (g.met.S.Source.sized c.args.src.now)
    (λ image len. begun_short image (omega (arith, len, c.len-size.ensures.size, c.if-size-lt-FIRST.true)))

pub returns-then-not-starts_with-clause-begun : goal.returns-then-not-starts_with-clause-begun
returns-then-not-starts_with-clause-begun g c =
    told_both _ _ (g.S.Source.holds c.args.src.now) (g.met.S.Source.sized c.args.src.now) c.in_ok-line.ensures.bytes
    (λ image len is. begun_other image _ (omega (arith, len, c.len-size.ensures.size, c.if-size-lt-FIRST.false)) is
    (sym c.starts_with.ensures.value ∙ c.if-not-starts_with.true))

pub returns-then-size-gt-MAX_IMAGE-clause-begun :
    goal.returns-then-size-gt-MAX_IMAGE-clause-begun
returns-then-size-gt-MAX_IMAGE-clause-begun g c =
    told_both _ _ (g.S.Source.holds c.args.src.now) (g.met.S.Source.sized c.args.src.now) c.in_ok-line.ensures.bytes
    (λ image len is. begun_large image _ (omega (arith, len, c.len-size.ensures.size, c.if-size-lt-FIRST.false)) is
    (sym c.starts_with.ensures.value ∙ c.if-not-starts_with.false)
    (omega (arith, len, c.len-size.ensures.size, c.if-size-gt-MAX_IMAGE.true)))

pub returns-clause-begun : goal.returns-clause-begun
returns-clause-begun g c =
    told_both _ _ (g.S.Source.holds c.args.src.now) (g.met.S.Source.sized c.args.src.now) c.in_ok-line.ensures.bytes
    (λ image len is. begun_first image _ (omega (arith, len, c.len-size.ensures.size, c.if-size-lt-FIRST.false)) is
    (sym c.starts_with.ensures.value ∙ c.if-not-starts_with.false)
    (omega (arith, len, c.len-size.ensures.size, c.if-size-gt-MAX_IMAGE.false)))

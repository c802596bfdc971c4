use Rattle.std.proofs.Common.{◌≡◌, ◌∙◌, true, false, List, sym, subst, arith}
use Rattle.std.specs.Prelude.{All, IsTrue}
use Rattle.elf_types.specs.declared.records.Shdr.{Shdr}
use Rattle.elf_xlate.specs.Headers.{shdr_fits}
use Rattle.rebuild_image.proofs.ranges.CheckLaws.{found_more}
use Rattle.rebuild_image.proofs.StoredLaws.{no_unfit_section}
use Rattle.rebuild_image.proofs.streaming.headers_fit.Goals as goal

pub loop-h-init : goal.loop-h-init
loop-h-init c = λ i d below. absurd (omega (arith, below))

pub loop-h-preserved : goal.loop-h-preserved
loop-h-preserved c =
    found_more (λ (h : Shdr). IsTrue (shdr_fits c.args.x.now.header.class h))
    c.as_slice-h-items.result.now c.loop-h.h-index _ c.loop-h-test.true c.loop-h.invariant
    (sym c.shdr_fits.ensures ∙ c.if-not-shdr_fits.false)

pub returns-then-not-shdr_fits-clause-other : goal.returns-then-not-shdr_fits-clause-other
returns-then-not-shdr_fits-clause-other c = λ is o object listed.
    no_unfit_section o c.args.x.now c.loop-h.h-index c.as_slice-h-items.result.now _
    c.as_slice-h-items.ensures c.loop-h-test.true object listed
    (sym c.shdr_fits.ensures ∙ c.if-not-shdr_fits.true)

pub returns-clause-fit : goal.returns-clause-fit
returns-clause-fit c = λ is.
    subst (λ (l : List Shdr). All (λ h. IsTrue (shdr_fits c.args.x.now.header.class h)) l)
    c.as_slice-h-items.ensures
    (λ i d there. c.loop-h.invariant i d (omega (arith, there, c.loop-h-test.false)))

pub returns-clause-other : goal.returns-clause-other
returns-clause-other c = λ is o object listed. let clash : true ≡ false = is in cc

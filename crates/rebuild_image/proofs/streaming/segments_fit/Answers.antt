use Rattle.std.proofs.Common.{◌≡◌, ◌∙◌, true, false, sym, arith}
use Rattle.std.specs.Prelude.{IsTrue}
use Rattle.elf_types.specs.declared.records.Phdr.{Phdr}
use Rattle.elf_xlate.specs.Headers.{phdr_fits}
use Rattle.rebuild_image.proofs.ranges.CheckLaws.{found_more}
use Rattle.rebuild_image.proofs.StoredLaws.{no_unfit_segment}
use Rattle.rebuild_image.proofs.streaming.segments_fit.Goals as goal

pub loop-p-init : goal.loop-p-init
loop-p-init c = λ i d below. absurd (omega (arith, below))

pub loop-p-preserved : goal.loop-p-preserved
loop-p-preserved c =
    found_more (λ (p : Phdr). IsTrue (phdr_fits c.args.class p)) c.args.phdrs.now
    c.loop-p.p-index _ c.loop-p-test.true c.loop-p.invariant
    (sym c.phdr_fits.ensures ∙ c.if-not-phdr_fits.false)

pub returns-then-not-phdr_fits-clause-other : goal.returns-then-not-phdr_fits-clause-other
returns-then-not-phdr_fits-clause-other c = λ is o ready same are.
    no_unfit_segment o c.args.class c.args.phdrs.now c.loop-p.p-index _ c.loop-p-test.true
    (sym c.phdr_fits.ensures ∙ c.if-not-phdr_fits.true) ready same are

pub returns-clause-fit : goal.returns-clause-fit
returns-clause-fit c = λ is i d there.
    c.loop-p.invariant i d (omega (arith, there, c.loop-p-test.false))

pub returns-clause-other : goal.returns-clause-other
returns-clause-other c = λ is o ready same are. let clash : true ≡ false = is in cc

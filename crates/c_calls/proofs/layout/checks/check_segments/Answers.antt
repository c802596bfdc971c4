use Rattle.std.proofs.Common.{not, false, true, arith}
use Rattle.elf_xlate.specs.Headers.{phdr_fits}
use Rattle.c_calls.specs.Editing.From.{phdr_from_record}
use Rattle.c_calls.proofs.layout.CountLaws.{segments_stop, segments_pass, unfit_is}
use Rattle.c_calls.proofs.layout.PassLaws.{none_first, none_more, first_found, none_found}
use Rattle.c_calls.proofs.layout.checks.check_segments.Goals as goal

pub loop-i-init : goal.loop-i-init
loop-i-init c =
    none_first (λ p. not (phdr_fits c.args.class (phdr_from_record p))) c.args.phdrs.now

pub returns-then-not-phdr_fits : goal.returns-then-not-phdr_fits
returns-then-not-phdr_fits c =
    segments_stop c.args.class c.args.phdrs.now c.loop-i.i
    (first_found (λ p. not (phdr_fits c.args.class (phdr_from_record p))) c.args.phdrs.now
    c.loop-i.i _ c.loop-i-test.true c.loop-i.invariant
    (unfit_is c.args.class _ c.phdr_from.result c.phdr_fits.result false c.phdr_from.ensures
    c.phdr_fits.ensures c.if-not-phdr_fits.true))

pub loop-i-preserved : goal.loop-i-preserved
loop-i-preserved c =
    none_more (λ p. not (phdr_fits c.args.class (phdr_from_record p))) c.args.phdrs.now
    c.loop-i.i _ c.loop-i-test.true c.loop-i.invariant
    (unfit_is c.args.class _ c.phdr_from.result c.phdr_fits.result true c.phdr_from.ensures
    c.phdr_fits.ensures c.if-not-phdr_fits.false)

pub returns : goal.returns
returns c =
    segments_pass c.args.class c.args.phdrs.now
    (none_found (λ p. not (phdr_fits c.args.class (phdr_from_record p))) c.args.phdrs.now
    c.loop-i.i (omega (arith, c.loop-i-test.false)) c.loop-i.invariant)

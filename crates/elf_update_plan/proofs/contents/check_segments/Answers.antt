use Rattle.std.proofs.Common.{sym, ◌∙◌, arith}
use Rattle.elf_descriptor.specs.elf_xlate.Headers.{phdr_fits}
use Rattle.elf_descriptor.specs.elf_object.Object.{no_phdr}
use Rattle.elf_update_plan.proofs.RowLaws.{ok_is}
use Rattle.elf_update_plan.proofs.SegmentLaws.{pass_at_first, pass_more}
use Rattle.elf_update_plan.proofs.ContentLaws.{segments_stop, segments_end}
use Rattle.elf_update_plan.proofs.contents.check_segments.Goals as goal

pub loop-i-init : goal.loop-i-init
loop-i-init g c = pass_at_first (λ p. phdr_fits c.args.elf.now.o.header.class p) no_phdr c.args.elf.now.o.phdrs

pub segment_fits-requires : goal.segment_fits-requires
segment_fits-requires g c = omega (arith, c.loop-i-test.true, ok_is _ _ c.phnum-i-end.ensures)

pub returns-then-not-segment_fits : goal.returns-then-not-segment_fits
returns-then-not-segment_fits g c =
    segments_stop c.args.elf.now.o c.loop-i.i
    (omega (arith, c.loop-i-test.true, ok_is _ _ c.phnum-i-end.ensures)) c.loop-i.invariant
    (sym c.segment_fits.ensures ∙ c.if-not-segment_fits.true)

pub loop-i-preserved : goal.loop-i-preserved
loop-i-preserved g c =
    pass_more (λ p. phdr_fits c.args.elf.now.o.header.class p) no_phdr c.args.elf.now.o.phdrs
    c.loop-i.i c.loop-i.invariant
    (sym c.segment_fits.ensures ∙ c.if-not-segment_fits.false)

pub returns : goal.returns
returns g c =
    segments_end c.args.elf.now.o c.loop-i.i (omega (
      arith,
      c.loop-i-test.false,
      ok_is _ _
          c.phnum-i-end.ensures,
    )) c.loop-i.invariant

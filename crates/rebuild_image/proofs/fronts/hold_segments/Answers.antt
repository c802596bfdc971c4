use Rattle.elf_xlate.specs.Headers.{phdr_bytes}
use Rattle.rebuild_model.specs.elf_object.Object.{no_phdr}
use Rattle.rebuild_model.specs.elf_object.Open.{phdrs_bytes}
use Rattle.rebuild_image.proofs.FrontLaws.{no_rows_held, more_rows, all_rows, appended_bytes_held, behind}
use Rattle.rebuild_image.proofs.fronts.hold_segments.Goals as goal

pub loop-p-init : goal.loop-p-init
loop-p-init c = no_rows_held (phdr_bytes c.args.class c.args.order) c.args.phdrs.now c.args.held.now

pub loop-p-preserved : goal.loop-p-preserved
loop-p-preserved c =
    more_rows (phdr_bytes c.args.class c.args.order) c.args.phdrs.now c.args.held.now
    c.loop-p.held c.hold_segment.new.held c.loop-p.p-index no_phdr c.loop-p-test.true
    c.loop-p.invariant c.in-Ok.ensures.ok

pub range_behind-requires : goal.range_behind-requires
unfolding phdrs_bytes
range_behind-requires c =
    behind (phdrs_bytes c.args.class c.args.order c.args.phdrs.now) c.args.held.now c.loop-p.held
    c.len-at.result
    (all_rows (phdr_bytes c.args.class c.args.order) c.args.phdrs.now c.args.held.now
    c.loop-p.held c.loop-p.p-index c.loop-p-test.false c.loop-p.invariant)
    c.len-at.ensures

pub returns-clause-ok : goal.returns-clause-ok
unfolding phdrs_bytes
returns-clause-ok c =
    appended_bytes_held (phdrs_bytes c.args.class c.args.order c.args.phdrs.now) c.args.held.now
    c.loop-p.held c.len-at.result c.range_behind.result
    (all_rows (phdr_bytes c.args.class c.args.order) c.args.phdrs.now c.args.held.now
    c.loop-p.held c.loop-p.p-index c.loop-p-test.false c.loop-p.invariant)
    c.len-at.ensures c.range_behind.ensures.held c.range_behind.ensures.at
    c.range_behind.ensures.len

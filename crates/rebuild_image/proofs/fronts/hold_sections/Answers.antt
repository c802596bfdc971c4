use Rattle.elf_xlate.specs.Headers.{shdr_bytes}
use Rattle.rebuild_model.specs.elf_ident.Front.{zero_shdr}
use Rattle.rebuild_model.specs.elf_object.Open.{shdrs_bytes}
use Rattle.rebuild_image.proofs.FrontLaws.{no_rows_held, more_rows, all_rows, appended_bytes_held, behind}
use Rattle.rebuild_image.proofs.fronts.hold_sections.Goals as goal

pub loop-h-init : goal.loop-h-init
loop-h-init c = no_rows_held (shdr_bytes c.args.class c.args.order) c.args.headers.now c.args.held.now

pub loop-h-preserved : goal.loop-h-preserved
unfolding zero_shdr
loop-h-preserved c =
    more_rows (shdr_bytes c.args.class c.args.order) c.args.headers.now c.args.held.now
    c.loop-h.held c.hold_section.new.held c.loop-h.h-index zero_shdr c.loop-h-test.true
    c.loop-h.invariant c.in-Ok.ensures.ok

pub range_behind-requires : goal.range_behind-requires
unfolding shdrs_bytes
range_behind-requires c =
    behind (shdrs_bytes c.args.class c.args.order c.args.headers.now) c.args.held.now c.loop-h.held
    c.len-at.result
    (all_rows (shdr_bytes c.args.class c.args.order) c.args.headers.now c.args.held.now
    c.loop-h.held c.loop-h.h-index c.loop-h-test.false c.loop-h.invariant)
    c.len-at.ensures

pub returns-clause-ok : goal.returns-clause-ok
unfolding shdrs_bytes
returns-clause-ok c =
    appended_bytes_held (shdrs_bytes c.args.class c.args.order c.args.headers.now) c.args.held.now
    c.loop-h.held c.len-at.result c.range_behind.result
    (all_rows (shdr_bytes c.args.class c.args.order) c.args.headers.now c.args.held.now
    c.loop-h.held c.loop-h.h-index c.loop-h-test.false c.loop-h.invariant)
    c.len-at.ensures c.range_behind.ensures.held c.range_behind.ensures.at
    c.range_behind.ensures.len

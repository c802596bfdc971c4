use Rattle.std.proofs.Common.{refl, sym, ◌∙◌, arith}
use Rattle.std.proofs.lemmas.List.{take_all}
use Rattle.section_table.specs.Sections.{section_in, absent_scn}
use Rattle.elf_descriptor.proofs.Settling.{item_copied, header_copied, headers_in, headers_count}
use Rattle.elf_descriptor.proofs.body.settling.copy_shdrs.Goals as goal

pub header-requires : goal.header-requires
header-requires c = omega (arith, c.loop-i-test.true, c.count-i-end.ensures)

pub loop-i-preserved : goal.loop-i-preserved
loop-i-preserved c =
    let count = headers_count c.args.from.now in
    item_copied c.loop-i.i (headers_in c.args.from.now) c.loop-i.to _ c.header.result.now
    absent_scn.header (omega (arith, count, c.loop-i-test.true, c.count-i-end.ensures))
    c.loop-i.invariant
    (c.header.ensures
    ∙ header_copied c.args.from.now c.loop-i.i (section_in c.args.from.now c.loop-i.i) absent_scn
    refl) refl

pub returns : goal.returns
returns c =
    let long = c.loop-i.invariant.long in
    let count = headers_count c.args.from.now in
    sym (take_all c.loop-i.i c.loop-i.to
    (omega (arith, long, count, c.loop-i-test.false, c.count-i-end.ensures)))
    ∙ c.loop-i.invariant.copied
    ∙ take_all c.loop-i.i (headers_in c.args.from.now)
    (omega (arith, count, c.loop-i-test.false, c.count-i-end.ensures))

use Rattle.std.proofs.Common.{refl, arith}
use Rattle.elf_update_plan.proofs.elf_descriptor.Settling.{item_copied}
use Rattle.elf_update_plan.proofs.RowLaws.{ok_is}
use Rattle.rebuild_making.proofs.HeaderLaws.{copied_all}
use Rattle.rebuild_making.proofs.segments.fill_segments.Goals as goal

pub loop-i-init : goal.loop-i-init
loop-i-init g c = record { long = c.requires; copied = refl }

pub phdr_at-requires : goal.phdr_at-requires
phdr_at-requires g c =
    let count = ok_is _ _ c.phnum-i-end.ensures in omega (arith, count, c.loop-i-test.true)

pub loop-i-preserved : goal.loop-i-preserved
loop-i-preserved g c =
    let count = ok_is _ _ c.phnum-i-end.ensures in
    item_copied c.loop-i.i c.args.from.now.o.phdrs c.loop-i.to _ c.phdr_at.result c.phdr_at.result
    (omega (arith, count, c.loop-i-test.true)) c.loop-i.invariant c.phdr_at.ensures refl

pub returns : goal.returns
returns g c =
    let count = ok_is _ _ c.phnum-i-end.ensures in
    copied_all c.loop-i.i c.args.from.now.o.phdrs c.loop-i.to
    (omega (arith, count, c.loop-i-test.false)) c.loop-i.invariant

use Rattle.std.proofs.Common.{refl, arith}
use Rattle.section_table.specs.elf_xlate.Headers.{IsPhdr}
use Rattle.elf_descriptor.proofs.Settling.{item_copied, item_known}
use Rattle.elf_descriptor.proofs.body.settling.copy_phdrs.Goals as goal

pub loop-i-preserved : goal.loop-i-preserved
loop-i-preserved c = (
  item_copied c.loop-i.i c.args.from.now c.loop-i.to _ c.ranged_phdr.result _ (omega arith)
      c.loop-i.invariant.0 c.ranged_phdr.ensures.value refl,
  item_known IsPhdr c.loop-i.i c.args.from.now c.ranged_phdr.result _ (omega arith)
      c.loop-i.invariant.1 c.ranged_phdr.ensures.value c.ranged_phdr.ensures.ranged,
)

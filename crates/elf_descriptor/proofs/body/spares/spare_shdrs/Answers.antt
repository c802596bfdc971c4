-- One header more.
use Rattle.std.proofs.Common.{length, ap, List}
use Rattle.elf_types.specs.declared.records.Shdr.{Shdr}
use Rattle.elf_descriptor.proofs.SpareCalls.{one_longer}
use Rattle.elf_descriptor.proofs.body.spares.spare_shdrs.Goals as goal

pub loop-i-init : goal.loop-i-init
loop-i-init c = ap (λ (l : List Shdr). length l) c.in_ok-shdrs.ensures.ok

pub loop-i-preserved : goal.loop-i-preserved
loop-i-preserved c = one_longer _ _ _ c.loop-i.i c.in_ok-push.ensures.ok c.loop-i.invariant

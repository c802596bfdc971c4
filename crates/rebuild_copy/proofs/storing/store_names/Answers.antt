use Rattle.rebuild_copy.proofs.StoreLaws.{stays_alters, fault_stored}
use Rattle.std.proofs.Common.{refl}
use Rattle.elf_types.specs.declared.errors.ElfError.TheVariants.{TooLarge}
use Rattle.rebuild_changes.specs.declared.faults.CopyFault.TheVariants as faults
use Rattle.rebuild_copy.proofs.storing.store_names.Goals as goal

pub returns-in-Stay : goal.returns-in-Stay
returns-in-Stay c = rw c.in-Stay.is (stays_alters _ c.args.x.now)

pub returns-in-NoTable : goal.returns-in-NoTable
returns-in-NoTable c =
    rw c.in-NoTable.is (fault_stored _ faults.NoTable _ c.args.x.now tt (λ p. refl))

pub returns-in-TooLarge : goal.returns-in-TooLarge
returns-in-TooLarge c =
    rw c.in-TooLarge.is (fault_stored _ (faults.Strip TooLarge) _ c.args.x.now tt (λ p. refl))

pub returns-in-Anew : goal.returns-in-Anew
returns-in-Anew c = rw c.in-Anew.is c.store_table.ensures

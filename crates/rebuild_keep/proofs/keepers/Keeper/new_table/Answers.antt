use Rattle.elf_update_plan.proofs.RowLaws.{ok_is}
use Rattle.rebuild_keep.proofs.TableLaws.{table_had}
use Rattle.rebuild_keep.proofs.keepers.Keeper.new_table.Goals as goal

pub returns : goal.returns
returns g c =
    table_had c.args.self.now c.args.elf.now.o c.args.s.0 c.shstrndx.result c.table_of.result
    (ok_is _ _ c.shstrndx.ensures) c.table_of.ensures

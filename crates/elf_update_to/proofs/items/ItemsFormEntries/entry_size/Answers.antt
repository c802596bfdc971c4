use Rattle.elf_update_to.proofs.ItemLaws.{items_all}
use Rattle.elf_update_to.proofs.items.ItemsFormEntries.entry_size.Goals as goal

pub returns-clause-all : goal.returns-clause-all
returns-clause-all c = items_all c.args.self.now.class c.args.self.now.order c.args.self.now.items.now

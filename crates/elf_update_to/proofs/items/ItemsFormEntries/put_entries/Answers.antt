use Rattle.elf_update_to.proofs.ItemLaws.{items_put}
use Rattle.elf_update_to.proofs.items.ItemsFormEntries.put_entries.Goals as goal

pub returns : goal.returns
returns c =
    items_put c.args.self.now.class c.args.self.now.order c.args.self.now.items.now c.args.from
    c.args.some c.put_items.new.out c.requires.there c.put_items.ensures

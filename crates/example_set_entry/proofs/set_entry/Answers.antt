use Rattle.example_set_entry.proofs.EntryLemmas.{entry_stored}
use Rattle.example_set_entry.proofs.set_entry.Goals as goal

pub returns : goal.returns
returns g c =
    entry_stored c.update_ehdr.result c.args.elf.now _ _ c.ehdr-header.result c.args.entry
    c.in_ok-flag.ensures.state c.ehdr-header.ensures c.update_ehdr.ensures.state

use Rattle.std.proofs.Common.{length}
use Rattle.elf_update_to.proofs.EntryLaws.{begun_join_by}
use Rattle.elf_update_to.proofs.entries.copy_entries.Goals as goal

pub returns-then-not-is_empty : goal.returns-then-not-is_empty
returns-then-not-is_empty g c =
    let step = c.entry_size-size.ensures in
    let split = c.split_at_mut-head.ensures in
    begun_join_by (g.E.Entries.size c.args.entries.now) c.entry_size-size.result c.args.from
    c.min-first.result (length c.args.buf.now)
    (length c.split_at_mut-head.result.0.now) (length c.split_at_mut-head.result.1.now)
    (g.E.Entries.bytes c.args.entries.now)
    c.copy_of_entry.new.out c.copy_from_entry.new.out step.size step.some c.min-first.ensures
    split.front_len split.back_len
    c.copy_of_entry.ensures c.copy_from_entry.ensures

use Rattle.std.proofs.Common.{◌≡◌, ◌*◌, ◌/◌, length, sym, ap, arith, ℕ}
use Rattle.std.proofs.Math.Nat.{mul-div-le}
use Rattle.elf_update_to.proofs.EntryLaws.{whole_within, begun_within, entries_join}
use Rattle.elf_update_to.proofs.entries.copy_from_entry.Goals as goal

pub put_entries-requires-clause-there : goal.put_entries-requires-clause-there
put_entries-requires-clause-there g c =
    let size = g.E.Entries.size c.args.entries.now in
    let len = length c.args.out.now in
    let step = c.entry_size-size.ensures in
    let less = mul-div-le len c.entry_size-size.result in
    let same : size * (len / c.entry_size-size.result) ≡ c.entry_size-size.result * (len / c.entry_size-size.result) =
    ap (λ (n : ℕ). n * (len / c.entry_size-size.result)) (sym step.size) in
    whole_within size c.args.index len (g.E.Entries.count c.args.entries.now) (len / c.entry_size-size.result)
    (omega (arith, step.size, step.some)) (omega (arith, less, same)) (omega (arith, c.requires.there, step.all))

pub copy_of_entry-requires-clause-there : goal.copy_of_entry-requires-clause-there
copy_of_entry-requires-clause-there g c = λ some.
    let size = g.E.Entries.size c.args.entries.now in
    let len = length c.args.out.now in
    let step = c.entry_size-size.ensures in
    let same : size * (len / c.entry_size-size.result) ≡ c.entry_size-size.result * (len / c.entry_size-size.result) =
    ap (λ (n : ℕ). n * (len / c.entry_size-size.result)) (sym step.size) in
    begun_within size c.args.index len (g.E.Entries.count c.args.entries.now) (len / c.entry_size-size.result)
    (omega (arith, some, c.split_at_mut-whole.ensures.back_len, same)) (omega (arith, c.requires.there, step.all))

pub returns : goal.returns
returns g c =
    let size = g.E.Entries.size c.args.entries.now in
    let len = length c.args.out.now in
    let step = c.entry_size-size.ensures in
    let less = mul-div-le len c.entry_size-size.result in
    let same : size * (len / c.entry_size-size.result) ≡ c.entry_size-size.result * (len / c.entry_size-size.result) =
    ap (λ (n : ℕ). n * (len / c.entry_size-size.result)) (sym step.size) in
    entries_join size c.args.index (len / c.entry_size-size.result) len
    (length c.split_at_mut-whole.result.1.now) (g.E.Entries.bytes c.args.entries.now)
    c.put_entries.new.out c.copy_of_entry.new.out (omega (arith, less, same))
    (omega (arith, c.split_at_mut-whole.ensures.back_len, same))
    c.put_entries.ensures c.copy_of_entry.ensures

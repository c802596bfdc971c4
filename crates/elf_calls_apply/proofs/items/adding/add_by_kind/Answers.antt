use Rattle.elf_calls_apply.proofs.ByKind.{bytes_added, halves_added, words_added, addrs_added, syms_added, rels_added, relas_added, dyns_added}
use Rattle.elf_calls_apply.proofs.items.adding.add_by_kind.Goals as goal

pub add_to_items-requires-clause-sums : goal.add_to_items-requires-clause-sums
add_to_items-requires-clause-sums g c = bytes_added c.args.n

pub add_to_items-requires-in-Half-clause-sums : goal.add_to_items-requires-in-Half-clause-sums
add_to_items-requires-in-Half-clause-sums g c = halves_added c.args.n

pub add_to_items-requires-in-Word-clause-sums : goal.add_to_items-requires-in-Word-clause-sums
add_to_items-requires-in-Word-clause-sums g c = words_added c.args.n

pub add_to_items-requires-in-Addr-clause-sums : goal.add_to_items-requires-in-Addr-clause-sums
add_to_items-requires-in-Addr-clause-sums g c = addrs_added c.args.n

pub add_to_items-requires-in-Sym-clause-sums : goal.add_to_items-requires-in-Sym-clause-sums
add_to_items-requires-in-Sym-clause-sums g c = syms_added c.args.n

pub add_to_items-requires-in-Rel-clause-sums : goal.add_to_items-requires-in-Rel-clause-sums
add_to_items-requires-in-Rel-clause-sums g c = rels_added c.args.n

pub add_to_items-requires-in-Rela-clause-sums : goal.add_to_items-requires-in-Rela-clause-sums
add_to_items-requires-in-Rela-clause-sums g c = relas_added c.args.n

pub add_to_items-requires-in-Dyn-clause-sums : goal.add_to_items-requires-in-Dyn-clause-sums
add_to_items-requires-in-Dyn-clause-sums g c = dyns_added c.args.n

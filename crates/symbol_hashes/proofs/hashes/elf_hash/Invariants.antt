use Rattle.std.proofs.Common.{◌≡◌, drop}
use Rattle.std.specs.List.{fold}
use Rattle.hash_model.specs.Hashes.{elf_hash_step}
use Rattle.symbol_hashes.proofs.hashes.elf_hash.Given as goal

abbrev pub invariant-loop-byte : goal.invariant-loop-byte
invariant-loop-byte l = fold elf_hash_step l.h (drop l.byte-index l.name) ≡ fold elf_hash_step 0 l.name

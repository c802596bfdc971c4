use Rattle.std.proofs.Common.{◌-◌, length}
use Rattle.strtab_build.specs.Names.{chain_of, hash_of}
use Rattle.strtab_build.proofs.NamesLemmas.{Seeks}
use Rattle.strtab_build.proofs.strings.Strings.find.Given as goal

-- the walk has passed so many names of the chain
abbrev pub invariant-loop-entry : goal.invariant-loop-entry
invariant-loop-entry l = Seeks l.name l.self l.repeat

abbrev pub decreases-loop-entry : goal.decreases-loop-entry
decreases-loop-entry l = length (chain_of (hash_of l.name) l.self) - l.repeat

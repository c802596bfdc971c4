-- What the attribute of a row names: what the page held still stands.
use Rattle.elf_types.proofs.Writers.{stays}

pub ruleset kept = (stays)

-- Where the bytes are whole, there are items.
use Rattle.std.proofs.Common.{sym, ◌∙◌}
use Rattle.elf_xlate.proofs.Decoded.{whole_is}
use Rattle.elf_xlate.proofs.decode.to_memory.Goals as goal

pub returns-in-Err-clause-memory : goal.returns-in-Err-clause-memory
returns-in-Err-clause-memory c =
    λ _. whole_is _ _ _ _ ∙ sym c.is_whole.ensures ∙ c.if-not-is_whole.false

use Rattle.elf_calls_script.proofs.Pieces.{nothing_left}
use Rattle.elf_calls_script.proofs.words.Words.is_empty.Goals as goal

pub returns : goal.returns
returns c = rw (← c.self.view_is) (nothing_left _ _ _ c.is_none.ensures)

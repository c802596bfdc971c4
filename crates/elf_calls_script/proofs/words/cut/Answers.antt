use Rattle.std.proofs.Common.{sym}
use Rattle.elf_calls_script.proofs.Pieces.{cut_at, uncut}
use Rattle.elf_calls_script.proofs.words.cut.Goals as goal

pub returns-in-Some : goal.returns-in-Some
returns-in-Some c = cut_at c.args.separator c.args.bytes.now c.in-Some.end (sym c.in-Some.ensures)

pub returns-in-None : goal.returns-in-None
returns-in-None c = uncut c.args.separator c.args.bytes.now (sym c.in-None.ensures)

use Rattle.elf_calls_generate.proofs.MadeSections.{made_symbol}
use Rattle.elf_calls_generate.proofs.symbols.symbol.Goals as goal

pub returns : goal.returns
returns c = rw (c.from.ensures, c.from-2.ensures) (λ n at. made_symbol n c.args.i c.args.name at)

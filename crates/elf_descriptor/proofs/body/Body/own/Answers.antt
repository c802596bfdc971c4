use Rattle.elf_descriptor.proofs.Warming.{warmed_same}
use Rattle.elf_descriptor.proofs.body.Body.own.Goals as goal

pub returns-in-Err-clause-warmed : goal.returns-in-Err-clause-warmed
returns-in-Err-clause-warmed g c = warmed_same _ c.args.self.now c.args.d.section

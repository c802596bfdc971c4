use Rattle.elf_outside.proofs.RangeLemmas.{served}
use Rattle.elf_outside.proofs.real.read_ahead.ReadAhead.serve.Goals as goal

pub returns : goal.returns
returns g c =
    let ahead = c.args.self.now in
    served _ ahead.held.items ahead.start c.args.at _ _ _ ahead.as_inner c.requires.from c.requires.to cc

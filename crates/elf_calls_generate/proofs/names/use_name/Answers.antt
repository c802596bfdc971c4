use Rattle.elf_calls_generate.proofs.NameUses.{uses_name}
use Rattle.elf_calls_generate.proofs.names.use_name.Goals as goal

pub returns : goal.returns
returns c =
    uses_name c.args.name.now c.add.result c.args.names.now c.add.new.self c.add.ensures.names
    c.add.ensures.place c.add.ensures.too_large c.add.ensures.refusals

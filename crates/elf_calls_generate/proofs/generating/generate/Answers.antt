use Rattle.elf_calls_generate.proofs.generating.generate.Goals as goal

pub fill-requires-clause-created : goal.fill-requires-clause-created
fill-requires-clause-created c =
    record { object = c.create-elf.ensures.object; told = c.create-elf.ensures.told }

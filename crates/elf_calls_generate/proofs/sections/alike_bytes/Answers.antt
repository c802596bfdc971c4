use Rattle.std.proofs.lemmas.List.{take-replicate}
use Rattle.elf_calls_generate.proofs.sections.alike_bytes.Goals as goal

pub returns-clause-ok : goal.returns-clause-ok
returns-clause-ok c =
    rw (← take-replicate c.args.count 7 c.args.byte c.requires) c.from_slice.ensures.ok

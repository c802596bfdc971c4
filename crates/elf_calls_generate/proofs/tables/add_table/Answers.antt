use Rattle.elf_calls_generate.proofs.MadeSections.{made_strtab}
use Rattle.elf_calls_generate.proofs.StageLaws.{added_as}
use Rattle.elf_calls_generate.proofs.tables.add_table.Goals as goal

pub returns-clause-made : goal.returns-clause-made
returns-clause-made c = λ n own strings sections at are stands.
    added_as c.add.result c.add.new.elf sections _ _
    (made_strtab n c.args.name own c.args.names strings at are)
    (c.add.ensures.made sections stands)

pub returns-clause-err : goal.returns-clause-err
returns-clause-err c = λ sections stands few. c.add.ensures.err sections stands few

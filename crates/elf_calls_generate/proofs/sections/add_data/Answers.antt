use Rattle.elf_calls_generate.proofs.MadeSections.{made_data}
use Rattle.elf_calls_generate.proofs.StageLaws.{added_as}
use Rattle.elf_calls_generate.proofs.sections.add_data.Goals as goal

pub returns-in-Ok-clause-made : goal.returns-in-Ok-clause-made
returns-in-Ok-clause-made c = λ n sections at stands.
    added_as c.add.result c.add.new.elf sections _ _
    (made_data n c.args.i c.args.name c.in-Ok.bytes at c.in-Ok.ensures.ok)
    (c.add.ensures.made sections stands)

pub returns-in-Ok-clause-err : goal.returns-in-Ok-clause-err
returns-in-Ok-clause-err c = λ sections stands few. c.add.ensures.err sections stands few

pub returns-in-Err-clause-err : goal.returns-in-Err-clause-err
returns-in-Err-clause-err c = λ sections stands few. c.in-Err.ensures.err

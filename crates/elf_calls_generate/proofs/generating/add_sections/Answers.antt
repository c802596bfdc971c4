use Rattle.elf_descriptor.specs.Edits.{nulled}
use Rattle.elf_calls_generate.proofs.StageLaws.{null_stage, null_wants}
use Rattle.elf_calls_generate.proofs.generating.add_sections.Goals as goal

pub returns-in-Err-clause-err : goal.returns-in-Err-clause-err
returns-in-Err-clause-err c =
    null_wants c.in-Err.e c.args.elf.now c.newnull.new.self (nulled c.args.elf.now)
    c.in-Err.ensures.answer

pub add_data_sections-requires-clause-none : goal.add_data_sections-requires-clause-none
add_data_sections-requires-clause-none c =
    null_stage c.args.elf.now c.newnull.new.self c.new-names.result c.args.n c.requires.created
    c.new-names.ensures c.in_default.ensures.answer.1

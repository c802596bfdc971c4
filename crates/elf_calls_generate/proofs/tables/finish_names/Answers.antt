use Rattle.std.proofs.Common.{◌∙◌}
use Rattle.rebuild_model.specs.Generated.{generated_section_names}
use Rattle.elf_calls_generate.proofs.tables.finish_names.Goals as goal

pub returns-in-Ok-clause-made : goal.returns-in-Ok-clause-made
returns-in-Ok-clause-made c = λ n own sections at all stands.
    c.add_table.ensures.made n own (generated_section_names n) sections at
    (c.in-Ok.ensures.ok ∙ all) stands

pub returns-in-Ok-clause-err : goal.returns-in-Ok-clause-err
returns-in-Ok-clause-err c = λ sections stands few. c.add_table.ensures.err sections stands few

pub returns-in-Err-clause-err : goal.returns-in-Err-clause-err
returns-in-Err-clause-err c = λ sections stands few. c.in-Err.ensures.err

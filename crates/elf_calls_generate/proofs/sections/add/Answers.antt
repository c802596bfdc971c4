use Rattle.rebuild_model.specs.Rebuilt.{made_section}
use Rattle.elf_calls_generate.proofs.AddedLaws.{added_made, added_wants}
use Rattle.elf_calls_generate.proofs.sections.add.Goals as goal

pub returns-clause-made : goal.returns-clause-made
returns-clause-made c = λ sections at.
    added_made c.add_section.result c.args.elf.now c.add_section.new.elf sections
    (made_section c.args.h.now c.args.items) at c.add_section.ensures.made

pub returns-clause-err : goal.returns-clause-err
returns-clause-err c = λ sections at few.
    added_wants c.add_section.result c.args.elf.now sections c.args.h.now c.args.items at few
    c.add_section.ensures.err

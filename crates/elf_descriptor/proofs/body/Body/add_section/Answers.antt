use Rattle.std.proofs.Common.{refl}
use Rattle.elf_descriptor.proofs.EditPieces.{items_same}
use Rattle.elf_descriptor.proofs.EditSections.{section_pushed}
use Rattle.elf_descriptor.proofs.body.Body.add_section.Goals as goal

pub returns-in-Err-clause-unchanged : goal.returns-in-Err-clause-unchanged
returns-in-Err-clause-unchanged c =
    items_same c.args.self.now c.push_new.new.self c.in-Err.ensures.unchanged

pub returns-clause-grown : goal.returns-clause-grown
returns-clause-grown c =
    section_pushed c.args.self.now c.push_new.new.self _ c.requires.counts refl
    c.in_default.ensures.ok

use Rattle.std.proofs.Common.{refl}
use Rattle.elf_descriptor.specs.Views.{scn_at}
use Rattle.elf_descriptor.proofs.EditSteps.{shdr_stepped, header_and_mark}
use Rattle.elf_descriptor.proofs.body.Body.set_shdr.Goals as goal

pub returns : goal.returns
unfolding scn_at
returns c =
    shdr_stepped c.args.self.now _ c.args.s c.args.h (scn_at c.args.self.now c.args.s) refl refl
    (header_and_mark c.args.self.now.sections c.set_header.new.self c.mark.new.self c.args.s
    c.args.h c.requires
    c.set_header.ensures c.mark.ensures)

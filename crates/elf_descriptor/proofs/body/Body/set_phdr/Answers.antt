use Rattle.std.proofs.Common.{List, ap, true, false}
use Rattle.elf_types.specs.declared.records.Phdr.{Phdr}
use Rattle.elf_descriptor.proofs.EditSteps.{phdr_stepped}
use Rattle.elf_descriptor.proofs.body.Body.set_phdr.Goals as goal

pub returns : goal.returns
returns c =
    phdr_stepped c.args.self.now _ c.args.i c.args.p c.requires.counts (ap (λ (l : List Phdr). record c.args.self.now { phdrs = l; segments_marked = true; ready = false }) c.set_item.ensures)

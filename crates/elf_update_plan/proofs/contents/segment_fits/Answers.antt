use Rattle.std.proofs.Common.{◌∙◌, ap}
use Rattle.std.proofs.lemmas.List.{get_or_default}
use Rattle.elf_types.specs.declared.records.Class.{Class}
use Rattle.elf_types.specs.declared.records.Phdr.{Phdr}
use Rattle.elf_descriptor.specs.elf_xlate.Headers.{phdr_fits}
use Rattle.elf_descriptor.specs.elf_object.Object.{no_phdr}
use Rattle.elf_update_plan.proofs.RowLaws.{told_class_is}
use Rattle.elf_update_plan.proofs.contents.segment_fits.Goals as goal

pub returns : goal.returns
returns g c =
    c.phdr_fits.ensures
    ∙ ap (λ (class : Class). phdr_fits class c.phdr_at.result)
    (told_class_is c.args.elf.now.o c.ehdr-class.result c.ehdr-class.ensures)
    ∙ ap (λ (p : Phdr). phdr_fits c.args.elf.now.o.header.class p)
    (c.phdr_at.ensures
    ∙ get_or_default c.args.elf.now.o.phdrs c.args.i c.phdr_at.result no_phdr c.requires)

use Rattle.std.proofs.Common.{◌∙◌, ap}
use Rattle.std.proofs.lemmas.List.{get_or_default}
use Rattle.elf_types.specs.declared.records.Class.{Class}
use Rattle.elf_types.specs.declared.records.Phdr.{Phdr}
use Rattle.elf_xlate.specs.Headers.{phdr_fits}
use Rattle.elf_object.specs.Object.{no_phdr}
use Rattle.rebuild_plan.proofs.rebuild_keep.HomeLaws.{class_told}
use Rattle.rebuild_object.proofs.headers.segment_fits.Goals as goal

pub returns : goal.returns
returns g c =
    c.phdr_fits.ensures
    ∙ ap (λ (class : Class). phdr_fits class c.phdr_at.result)
    (class_told c.args.elf.now.o c.ehdr-class.result c.ehdr-class.ensures)
    ∙ ap (λ (p : Phdr). phdr_fits c.args.elf.now.o.header.class p)
    (c.phdr_at.ensures
    ∙ get_or_default c.args.elf.now.o.phdrs c.args.i c.phdr_at.result no_phdr c.requires)

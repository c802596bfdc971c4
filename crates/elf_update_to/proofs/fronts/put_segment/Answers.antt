use Rattle.std.proofs.Common.{length, ◌∙◌}
use Rattle.std.proofs.lemmas.List.{get_or_default}
use Rattle.elf_update_plan.specs.elf_xlate.Headers.{phdr_size}
use Rattle.elf_update_plan.specs.elf_object.Object.{no_phdr}
use Rattle.elf_update_plan.proofs.RowLaws.{ok_is}
use Rattle.elf_update_to.proofs.FrontLaws.{sized_by_header, segment_fit, segment_put}
use Rattle.elf_update_to.proofs.fronts.put_segment.Goals as goal

pub put_phdr-requires-clause-size : goal.put_phdr-requires-clause-size
put_phdr-requires-clause-size g c =
    sized_by_header phdr_size c.args.elf.now.o c.ehdr-header.result (length c.args.out.now)
    (ok_is _ _ c.ehdr-header.ensures) c.requires.room

pub put_phdr-requires-clause-fits : goal.put_phdr-requires-clause-fits
put_phdr-requires-clause-fits g c =
    segment_fit c.args.elf.now.o c.args.i c.ehdr-header.result c.phdr_at.result
    c.requires.stored.ready c.requires.there (ok_is _ _ c.ehdr-header.ensures)
    (c.phdr_at.ensures
    ∙ get_or_default c.args.elf.now.o.phdrs c.args.i c.phdr_at.result no_phdr c.requires.there)

pub returns : goal.returns
returns g c =
    segment_put c.args.elf.now.o c.args.i c.ehdr-header.result c.phdr_at.result
    c.put_phdr.new.out (ok_is _ _ c.ehdr-header.ensures)
    (c.phdr_at.ensures
    ∙ get_or_default c.args.elf.now.o.phdrs c.args.i c.phdr_at.result no_phdr c.requires.there)
    c.put_phdr.ensures
